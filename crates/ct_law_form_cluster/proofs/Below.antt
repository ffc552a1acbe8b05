-- The calls that wait at a node have numbers below one: said of each record and of each commit, and of all of them in order.
use Rattle.std.proofs.Common.{◌≡◌, ℕ, ◌+◌, ◌<◌, true, List, [], ◌∷◌, ◌++◌, Option, Some, None, refl}
use Rattle.std.proofs.lemmas.Bool.{and_from, and_parts, lt-ltb, ltb-true}
use Rattle.std.specs.Prelude.{nat_lt}
use Rattle.std.specs.List.{AllByRecursion, list_all}
use Rattle.ct_values.specs.declared.client.ClientOp.{ClientOp}
use Rattle.ct_store.specs.Map.{Pairs}
use Rattle.ct_rules.specs.declared.state.RecState.{RecState}
use Rattle.ct_rules.specs.declared.state.Wish.{Wish}
use Rattle.ct_rules_node.specs.Coming.{is_after_commit, is_after_pending}
use Rattle.ct_rules_node.specs.Node.{Committing, Database, Node}
use Rattle.ct_rules_node.specs.Rounds.{Called, called_of, calls_in, calls_of, pending_calls}
use Rattle.ct_law_rules_node.proofs.Numbered.{numbered_all, unnumbered}
use Rattle.ct_law_wishes.proofs.Wishing.{Wishful}

-- a call with a number below b
abbrev pub Below : ℕ → ℕ → ClientOp → Type 0
Below b call asked = call < b

-- the call of the wish is one
abbrev pub WishBelow : ℕ → RecState → Type 0
WishBelow b s = Wishful (Below b) s.wish

-- the call of the commit that waits is one
unfoldable pub CommitBelow : ℕ → Option Committing → Type 0
CommitBelow b None = Unit {0}
CommitBelow b (Some x) = x.call < b

-- all calls that wait in a database are
pub record BaseBelow (b : ℕ) (d : Database) : Type 0 where
  pub wishes : AllByRecursion (λ e. WishBelow b e.1) d.records
  pub commit : CommitBelow b d.commit

-- all calls that wait at a node are
abbrev pub NodeBelow : ℕ → Node → Type 0
NodeBelow b n = AllByRecursion (BaseBelow b) n.dbs

-- ---- of all in order

abbrev CallBelow : ℕ → Called → Type 0
CallBelow b x = x.call < b

both_below : (b : ℕ) (xs ys : List Called) → AllByRecursion (CallBelow b) xs → AllByRecursion (CallBelow b) ys → AllByRecursion (CallBelow b) (xs ++ ys)
both_below b [] ys h k = k
both_below b (x ∷ xs) ys h k = (h.0, both_below b xs ys h.1 k)

split_below : (b : ℕ) (xs ys : List Called) → AllByRecursion (CallBelow b) (xs ++ ys) → AllByRecursion (CallBelow b) xs × AllByRecursion (CallBelow b) ys
split_below b [] ys h = (tt, h)
split_below b (x ∷ xs) ys h = (let r = split_below b xs ys h.1 in ((h.0, r.0), r.1))

called_below : (b db : ℕ) (key : List ℕ) (w : Option Wish) → Wishful (Below b) w → AllByRecursion (CallBelow b) (called_of db key w)
unfolding called_of Wishful
called_below b db key None h = tt
called_below b db key (Some w) h = (h, tt)

below_called : (b db : ℕ) (key : List ℕ) (w : Option Wish) → AllByRecursion (CallBelow b) (called_of db key w) → Wishful (Below b) w
unfolding called_of Wishful
below_called b db key None h = tt
below_called b db key (Some w) h = h.0

calls_below : (b db : ℕ) (m : Pairs RecState) → AllByRecursion (λ e. WishBelow b e.1) m → AllByRecursion (CallBelow b) (calls_of db m)
unfolding calls_of
calls_below b db [] h = tt
calls_below b db (e ∷ m) h = both_below b (called_of db e.0 e.1.wish) (calls_of db m) (called_below b db e.0 e.1.wish h.0) (calls_below b db m h.1)

below_calls : (b db : ℕ) (m : Pairs RecState) → AllByRecursion (CallBelow b) (calls_of db m) → AllByRecursion (λ e. WishBelow b e.1) m
unfolding calls_of
below_calls b db [] h = tt
below_calls b db (e ∷ m) h = (let p = split_below b (called_of db e.0 e.1.wish) (calls_of db m) h in (below_called b db e.0 e.1.wish p.0, below_calls b db m p.1))

all_calls_below : (b i : ℕ) (ds : List Database) → AllByRecursion (BaseBelow b) ds → AllByRecursion (CallBelow b) (calls_in i ds)
unfolding calls_in
all_calls_below b i [] h = tt
all_calls_below b i (d ∷ ds) h = both_below b (calls_of i d.records) (calls_in (i + 1) ds) (calls_below b i d.records h.0.wishes) (all_calls_below b (i + 1) ds h.1)

commit_after : (b : ℕ) (x : Option Committing) → CommitBelow b x → is_after_commit b x ≡ true
unfolding CommitBelow is_after_commit
commit_after b None h = refl
commit_after b (Some x) h = lt-ltb x.call b h

after_commit : (b : ℕ) (x : Option Committing) → is_after_commit b x ≡ true → CommitBelow b x
unfolding CommitBelow is_after_commit
after_commit b None h = tt
after_commit b (Some x) h = ltb-true x.call b h

all_commits_after : (b : ℕ) (ds : List Database) → AllByRecursion (BaseBelow b) ds → list_all (λ d. is_after_commit b d.commit) ds ≡ true
all_commits_after b [] h = refl
all_commits_after b (d ∷ ds) h = and_from (is_after_commit b d.commit) _ (commit_after b d.commit h.0.commit) (all_commits_after b ds h.1)

all_true : (b : ℕ) (xs : List Called) → AllByRecursion (CallBelow b) xs → list_all (λ x. nat_lt x.call b) xs ≡ true
all_true b [] h = refl
all_true b (x ∷ xs) h = and_from (nat_lt x.call b) _ (lt-ltb x.call b h.0) (all_true b xs h.1)

true_all : (b : ℕ) (xs : List Called) → list_all (λ x. nat_lt x.call b) xs ≡ true → AllByRecursion (CallBelow b) xs
true_all b [] h = tt
true_all b (x ∷ xs) h = (let p = and_parts (nat_lt x.call b) (list_all (λ x. nat_lt x.call b) xs) h in (ltb-true x.call b p.0, true_all b xs p.1))

-- all that wait are after, and the other way round
pub is_after : (b : ℕ) (n : Node) → NodeBelow b n → is_after_pending b n ≡ true
unfolding is_after_pending pending_calls
is_after b n h = and_from _ _ (all_true b _ (numbered_all (λ (x : Called). x.call) (CallBelow b) (calls_in 0 n.dbs) (all_calls_below b 0 n.dbs h))) (all_commits_after b n.dbs h)

bases_below : (b i : ℕ) (ds : List Database) → AllByRecursion (CallBelow b) (calls_in i ds) → list_all (λ d. is_after_commit b d.commit) ds ≡ true → AllByRecursion (BaseBelow b) ds
unfolding calls_in
bases_below b i [] h k = tt
bases_below b i (d ∷ ds) h k =
    let p = split_below b (calls_of i d.records) (calls_in (i + 1) ds) h in
    let q = and_parts (is_after_commit b d.commit) (list_all (λ d. is_after_commit b d.commit) ds) k in
    (record { wishes = below_calls b i d.records p.0; commit = after_commit b d.commit q.0 }, bases_below b (i + 1) ds p.1 q.1)

pub is_below : (b : ℕ) (n : Node) → is_after_pending b n ≡ true → NodeBelow b n
unfolding is_after_pending pending_calls
is_below b n e =
    let p = and_parts (list_all (λ x. nat_lt x.call b) (pending_calls n)) (list_all (λ d. is_after_commit b d.commit) n.dbs) e in
    bases_below b 0 n.dbs (unnumbered (λ (x : Called). x.call) (CallBelow b) (calls_in 0 n.dbs) (true_all b _ p.0)) p.1
