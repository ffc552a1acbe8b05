-- The list of the calls that wait at a node: each is open, and each open one is in it.
use Rattle.std.proofs.Common.{◌≡◌, ℕ, zero, suc, ◌+◌, Bool, true, false, cond, ◌||◌, List, [], ◌∷◌, ◌++◌, Option, Some, None, refl, sym, ◌∙◌, ap, subst, arith, ⊎_elim}
use Rattle.std.specs.Prelude.{slice_get}
use Rattle.std.specs.Ordering.{is_eq}
use Rattle.std.specs.List.{AllByRecursion, list_any}
use Rattle.std.specs.List.Sorted.{IsStrictlySortedBy}
use Rattle.std.proofs.lemmas.Bool.{eq-eqb, or_right, cases_Bool}
use Rattle.ct_values.specs.Key.{key_cmp}
use Rattle.ct_values.specs.Client.{db_of, key_of}
use Rattle.ct_values.specs.declared.client.ClientOp.{ClientOp}
use Rattle.ct_store.specs.Map.{Pairs, Ascends, look}
use Rattle.ct_store.proofs.Maps.{one_key, equal}
use Rattle.ct_rules.specs.declared.state.RecState.{RecState}
use Rattle.ct_rules.specs.declared.state.Wish.{Wish}
use Rattle.ct_rules_node.specs.Clients.{is_commit}
use Rattle.ct_rules_node.specs.Node.{Node, Database, Committing, untouched, or_untouched, or_nothing, db_at, state_at}
use Rattle.ct_law_rules_node.specs.NodeLaws.{AllAscend}
use Rattle.ct_law_rules_node.proofs.Keys.{below_unseen}
use Rattle.ct_law_rules_node.proofs.Installed.{own_key}
use Rattle.ct_rules_cluster.specs.Cluster.{wished, wished_in, committing, pending_in}
use Rattle.ct_rules_cluster.specs.declared.step.PendingCall.{PendingCall}
use Rattle.ct_law_wishes.proofs.Wishing.{Wishful}
use Rattle.ct_law_generation.proofs.Pending.{is_call, look_tail, look_head, next_index, zero_more, node_any, left_any, right_any, records_any, wished_any}
use Rattle.ct_lcp2.proofs.Choices.{all_append}
use Rattle.ct_law_generation.proofs.Opened.{Opened}
use Rattle.ct_law_generation.proofs.Accounts.{Wished, Committed, wish_call, commit_call, place_commit, place_wish, Stands}

-- the call is open, of its node and with what it asked
unfoldable pub Fits : ℕ → Opened → PendingCall → Type 0
Fits n who x = (who x.call ≡ Some (x.node, x.op)) × (x.node ≡ n)

wished_fits : (who : Opened) (n db : ℕ) (key : List ℕ) (w : Option Wish) → Wishful (Wished n who db key) w → AllByRecursion (Fits n who) (wished n w)
unfolding Wishful Wished wished Fits
wished_fits who n db key None h = tt
wished_fits who n db key (Some w) h = ((h.0, refl), tt)

unfoldable KnownAt : Opened → ℕ → ℕ → List ℕ → Option RecState → Type 0
KnownAt who n db key s = Wishful (Wished n who db key) (or_nothing s).wish

none_known : (who : Opened) (n db : ℕ) (key : List ℕ) → KnownAt who n db key None
unfolding KnownAt or_nothing Wishful
none_known who n db key = tt

records_fit : (who : Opened) (n db : ℕ) (m : Pairs RecState) → Ascends m → ((key : List ℕ) → KnownAt who n db key (look key m)) → AllByRecursion (Fits n who) (wished_in n m)
unfolding wished_in IsStrictlySortedBy KnownAt or_nothing Wishful
records_fit who n db [] h all = tt
records_fit who n db (e ∷ m) h all = all_append (Fits n who) (wished n e.1.wish) (wished_in n m)
    (one (look_head (KnownAt who n db) e m all))
    (records_fit who n db m h.1 (look_tail (KnownAt who n db) e m h (none_known who n db) all))
  where
    one : KnownAt who n db e.0 (Some e.1) → AllByRecursion (Fits n who) (wished n e.1.wish)
    one k = wished_fits who n db e.0 e.1.wish k

committing_fits : (who : Opened) (n db : ℕ) (x : Option Committing) → Committed n who db x → AllByRecursion (Fits n who) (committing n db x)
unfolding Committed committing Fits
committing_fits who n db None h = tt
committing_fits who n db (Some x) h = ((h, refl), tt)

node_fits : (who : Opened) (n i : ℕ) (ds : List Database) → AllAscend ds → ((k : ℕ) (key : List ℕ) → KnownAt who n (i + k) key (look key (or_untouched (slice_get ds k)).records)) → ((k : ℕ) → Committed n who (i + k) (or_untouched (slice_get ds k)).commit) →
    AllByRecursion (Fits n who) (pending_in n i ds)
unfolding pending_in AllAscend or_untouched
node_fits who n i [] h all commits = tt
node_fits who n i (d ∷ ds) h all commits =
    all_append (Fits n who) (wished_in n d.records ++ committing n i d.commit) (pending_in n (i + 1) ds)
    (all_append (Fits n who) (wished_in n d.records) (committing n i d.commit)
    (records_fit who n i d.records h.0 (λ key. subst (λ (j : ℕ). KnownAt who n j key (look key d.records)) (omega arith) (all 0 key)))
    (committing_fits who n i d.commit (subst (λ (j : ℕ). Committed n who j d.commit) (omega arith) (commits 0))))
    (node_fits who n (i + 1) ds h.1 (λ k key. subst (λ (j : ℕ). KnownAt who n j key (look key (or_untouched (slice_get ds k)).records)) (next_index i k) (all (suc k) key))
    (λ k. subst (λ (j : ℕ). Committed n who j (or_untouched (slice_get ds k)).commit) (next_index i k) (commits (suc k))))

committing_any : (n db : ℕ) (o : Option Committing) (y : Committing) → o ≡ Some y → list_any (is_call y.call) (committing n db o) ≡ true
unfolding committing is_call
committing_any n db None y e = absurd (cc)
committing_any n db (Some v) y e = (let same : v ≡ y = cc in rw (eq-eqb v.call y.call (ap (λ (x : Committing). x.call) same)) refl)

pub commit_any : (n i k : ℕ) (ds : List Database) (y : Committing) → (or_untouched (slice_get ds k)).commit ≡ Some y → list_any (is_call y.call) (pending_in n i ds) ≡ true
unfolding pending_in or_untouched untouched
commit_any n i k [] y e = absurd (cc)
commit_any n i zero (d ∷ ds) y e = left_any (is_call y.call) (wished_in n d.records ++ committing n i d.commit) (pending_in n (i + 1) ds)
    (right_any (is_call y.call) (wished_in n d.records) (committing n i d.commit) (committing_any n i d.commit y e))
commit_any n i (suc k) (d ∷ ds) y e = right_any (is_call y.call) (wished_in n d.records ++ committing n i d.commit) (pending_in n (i + 1) ds) (commit_any n (i + 1) k ds y e)

-- ---- a node

pub stands_fit : (n : ℕ) (who : Opened) (x : Node) → Stands n who x → AllByRecursion (Fits n who) (pending_in n 0 x.dbs)
unfolding KnownAt state_at db_at
stands_fit n who x s = node_fits who n 0 x.dbs s.order (λ k key. subst (λ (j : ℕ). Wishful (Wished n who j key) (or_nothing (look key (or_untouched (slice_get x.dbs k)).records)).wish) (zero_more k) (s.wishes k key))
    (λ k. subst (λ (j : ℕ). Committed n who j (or_untouched (slice_get x.dbs k)).commit) (zero_more k) (s.commits k))

wish_there : (w : Option Wish) (k : ℕ) → wish_call w ≡ Some k → (x : Wish) × (w ≡ Some x) × (x.call ≡ k)
unfolding wish_call
wish_there None k e = absurd (cc)
wish_there (Some w) k e = (w, refl, (let same : w.call ≡ k = cc in same))

commit_there : (w : Option Committing) (k : ℕ) → commit_call w ≡ Some k → (x : Committing) × (w ≡ Some x) × (x.call ≡ k)
unfolding commit_call
commit_there None k e = absurd (cc)
commit_there (Some w) k e = (w, refl, (let same : w.call ≡ k = cc in same))

pub stands_any : (n : ℕ) (who : Opened) (x : Node) (k : ℕ) (o : ClientOp) → Stands n who x → who k ≡ Some (n, o) → list_any (is_call k) (pending_in n 0 x.dbs) ≡ true
unfolding state_at db_at
stands_any n who x k o s e = ⊎_elim
    (λ (co : is_commit o ≡ true). (let y = commit_there (db_at (db_of o) x).commit k (sym (place_commit o x co) ∙ s.waits k o e) in
    subst (λ (i : ℕ). list_any (is_call i) (pending_in n 0 x.dbs) ≡ true) y.2 (commit_any n 0 (db_of o) x.dbs y.0 y.1)))
    (λ (no : is_commit o ≡ false). (let y = wish_there (state_at (db_of o) (key_of o) x).wish k (sym (place_wish o x no) ∙ s.waits k o e) in
    subst (λ (i : ℕ). list_any (is_call i) (pending_in n 0 x.dbs) ≡ true) y.2 (node_any n 0 (db_of o) x.dbs (key_of o) y.0 y.1)))
    (cases_Bool (is_commit o))
