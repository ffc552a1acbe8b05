-- The calls that wait at a node are all before a number exactly where that number comes after all of them.
use Rattle.std.proofs.Common.{◌≡◌, ℕ, ◌+◌, Bool, true, false, ◌&&◌, List, [], ◌∷◌, ◌++◌, Option, None, Some, refl, sym, ◌∙◌, ap}
use Rattle.std.specs.Prelude.{nat_lt}
use Rattle.std.specs.List.{list_all}
use Rattle.std.proofs.lemmas.Bool.{cond_both}
use Rattle.std.proofs.lemmas.List.Folds.{list_all-append}
use Rattle.ct_rules_cluster.specs.Cluster.{committing, pending_in, wished, wished_in}
use Rattle.ct_rules_cluster.specs.declared.step.PendingCall.{PendingCall}
use Rattle.ct_store.specs.Map.{Pairs}
use Rattle.ct_rules.specs.declared.state.RecState.{RecState}
use Rattle.ct_rules.specs.declared.state.Wish.{Wish}
use Rattle.ct_rules_node.specs.Coming.{is_after_commit, is_after_pending}
use Rattle.ct_rules_node.specs.Node.{Committing, Database, Node}
use Rattle.ct_rules_node.specs.Numbered.{by_number, ranked}
use Rattle.ct_rules_node.specs.Rounds.{Called, called_of, calls_in, calls_of, pending_calls}

swapped : (a b d : Bool) → (a && (b && d)) ≡ (b && (a && d))
swapped true b d = refl
swapped false true d = refl
swapped false false d = refl

-- ---- the order of a list says nothing of what holds of each item

module _ {X : Type 0} (number : X → ℕ) (f : X → Bool) where
  ranked_each : (x : X) (ys : List X) → list_all f (ranked number x ys) ≡ (f x && list_all f ys)
  unfolding ranked
  ranked_each x [] = refl
  ranked_each x (y ∷ ys) = cond_both (nat_lt (number y) (number x)) _ _ (λ l. list_all f l ≡ (f x && (f y && list_all f ys)))
      (λ _. ap (λ (b : Bool). f y && b) (ranked_each x ys) ∙ swapped (f y) (f x) (list_all f ys)) (λ _. refl)

  numbered_each : (xs : List X) → list_all f (by_number number xs) ≡ list_all f xs
  unfolding by_number
  numbered_each [] = refl
  numbered_each (x ∷ xs) = ranked_each x (by_number number xs) ∙ ap (λ (b : Bool). f x && b) (numbered_each xs)

-- ---- the same calls, as the rules of a node and of a cluster list them

joined : (a x c y : Bool) → ((a && c) && (x && y)) ≡ ((a && x) && (c && y))
joined false x c y = refl
joined true true c y = refl
joined true false true y = refl
joined true false false y = refl

cong2 : {a b x y : Bool} → a ≡ b → x ≡ y → (a && x) ≡ (b && y)
cong2 e f = cc

alone : (a : Bool) → (a && true) ≡ a
alone true = refl
alone false = refl

wish_is : (b n db : ℕ) (key : List ℕ) (w : Option Wish) → list_all (λ x. nat_lt x.call b) (wished n w) ≡ list_all (λ x. nat_lt x.call b) (called_of db key w)
unfolding wished called_of
wish_is b n db key None = refl
wish_is b n db key (Some w) = refl

commit_is : (b n db : ℕ) (c : Option Committing) → list_all (λ x. nat_lt x.call b) (committing n db c) ≡ is_after_commit b c
unfolding committing is_after_commit
commit_is b n db None = refl
commit_is b n db (Some x) = alone (nat_lt x.call b)

wishes_are : (b n db : ℕ) (m : Pairs RecState) → list_all (λ x. nat_lt x.call b) (wished_in n m) ≡ list_all (λ x. nat_lt x.call b) (calls_of db m)
unfolding wished_in calls_of
wishes_are b n db [] = refl
wishes_are b n db (e ∷ m) =
    list_all-append (λ x. nat_lt x.call b) (wished n e.1.wish) (wished_in n m)
    ∙ cong2 (wish_is b n db e.0 e.1.wish) (wishes_are b n db m)
    ∙ sym (list_all-append (λ x. nat_lt x.call b) (called_of db e.0 e.1.wish) (calls_of db m))

calls_are : (b n i : ℕ) (ds : List Database) → list_all (λ x. nat_lt x.call b) (pending_in n i ds) ≡ (list_all (λ x. nat_lt x.call b) (calls_in i ds) && list_all (λ d. is_after_commit b d.commit) ds)
unfolding pending_in calls_in
calls_are b n i [] = refl
calls_are b n i (d ∷ ds) =
    list_all-append (λ x. nat_lt x.call b) (wished_in n d.records ++ committing n i d.commit) (pending_in n (i + 1) ds)
    ∙ cong2 (list_all-append (λ x. nat_lt x.call b) (wished_in n d.records) (committing n i d.commit) ∙ cong2 (wishes_are b n i d.records) (commit_is b n i d.commit)) (calls_are b n (i + 1) ds)
    ∙ joined (list_all (λ x. nat_lt x.call b) (calls_of i d.records)) (list_all (λ x. nat_lt x.call b) (calls_in (i + 1) ds)) (is_after_commit b d.commit) (list_all (λ d. is_after_commit b d.commit) ds)
    ∙ ap (λ (t : Bool). t && (is_after_commit b d.commit && list_all (λ d. is_after_commit b d.commit) ds)) (sym (list_all-append (λ x. nat_lt x.call b) (calls_of i d.records) (calls_in (i + 1) ds)))

all_are_before : (b m : ℕ) (n : Node) → list_all (λ x. nat_lt x.call b) (by_number (λ x. x.call) (pending_in m 0 n.dbs)) ≡ is_after_pending b n
unfolding is_after_pending pending_calls
all_are_before b m n =
    numbered_each (λ (x : PendingCall). x.call) (λ (x : PendingCall). nat_lt x.call b) (pending_in m 0 n.dbs)
    ∙ calls_are b m 0 n.dbs
    ∙ ap (λ (t : Bool). t && list_all (λ d. is_after_commit b d.commit) n.dbs) (sym (numbered_each (λ (x : Called). x.call) (λ (x : Called). nat_lt x.call b) (calls_in 0 n.dbs)))

-- the calls that a node lists are all before a number exactly where it is after all that wait
pub before_all : (b m : ℕ) (n : Node) (xs ys : List PendingCall) (r : Bool) → xs ≡ by_number (λ x. x.call) (pending_in m 0 n.dbs) → ys ≡ xs → r ≡ list_all (λ x. nat_lt x.call b) ys → r ≡ is_after_pending b n
before_all b m n xs ys r listed same is = is ∙ ap (list_all (λ x. nat_lt x.call b)) (same ∙ listed) ∙ all_are_before b m n
