-- The calls that wait at a node are of databases that are there.
use Rattle.std.proofs.Common.{◌≡◌, ℕ, ◌+◌, ◌<◌, ◌≤◌, List, [], ◌∷◌, length, Option, None, Some, arith}
use Rattle.std.specs.List.{AllByRecursion}
use Rattle.ct_rules.specs.declared.state.RecState.{RecState}
use Rattle.ct_rules.specs.declared.state.Wish.{Wish}
use Rattle.ct_rules_node.specs.Node.{Node, Database}
use Rattle.ct_rules_node.specs.Rounds.{Called, called_of, calls_in, calls_of, pending_calls}
use Rattle.ct_store.specs.Map.{Pairs}
use Rattle.ct_law_rules_node.proofs.Numbered.{numbered_all}
use Rattle.ct_law_rules_node.proofs.Tables.{all_of_both}

called_there : (db : ℕ) (key : List ℕ) (w : Option Wish) (n : ℕ) → db < n → AllByRecursion (λ (x : Called). x.db < n) (called_of db key w)
unfolding called_of
called_there db key None n l = tt
called_there db key (Some w) n l = (l, tt)

calls_there : (db : ℕ) (m : Pairs RecState) (n : ℕ) → db < n → AllByRecursion (λ (x : Called). x.db < n) (calls_of db m)
unfolding calls_of
calls_there db [] n l = tt
calls_there db (e ∷ m) n l = all_of_both (λ (x : Called). x.db < n) (called_of db e.0 e.1.wish) (calls_of db m) (called_there db e.0 e.1.wish n l) (calls_there db m n l)

all_there : (i : ℕ) (ds : List Database) (n : ℕ) → i + length ds ≤ n → AllByRecursion (λ (x : Called). x.db < n) (calls_in i ds)
unfolding calls_in
all_there i [] n l = tt
all_there i (d ∷ ds) n l = all_of_both (λ (x : Called). x.db < n) (calls_of i d.records) (calls_in (i + 1) ds) (calls_there i d.records n (omega (arith, l))) (all_there (i + 1) ds n (omega (arith, l)))

pub pending_there : (n : Node) → AllByRecursion (λ (x : Called). x.db < length n.dbs) (pending_calls n)
unfolding pending_calls
pending_there n = numbered_all (λ (x : Called). x.call) (λ (x : Called). x.db < length n.dbs) (calls_in 0 n.dbs) (all_there 0 n.dbs (length n.dbs) (omega arith))
