-- The databases of a node at the opening and after a stop.
use Rattle.std.proofs.Common.{◌≡◌, ℕ, suc, List, [], ◌∷◌, length, map, refl, ap}
use Rattle.std.proofs.lemmas.List.{length-map}
use Rattle.ct_values.specs.declared.config.Config.{Config}
use Rattle.ct_store.proofs.Maps.{empty_ascends}
use Rattle.ct_rules.specs.declared.state.RecState.{RecState}
use Rattle.ct_rules_node.specs.Node.{Node, Database, untouched, untouched_all, opening, restarted_db, restarted}
use Rattle.ct_law_rules_node.specs.NodeLaws.{AllAscend, NodeAscends}

untouched_length : {X : Type 0} (xs : List X) → length (untouched_all xs) ≡ length xs
unfolding untouched_all
untouched_length [] = refl
untouched_length (x ∷ xs) = ap suc (untouched_length xs)

untouched_order : {X : Type 0} (xs : List X) → AllAscend (untouched_all xs)
unfolding untouched_all untouched AllAscend
untouched_order [] = tt
untouched_order (x ∷ xs) = (empty_ascends RecState, untouched_order xs)

restarted_order : (dbs : List Database) → AllAscend (map restarted_db dbs)
unfolding restarted_db untouched AllAscend
restarted_order [] = tt
restarted_order (d ∷ ds) = (empty_ascends RecState, restarted_order ds)

pub starts_in_order : (c : Config) (members : List ℕ) → (length (opening c members).dbs ≡ length c.dbs) × NodeAscends (opening c members)
unfolding opening
starts_in_order c members = (untouched_length c.dbs, untouched_order c.dbs)

pub restarts_in_order : (c : Config) (n : Node) → (length (restarted c n).dbs ≡ length n.dbs) × NodeAscends (restarted c n)
unfolding restarted
restarts_in_order c n = (length-map n.dbs restarted_db, restarted_order n.dbs)
