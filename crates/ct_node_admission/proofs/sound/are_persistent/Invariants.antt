use Rattle.std.proofs.Common.{◌≡◌, ◌≤◌, drop, length}
use Rattle.std.specs.Prelude.{map, nat_eq}
use Rattle.std.specs.Cmp.Lexicographic.{pointwise}
use Rattle.ct_frame.specs.declared.frame.PTable.{PTable}
use Rattle.ct_rules_node.specs.Admission.{persistent_from}
use Rattle.ct_node_admission.proofs.sound.are_persistent.Given as goal

-- those before are the persistent ones of the databases before
abbrev pub invariant-loop-db : goal.invariant-loop-db
invariant-loop-db l =
    (l.at ≤ length l.ptables)
    × (pointwise nat_eq (map (λ (x : PTable). x.db) (drop l.at l.ptables)) (persistent_from l.db (drop l.db l.decls)) ≡ pointwise nat_eq (map (λ (x : PTable). x.db) l.ptables) (persistent_from 0 l.decls))
