use Rattle.std.proofs.Common.{◌≡◌, drop}
use Rattle.std.specs.Prelude.{nat_lt}
use Rattle.std.specs.List.{list_all}
use Rattle.ct_rules_node.specs.Admission.{masters_in}
use Rattle.ct_node_admission.proofs.sound.have_masters.Given as goal

-- the data masters of the rows before are nodes
abbrev pub invariant-loop-row : goal.invariant-loop-row
invariant-loop-row l = list_all (λ n. nat_lt n l.config.nodes) (masters_in (drop l.row-index l.table)) ≡ list_all (λ n. nat_lt n l.config.nodes) (masters_in l.table)
