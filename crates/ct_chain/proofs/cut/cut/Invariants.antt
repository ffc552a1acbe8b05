use Rattle.std.proofs.Common.{◌≡◌, ◌≤◌}
use Rattle.std.specs.Prelude.{map}
use Rattle.ct_rules_cluster.specs.Cluster.{numbers}
use Rattle.ct_chain.specs.Cut.{cut_one}
use Rattle.ct_chain.proofs.cut.cut.Given as goal

-- the plans of the columns below this one are there
abbrev pub invariant-loop-number : goal.invariant-loop-number
invariant-loop-number l = (l.number ≤ l.chains) × (l.columns.items ≡ map (cut_one l.plan l.chains) (numbers 0 l.number))
