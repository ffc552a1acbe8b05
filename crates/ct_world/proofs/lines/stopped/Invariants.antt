use Rattle.std.proofs.Common.{◌≡◌, ◌∷◌, ◌++◌}
use Rattle.ct_rules_cluster.specs.Steps.{gone}
use Rattle.ct_rules_cluster.specs.declared.step.Line.TheVariants as line
use Rattle.ct_world.proofs.lines.stopped.Given as goal

-- what is told and what is left to tell is the whole
abbrev pub invariant-loop-pending : goal.invariant-loop-pending
invariant-loop-pending l = l.lines.items ++ gone l.pending-iterator.rest.items ≡ line.Stopped l.node ∷ gone l.initial.pending-iterator.rest.items
