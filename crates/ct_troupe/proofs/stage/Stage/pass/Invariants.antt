use Rattle.ct_call.specs.Shown.{rules_of}
use Rattle.ct_troupe.proofs.Staging.{Passing}
use Rattle.ct_troupe.proofs.stage.Stage.pass.Given as goal
use Rattle.ct_troupe.specs.Stages.{seen}

abbrev pub invariant-loop-node : goal.invariant-loop-node
invariant-loop-node g l = Passing (rules_of l.table) l.plan (seen l.initial.self) (seen l.self) l.node l.some
