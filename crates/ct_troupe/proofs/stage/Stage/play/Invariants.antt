use Rattle.std.proofs.Common.{◌+◌, ◌-◌, ◌^◌, if◌then◌else◌}
use Rattle.ct_call.specs.Shown.{rules_of}
use Rattle.ct_troupe.proofs.Staging.{Going}
use Rattle.ct_troupe.proofs.stage.Stage.play.Given as goal
use Rattle.ct_troupe.specs.Stages.{seen}

abbrev pub invariant-loop-some : goal.invariant-loop-some
invariant-loop-some g l = Going (rules_of l.table) l.plan (seen l.self) l.some

abbrev pub decreases-loop-some : goal.decreases-loop-some
decreases-loop-some g l = (2 ^ 61 - l.self.count) + (if l.some then 1 else 0)
