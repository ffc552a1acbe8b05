use Rattle.std.proofs.Common.{◌≡◌, drop}
use Rattle.ct_call.specs.Shown.{rules_of}
use Rattle.ct_schedule_text.specs.Counted.{steps_done}
use Rattle.ct_schedule_text.proofs.Steps.{told_after}
use Rattle.ct_schedule_text.proofs.schedule.play.Given as goal

-- what is told so far, and then what is told of the steps that are left
abbrev pub invariant-loop-step : goal.invariant-loop-step
invariant-loop-step g l =
    (l.world.config ≡ l.initial.world.config)
    × (told_after l.config l.text.items l.last (steps_done l.initial.world.config (rules_of l.table) l.world.cluster (drop l.step-index l.steps)) ≡ told_after l.config l.initial.text.items 0 (steps_done l.initial.world.config (rules_of l.table) l.initial.world.cluster l.steps))
