use Rattle.std.proofs.Common.{take}
use Rattle.std.specs.List.{AllZip}
use Rattle.ct_call.specs.Shown.{rules_of}
use Rattle.ct_troupe.proofs.Playing.{Plays}
use Rattle.ct_troupe.proofs.column_turns.play_each.Given as goal

-- the plans so far are played
abbrev pub invariant-loop-plan : goal.invariant-loop-plan
invariant-loop-plan g l = AllZip (Plays (rules_of l.table)) (take l.plan-index l.plans) l.columns.items
