use Rattle.std.proofs.Common.{List, arith, subst}
use Rattle.std.proofs.lemmas.List.{take_all}
use Rattle.std.specs.List.{AllZip}
use Rattle.ct_call.specs.Shown.{rules_of}
use Rattle.ct_script.specs.declared.plan.Plan.{Plan}
use Rattle.ct_troupe.proofs.Playing.{Plays, all_played}
use Rattle.ct_troupe.proofs.column_turns.play_each.Goals as goal

pub returns : goal.returns
returns g c =
    all_played (rules_of c.args.table.now) c.args.plans.now c.loop-plan.columns.items
    (subst (λ (ps : List Plan). AllZip (Plays (rules_of c.args.table.now)) ps c.loop-plan.columns.items) (take_all c.loop-plan.plan-index c.args.plans.now (omega (arith, c.loop-plan-test.false))) c.loop-plan.invariant)
