use Rattle.std.proofs.Common.{ℕ, Global, List, Option, Vec, ◌∙◌, subst, sym}
use Rattle.std.specs.Prelude.{MatchOption}
use Rattle.ct_call.specs.Shown.{rules_of}
use Rattle.ct_rules_cluster.specs.declared.step.Step.{Step}
use Rattle.ct_journal.specs.Order.{AreInOrder}
use Rattle.ct_journal.specs.Schedules.{IsSchedule}
use Rattle.ct_journal_order.specs.Order.{IsOrderOf}
use Rattle.ct_journal_join_any.proofs.joined.join.Goals as goal

pub returns-in-Some : goal.returns-in-Some
returns-in-Some g c =
    let js = c.args.journals.now in
    let o : IsOrderOf js c.in-Some.order.items = subst (λ (v : Option (Vec ℕ Global)). MatchOption v (AreInOrder js → ⊥) (λ w. IsOrderOf js w.items)) c.in-Some.is c.in_ok-order.ensures in
    subst (λ (ss : List Step). IsSchedule c.args.config.now (rules_of c.args.table.now) js ss) (sym c.into_vec.ensures)
    (c.in_ok-steps.ensures.scheduled c.args.config.now (rules_of c.args.table.now) c.requires.runs o.in_order (sym o.same ∙ sym c.as_slice.ensures.value))
