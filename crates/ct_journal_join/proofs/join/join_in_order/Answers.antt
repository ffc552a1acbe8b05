use Rattle.std.proofs.Common.{◌∙◌, ℕ, Global, List, Option, Vec, subst, sym}
use Rattle.std.specs.Prelude.{MatchOption}
use Rattle.ct_rules_cluster.specs.declared.step.Step.{Step}
use Rattle.ct_journal.specs.Order.{AreInOrder}
use Rattle.ct_journal_order.specs.Order.{IsOrderOf}
use Rattle.ct_journal_join.proofs.Joining.{joins}
use Rattle.ct_journal_join.proofs.join.join_in_order.Goals as goal
use Rattle.ct_journal_join.specs.Joining.{SchedulesRuns}

pub returns : goal.returns
returns c =
    let js = c.args.journals.now in
    let ns = c.in-Some.order.items in
    let o : IsOrderOf js ns = subst (λ (v : Option (Vec ℕ Global)). MatchOption v (AreInOrder js → ⊥) (λ w. IsOrderOf js w.items)) c.in-Some.is c.in_ok-order.ensures in
    subst (λ (ss : List Step). AreInOrder js × SchedulesRuns js ss) (sym c.into_vec.ensures)
    (joins js ns c.in_ok-steps.steps o (λ k rules runs x e. c.in_ok-steps.ensures.scheduled k rules runs x (e ∙ sym c.as_slice.ensures.value)))
