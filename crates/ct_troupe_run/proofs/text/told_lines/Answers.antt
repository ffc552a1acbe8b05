use Rattle.std.proofs.Common.{ℕ, Global, List, Option, Vec, subst}
use Rattle.std.specs.Prelude.{MatchOption}
use Rattle.ct_journal.specs.Order.{AreInOrder}
use Rattle.ct_journal_order.specs.Order.{IsOrderOf}
use Rattle.ct_schedule_text.specs.Telling.{AreLines, AreUntold}
use Rattle.ct_schedule_text.specs.declared.telling.Lines.{Lines}
use Rattle.ct_troupe_run.proofs.Told.{untold_in_order}
use Rattle.ct_troupe_run.proofs.text.told_lines.Goals as goal

pub returns : goal.returns
returns c =
    let js = c.args.journals.now in
    let order = c.as_slice.result.now in
    let is : IsOrderOf js c.in-Some.order.items = subst (λ (v : Option (Vec ℕ Global)). MatchOption v (AreInOrder js → ⊥) (λ w. IsOrderOf js w.items)) c.in-Some.is c.in_ok-order.ensures in
    let left : AreUntold js order = subst (λ (v : Option Lines). MatchOption v (AreUntold js order) (λ w. AreLines c.args.plan.now.config js order w.text.items w.sent)) c.in-None.is c.in_ok-lines.ensures in
    untold_in_order js c.in-Some.order.items is (subst (λ (ns : List ℕ). AreUntold js ns) c.as_slice.ensures.value left)
