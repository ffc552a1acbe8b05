use Rattle.std.proofs.Common.{List, subst, sym}
use Rattle.ct_script.specs.declared.plan.PlanItem.{PlanItem}
use Rattle.ct_cases_small.specs.Alone.{MayBeToldAlone}
use Rattle.ct_cases_small.proofs.serving_tests.each_call_of_a_link_fails.Goals as goal

pub serves_so-requires-clause-limits : goal.serves_so-requires-clause-limits
serves_so-requires-clause-limits g c = c.in_ok-config.ensures.limits

pub serves_so-requires-clause-one : goal.serves_so-requires-clause-one
serves_so-requires-clause-one g c = c.in_ok-config.ensures.one

pub serves_so-requires-clause-told : goal.serves_so-requires-clause-told
serves_so-requires-clause-told g c = subst (λ (items : List PlanItem). MayBeToldAlone items) (sym c.as_slice.ensures.value) c.in_ok-script.ensures.told
