use Rattle.std.proofs.Common.{List, subst, sym}
use Rattle.ct_script.specs.declared.plan.PlanItem.{PlanItem}
use Rattle.ct_cases_small.specs.Alone.{MayBeToldAlone}
use Rattle.ct_cases_small.proofs.serving_tests.looks_and_passes_are_listed.Goals as goal

pub lists_so-requires-clause-limits : goal.lists_so-requires-clause-limits
lists_so-requires-clause-limits g c = c.in_ok-config.ensures.limits

pub lists_so-requires-clause-one : goal.lists_so-requires-clause-one
lists_so-requires-clause-one g c = c.in_ok-config.ensures.one

pub lists_so-requires-clause-told : goal.lists_so-requires-clause-told
lists_so-requires-clause-told g c = subst (λ (items : List PlanItem). MayBeToldAlone items) (sym c.as_slice.ensures.value) c.in_ok-script.ensures.told
