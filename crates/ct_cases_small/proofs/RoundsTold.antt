-- A node that is alone may be told rounds of its own.
use Rattle.std.proofs.Common.{◌≡◌, ◌∙◌, true, List, [], ◌∷◌, ◌++◌, refl, subst, sym}
use Rattle.std.proofs.lemmas.Bool.{and_from}
use Rattle.std.proofs.lemmas.List.Folds.{list_all-append}
use Rattle.std.specs.List.{list_all}
use Rattle.ct_script.specs.declared.plan.PlanItem.{PlanItem}
use Rattle.ct_script.specs.declared.plan.PlanItem.TheVariants.{Round}
use Rattle.ct_values.specs.declared.config.Config.{Config}
use Rattle.ct_actor.specs.Journalled.{Journalled, at_opening}
use Rattle.ct_script.specs.Sound.{may_be_told}
use Rattle.ct_rules_node.specs.Node.{is_among}
use Rattle.ct_cases_small.specs.Alone.{MayBeToldAlone}

pub none_told : MayBeToldAlone []
none_told c one = refl

pub round_told : (item : PlanItem) → item ≡ Round (0 ∷ []) → MayBeToldAlone (item ∷ [])
unfolding may_be_told is_among
round_told item is c one = rw is (rw one refl)

pub one_more_told : (items more : List PlanItem) → MayBeToldAlone items → MayBeToldAlone more → MayBeToldAlone (items ++ more)
one_more_told items more h k c one = list_all-append (may_be_told c 0) items more ∙ and_from _ _ (h c one) (k c one)

pub told_at_opening : (c : Config) (x : Journalled) (items : List PlanItem) → MayBeToldAlone items → c.nodes ≡ 1 → x ≡ at_opening 0 c → list_all (may_be_told x.core.config x.core.pnn) items ≡ true
told_at_opening c x items h one is = subst (λ (y : Journalled). list_all (may_be_told y.core.config y.core.pnn) items ≡ true) (sym is) (h c one)
