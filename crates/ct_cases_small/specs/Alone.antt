-- What a node may be told that is alone.
use Rattle.std.specs.Prelude.{◌≡◌, true, List}
use Rattle.std.specs.List.{list_all}
use Rattle.ct_values.specs.declared.config.Config.{Config}
use Rattle.ct_script.specs.declared.plan.PlanItem.{PlanItem}
use Rattle.ct_script.specs.Sound.{may_be_told}

-- node 0 may be told these items in each cluster of which it is the only node
abbrev pub MayBeToldAlone : List PlanItem → Type 0
MayBeToldAlone items = (c : Config) → c.nodes ≡ 1 → list_all (may_be_told c 0) items ≡ true
