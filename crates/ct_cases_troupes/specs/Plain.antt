-- Plans whose nodes do nothing but ask.
use Rattle.std.specs.Prelude.{nat_le, Bool, false, ◌&&◌, List, length}
use Rattle.std.specs.List.{list_all}
use Rattle.ct_script.specs.declared.plan.PlanItem.{PlanItem}
use Rattle.ct_script.specs.declared.plan.PlanItem.TheVariants.{Call, Round}
use Rattle.ct_rules_node.specs.Coming.{is_allowed_op}

-- is the item a call that may come?
unfoldable pub is_asked : PlanItem → Bool
is_asked (Call o) = is_allowed_op o
is_asked (Round members) = false

-- are all items such calls, 4,096 at most?
unfoldable pub asks_only : List PlanItem → Bool
asks_only script = nat_le (length script) 4096 && list_all is_asked script
