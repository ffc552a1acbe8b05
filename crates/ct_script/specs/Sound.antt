-- What is asked of a plan, so that its nodes can do it.
use Rattle.std.specs.Prelude.{◌≡◌, ℕ, ◌≤◌, nat_lt, Bool, true, false, ◌&&◌, List, [], length, Option, None, Some, Ok, slice_get}
use Rattle.std.specs.List.{list_all, list_any}
use Rattle.ct_values.specs.declared.address.Address.{Address}
use Rattle.ct_values.specs.Config.{Configures}
use Rattle.ct_values.specs.declared.config.Config.{Config}
use Rattle.ct_values.specs.declared.config.DbDecl.{DbDecl}
use Rattle.ct_frame.specs.Fields.{ascends}
use Rattle.ct_script.specs.declared.plan.Plan.{Plan}
use Rattle.ct_script.specs.declared.plan.PlanItem.{PlanItem}
use Rattle.ct_script.specs.declared.plan.PlanItem.TheVariants.{Call, Round}
use Rattle.ct_rules_node.specs.Coming.{is_allowed_op}
use Rattle.ct_rules_node.specs.Node.{is_among}

-- Plans: what node n may be told. A commit has 1 to 16 writes; the members of a round are nodes and ascend, node n among them.
unfoldable pub may_be_told : Config → ℕ → PlanItem → Bool
may_be_told c n (Call o) = is_allowed_op o
may_be_told c n (Round members) = ascends nat_lt members && list_all (λ m. nat_lt m c.nodes) members && is_among n members

unfoldable pub is_round : PlanItem → Bool
is_round (Call o) = false
is_round (Round members) = true

-- does the script have a round?
unfoldable pub has_round : List PlanItem → Bool
has_round script = list_any is_round script

-- the items, and none where there is no script
unfoldable pub or_no_items : Option (List PlanItem) → List PlanItem
or_no_items None = []
or_no_items (Some script) = script

-- Plans: the script of node n
unfoldable pub script_of : Plan → ℕ → List PlanItem
script_of p n = or_no_items (slice_get p.scripts n)

-- Plans: a plan is sound where its configuration is made of databases and addresses that are none's fault, and each of its nodes
-- has a script, of at most 4,096 items that this node may be told; rounds are in one script alone.
pub record IsSound (p : Plan) : Type 0 where
  pub config : (dbs : List DbDecl) × (addresses : List Address) × Configures (Ok p.config) p.config.nodes dbs addresses
  pub scripts : length p.scripts ≡ p.config.nodes
  pub short : (n : ℕ) → length (script_of p n) ≤ 4096
  pub told : (n : ℕ) → list_all (may_be_told p.config n) (script_of p n) ≡ true
  pub one_leader : (m n : ℕ) → has_round (script_of p m) ≡ true → has_round (script_of p n) ≡ true → m ≡ n
