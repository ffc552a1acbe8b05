-- A plan, cut by chains.
use Rattle.std.specs.Prelude.{ℕ, nat_eq, Bool, true, List, map}
use Rattle.std.specs.List.{filter}
use Rattle.ct_values.specs.declared.config.Config.{Config}
use Rattle.ct_script.specs.declared.plan.Plan.{Plan}
use Rattle.ct_script.specs.declared.plan.PlanItem.{PlanItem}
use Rattle.ct_script.specs.declared.plan.PlanItem.TheVariants.{Call, Round}
use Rattle.ct_rules_cluster.specs.Cluster.{numbers}
use Rattle.ct_chain.specs.Chains.{chain_of}

-- Columns: does the item stand in column i? A call does where that is its chain, and a round always.
unfoldable pub in_chain : Config → ℕ → ℕ → PlanItem → Bool
in_chain c chains i (Call o) = nat_eq (chain_of c chains o) i
in_chain c chains i (Round members) = true

-- what stands of a script in column i
abbrev pub cut_script : Config → ℕ → ℕ → List PlanItem → List PlanItem
cut_script c chains i script = filter (in_chain c chains i) script

-- Columns: the plan of column i has the nodes and databases of the whole plan, and what stands of each script in that column
abbrev pub cut_one : Plan → ℕ → ℕ → Plan
cut_one p chains i = record p { scripts = map (cut_script p.config chains i) p.scripts }

-- the plans of the columns, by their numbers from 0 on
abbrev pub cut : Plan → ℕ → List Plan
cut p chains = map (cut_one p chains) (numbers 0 chains)
