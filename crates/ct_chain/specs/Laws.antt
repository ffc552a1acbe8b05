-- What holds of every plan that is cut.
use Rattle.std.specs.Prelude.{◌≡◌, ℕ, ◌⊎◌, nat_eq, Bool, true, false, if◌then◌else◌, List, [], ◌∷◌}
use Rattle.std.specs.List.{filter, list_all}
use Rattle.ct_values.specs.Client.{db_of, key_of}
use Rattle.ct_values.specs.declared.client.ClientOp.{ClientOp}
use Rattle.ct_values.specs.declared.config.Config.{Config}
use Rattle.ct_script.specs.declared.plan.Plan.{Plan}
use Rattle.ct_script.specs.declared.plan.PlanItem.{PlanItem}
use Rattle.ct_script.specs.declared.plan.PlanItem.TheVariants.{Call, Round}
use Rattle.ct_rules_node.specs.Clients.{is_commit}
use Rattle.ct_script.specs.Sound.{script_of}
use Rattle.ct_chain.specs.Chains.{chain_of}
use Rattle.ct_chain.specs.Cut.{cut_one, in_chain}

-- Columns: two calls that speak of one record, of one database and key, have one chain
abbrev pub ColumnsAreApart : Type 0
ColumnsAreApart = (c : Config) (chains : ℕ) (a b : ClientOp) → is_commit a ≡ false → is_commit b ≡ false → db_of a ≡ db_of b → key_of a ≡ key_of b → chain_of c chains a ≡ chain_of c chains b

-- Columns: each call that stands in column i has the chain i
abbrev pub CallsHaveTheirChain : Type 0
CallsHaveTheirChain = (p : Plan) (chains i n : ℕ) → list_all (in_chain p.config chains i) (script_of (cut_one p chains i) n) ≡ true

-- the test finds no item but this one
abbrev pub FindsAlone : PlanItem → (PlanItem → Bool) → Type 0
FindsAlone x test = (y : PlanItem) → test y ≡ true → y ≡ x

-- Columns: a call is found in the column of its chain as often as in the whole script, and in no other
abbrev pub CallsStandOnce : Type 0
CallsStandOnce =
    (p : Plan) (chains i n : ℕ) (o : ClientOp) (test : PlanItem → Bool) → FindsAlone (Call o) test
    → filter test (script_of (cut_one p chains i) n) ≡ (if nat_eq (chain_of p.config chains o) i then filter test (script_of p n) else [])

-- Columns: a round is found in each column as often as in the whole script
abbrev pub RoundsStandInEach : Type 0
RoundsStandInEach =
    (p : Plan) (chains i n : ℕ) (members : List ℕ) (test : PlanItem → Bool) → FindsAlone (Round members) test → filter test (script_of (cut_one p chains i) n) ≡ filter test (script_of p n)

-- these items are left of a list once some were taken out of it: they stand in its order
unfoldable pub AreLeftOf : {X : Type 0} → List X → List X → Type 0
AreLeftOf [] ys = Unit {0}
AreLeftOf (x ∷ xs) [] = ⊥
AreLeftOf (x ∷ xs) (y ∷ ys) = ((x ≡ y) × AreLeftOf xs ys) ⊎ AreLeftOf (x ∷ xs) ys

-- Columns: what stands of a script in a column stands in the order of the script
abbrev pub OrderIsKept : Type 0
OrderIsKept = (p : Plan) (chains i n : ℕ) → AreLeftOf (script_of (cut_one p chains i) n) (script_of p n)
