-- The plan that a seed makes: what each node's client asks, by the words of that node's generator.
use Rattle.std.specs.Prelude.{ℕ, zero, suc, ◌+◌, ◌/◌, ◌%◌, nat_eq, nat_lt, false, if◌then◌else◌, List, [], ◌∷◌, ◌++◌, map, codes, drop, take}
use Rattle.std.specs.Fmt.{decimal}
use Rattle.std.specs.List.{flat_map}
use Rattle.rand_pcg.specs.Lcg.{Lcg, increment_of, started}
use Rattle.rand_pcg.specs.Pcg.{multiplier_64, pcg32}
use Rattle.ct_script.specs.Generated.{generated_config}
use Rattle.ct_values.specs.declared.client.ClientOp.TheVariants as op
use Rattle.ct_values.specs.declared.client.Pair.{Pair}
use Rattle.ct_values.specs.declared.config.Config.{Config}
use Rattle.ct_rules_cluster.specs.Cluster.{everyone}
use Rattle.ct_script.specs.declared.plan.Plan.{Plan}
use Rattle.ct_script.specs.declared.plan.PlanItem.{PlanItem}
use Rattle.ct_script.specs.declared.plan.PlanItem.TheVariants.{Call, Round}

-- ---- what a word asks

-- which of the calls
unfoldable pub asked_kind : ℕ → ℕ
asked_kind w = w % 8

-- one of the keys `a` to `d`
unfoldable pub asked_letter : ℕ → ℕ
asked_letter w = 97 + w / 8 % 4

abbrev pub asked_key : ℕ → List ℕ
asked_key w = asked_letter w ∷ []

-- the place of the database `t` or `r`
unfoldable pub asked_db : ℕ → ℕ
asked_db w = if nat_eq (w / 32 % 2) 0 then 1 else 2

-- a number below 1,000
unfoldable pub asked_number : ℕ → ℕ
asked_number w = w / 64 % 1000

-- the value that is its decimal text
abbrev pub asked_value : ℕ → List ℕ
asked_value w = decimal (asked_number w)

abbrev pub asked_pair : ℕ → Pair
asked_pair w = record { key = asked_key w; value = asked_value w }

-- a commit of one write to the database `p`, under the lock of the key `p` of `g_lock`
abbrev pub locked_commit : ℕ → List PlanItem
locked_commit w = Call (op.Lock 0 (codes "p")) ∷ Call (op.Commit 3 (asked_pair w ∷ [])) ∷ Call (op.Unlock 0 (codes "p")) ∷ []

-- the call of a kind below 7
abbrev pub asked_op : ℕ → ℕ → PlanItem
asked_op w kind =
    if nat_lt kind 3
    then Call (op.Read (asked_db w) (asked_key w))
    else if nat_lt kind 6
    then Call (op.Write (asked_db w) (asked_key w) (asked_value w))
    else Call (op.Apply (asked_db w) (asked_key w) 1 (asked_value w))

-- what the client asks by this word: one call, or the three of a commit under its lock
unfoldable pub asked_by : ℕ → List PlanItem
asked_by w = if nat_eq (asked_kind w) 7 then locked_commit w else asked_op w (asked_kind w) ∷ []

-- ---- scripts

-- the generator of node n, on stream n + 1
unfoldable pub generator_of : ℕ → ℕ → Lcg
generator_of seed n = started 64 multiplier_64 seed (increment_of 64 (n + 1))

-- so many words of a generator, one after the other
unfoldable pub drawn : ℕ → Lcg → List ℕ
drawn zero g = []
drawn (suc n) g = (pcg32 g).0 ∷ drawn n (pcg32 g).1

-- node 0 leads one recovery, of all nodes
unfoldable pub led_by : Config → ℕ → List PlanItem
led_by c n = if nat_eq n 0 then Round (everyone c) ∷ [] else []

-- what these words ask, with what the node leads after half of them
unfoldable pub script_by : Config → ℕ → ℕ → List ℕ → List PlanItem
script_by c calls n words = flat_map asked_by (take (calls / 2) words) ++ led_by c n ++ flat_map asked_by (drop (calls / 2) words)

-- the script of node n: so many words are drawn, and each asks something
abbrev pub planned_script : Config → ℕ → ℕ → ℕ → List PlanItem
planned_script c calls seed n = script_by c calls n (drawn calls (generator_of seed n))

-- Plans: the plan that a seed makes, for so many nodes with so many words each; its nodes talk over no sockets
abbrev pub cluster_plan : ℕ → ℕ → ℕ → Plan
cluster_plan nodes calls seed =
    let c = generated_config nodes in
    record { config = c; scripts = map (planned_script c calls seed) (everyone c); net = false }
