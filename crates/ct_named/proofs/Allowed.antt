-- The steps that lines and commands make are as they are asked to be.
use Rattle.std.proofs.Common.{◌≡◌, ℕ, zero, suc, ◌+◌, ◌<◌, ◌≤◌, Bool, true, false, cond, List, ◌∷◌, length, refl, ap, subst, ◌∙◌, arith}
use Rattle.std.specs.Prelude.{filter, nat_lt, ◌&&◌}
use Rattle.std.proofs.lemmas.Bool.{lt-ltb}
use Rattle.ct_rules_cluster.specs.Cluster.{Cluster, everyone, is_up, numbers}
use Rattle.ct_rules_cluster.specs.Faults.{is_allowed}
use Rattle.ct_rules_cluster.specs.declared.step.Step.{Step}
use Rattle.ct_rules_cluster.specs.declared.step.Step.TheVariants as step
use Rattle.ct_frame.specs.Fields.{ascends, ascends_after, is_one_to_sixteen}
use Rattle.ct_lines.specs.Spelled.{ArePairs, IsChange, IsOp, IsStepCommand}
use Rattle.ct_lines.specs.declared.line.NamedOp.{NamedOp}
use Rattle.ct_lines.specs.declared.line.NamedOp.TheVariants as named
use Rattle.ct_lines.specs.declared.line.StepCommand.{StepCommand}
use Rattle.ct_lines.specs.declared.line.StepCommand.TheVariants as command
use Rattle.ct_values.specs.declared.client.Pair.{Pair}
use Rattle.ct_values.specs.declared.config.Config.{Config}
use Rattle.ct_rules_node.specs.Coming.{is_allowed_op}
use Rattle.ct_named.specs.Named.{command_step, named_step, running_nodes}

few_pairs : (pairs : List Pair) → ArePairs pairs → is_one_to_sixteen pairs ≡ true
few_pairs pairs h =
    ap (λ b. b && nat_lt (length pairs) 17) (lt-ltb 0 (length pairs) (let k : 1 ≤ length pairs = h.0 in omega arith)) ∙ lt-ltb (length pairs) 17 (let k : length pairs ≤ 16 = h.1 in omega arith)

-- a step that is a line of its own
pub change_allowed : (s : Step) → IsChange s → is_allowed s ≡ true
unfolding is_allowed
change_allowed (step.Client n o) h = absurd h
change_allowed (step.Deliver k) h = refl
change_allowed (step.Drop k) h = refl
change_allowed (step.Repeat k) h = refl
change_allowed (step.Retry n) h = refl
change_allowed (step.Vacuum n db) h = refl
change_allowed (step.Recover n members) h = h.1.3
change_allowed (step.Yield n) h = refl
change_allowed (step.Stop n) h = refl
change_allowed (step.Start n) h = refl
change_allowed (step.Takeover n) h = refl
change_allowed (step.Able n able) h = refl

pub deliver_allowed : (k : ℕ) → is_allowed (step.Deliver k) ≡ true
unfolding is_allowed
deliver_allowed k = refl

-- what is asked on a database that is named
pub named_allowed : (n db : ℕ) (asked : NamedOp) → IsOp asked → is_allowed (named_step n db asked) ≡ true
unfolding is_allowed is_allowed_op
named_allowed n db (named.Lock key) h = refl
named_allowed n db (named.Read key) h = refl
named_allowed n db (named.Unlock key) h = refl
named_allowed n db (named.Store key value) h = refl
named_allowed n db (named.Apply key function arg) h = refl
named_allowed n db (named.Commit pairs) h = few_pairs pairs h
named_allowed n db named.Vacuum h = refl

-- ---- the nodes that run ascend

rise_after : (p : ℕ → Bool) (x i k : ℕ) → x < i → ascends_after nat_lt x (filter p (numbers i k)) ≡ true
unfolding numbers
rise_after p x i zero h = refl
rise_after p x i (suc k) h =
    elim (p i) as (λ b. ascends_after nat_lt x (cond b (i ∷ filter p (numbers (i + 1) k)) (filter p (numbers (i + 1) k))) ≡ true) [
      | true ↦ ap (λ b. b && ascends_after nat_lt i (filter p (numbers (i + 1) k))) (lt-ltb x i h) ∙ rise_after p i (i + 1) k (omega arith)
      | false ↦ rise_after p x (i + 1) k (omega arith)
    ]

rise : (p : ℕ → Bool) (i k : ℕ) → ascends nat_lt (filter p (numbers i k)) ≡ true
unfolding numbers
rise p i zero = refl
rise p i (suc k) =
    elim (p i) as (λ b. ascends nat_lt (cond b (i ∷ filter p (numbers (i + 1) k)) (filter p (numbers (i + 1) k))) ≡ true) [
      | true ↦ rise_after p i (i + 1) k (omega arith)
      | false ↦ rise p (i + 1) k
    ]

running_ascend : (c : Config) (w : Cluster) → ascends nat_lt (running_nodes c w) ≡ true
unfolding everyone
running_ascend c w = rise (λ n. is_up n w) 0 c.nodes

-- ---- commands

allowed_step : (s t : Step) → is_allowed s ≡ true → s ≡ t → is_allowed t ≡ true
allowed_step s t h e = subst (λ x. is_allowed x ≡ true) e h

-- the step that a command is
pub command_allowed : (c : Config) (w : Cluster) (n : ℕ) (asked : StepCommand) (s : Step) → IsStepCommand asked → command_step c w n asked ≡ s → is_allowed s ≡ true
unfolding is_allowed is_allowed_op
command_allowed c w n command.Disable s h e = allowed_step _ s refl e
command_allowed c w n command.Enable s h e = allowed_step _ s refl e
command_allowed c w n (command.ReadKey db key) s h e = allowed_step _ s refl e
command_allowed c w n (command.WriteKey db key value) s h e = allowed_step _ s refl e
command_allowed c w n (command.DeleteKey db key) s h e = allowed_step _ s refl e
command_allowed c w n (command.PTrans db writes) s h e = allowed_step _ s (few_pairs writes h.1) e
command_allowed c w n command.Recover s h e = allowed_step _ s (running_ascend c w) e
