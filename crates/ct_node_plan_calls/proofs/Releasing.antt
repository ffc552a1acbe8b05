-- What the end of a lock makes of a node.
use Rattle.std.proofs.Common.{◌≡◌, ◌∙◌, ℕ, Bool, true, false, cond, List, Option, None, Some, refl, sym, ap, subst}
use Rattle.std.specs.Prelude.{Result, Err}
use Rattle.ct_frame.specs.declared.frame.Msg.TheVariants as msg
use Rattle.ct_values.specs.declared.config.Config.{Config}
use Rattle.ct_node_plan.specs.Changes.{Plans}
use Rattle.ct_node_plan.specs.declared.change.Planned.{Planned}
use Rattle.ct_lead.specs.Member.{waits_for}
use Rattle.ct_rules.specs.Moves.{release, unlock}
use Rattle.ct_rules.specs.Parts.{Moving}
use Rattle.ct_rules_node.specs.Clients.{any_locked, frozen_if_unlocked, unlocks}
use Rattle.ct_rules_node.specs.Node.{Node, Phase, Idle, Serving, Installed, Freezing, Frozen}
use Rattle.ct_rules_node.specs.Records.{acted, at_record, put_back, view}
use Rattle.ct_rules_node.specs.Turn.{Turn, begins, does, posts, with_phase}
use Rattle.ct_node_plan_calls.specs.Comes.{Comes}
use Rattle.ct_node_plan.specs.Handed.{CoreFault}
use Rattle.ct_node_plan.specs.Handed.{Exhausted, NoMemory}

-- no number is made where a node is Frozen
pub frozen_spent : (me g leader : ℕ) (t : Turn) → (frozen_if_unlocked me g leader t).spent ≡ t.spent
unfolding frozen_if_unlocked posts does with_phase
frozen_spent me g leader t = by (any_locked t.node.dbs)
  where
    by : (b : Bool) → (cond b t (posts g me leader msg.FreezeAck (with_phase (Frozen g) t))).spent ≡ t.spent
    by true = refl
    by false = refl

-- the node freezes for the same round after the rule of a record
acted_phase : (me db : ℕ) (key : List ℕ) (o : Moving) (t : Turn) → (acted me db key o t).node.phase ≡ t.node.phase
unfolding acted put_back
acted_phase me db key o t = refl

pub still_freezing : (me db g leader : ℕ) (key : List ℕ) (o : Moving) (n : Node) (t : Turn) → t ≡ acted me db key o (begins n) → n.phase ≡ Freezing g leader → t.node.phase ≡ Freezing g leader
still_freezing me db g leader key o n t e f = ap (λ (u : Turn). u.node.phase) e ∙ acted_phase me db key o (begins n) ∙ f

-- the plan of the end of a lock at a Freezing node
pub planned_release : (me db g leader : ℕ) (key : List ℕ) (o x : Moving) (n : Node) (t : Turn) (r : Result Planned CoreFault) → x ≡ o → t ≡ acted me db key x (begins n) →
    Plans r (frozen_if_unlocked me g leader t) n → Plans r (frozen_if_unlocked me g leader (acted me db key o (begins n))) n
planned_release me db g leader key o x n t r e f p = subst (λ (u : Turn). Plans r (frozen_if_unlocked me g leader u) n) (f ∙ ap (λ (y : Moving). acted me db key y (begins n)) e) p

pub refused_release : (me db g leader : ℕ) (key : List ℕ) (o x : Moving) (n : Node) (fault : CoreFault) → x ≡ o → Comes (Err fault) (acted me db key x (begins n)) →
    Plans (Err fault) (frozen_if_unlocked me g leader (acted me db key o (begins n))) n
refused_release me db g leader key o x n Exhausted e h =
    frozen_spent me g leader (acted me db key o (begins n)) ∙ ap (λ (y : Moving). (acted me db key y (begins n)).spent) (sym e) ∙ h
refused_release me db g leader key o x n NoMemory e h = tt

-- ---- by the phase

-- the phase of who waits for the last lock
abbrev frozen_by : Option (ℕ × ℕ) → Phase
frozen_by None = Idle
frozen_by (Some x) = Freezing x.0 x.1

-- who waits for the last lock is who the node freezes for
pub freezing_so : (p : Phase) (g leader : ℕ) → waits_for p ≡ Some (g, leader) → p ≡ Freezing g leader
freezing_so Idle g leader e = absurd (cc)
freezing_so Serving g leader e = absurd (cc)
freezing_so Installed g leader e = absurd (cc)
freezing_so (Freezing h l) g leader e = ap frozen_by e
freezing_so (Frozen h) g leader e = absurd (cc)

freezing_unlocks : (c : Config) (me call db : ℕ) (key : List ℕ) (t : Turn) (p : Phase) (g leader : ℕ) → p ≡ Freezing g leader →
    unlocks c me call db key t p ≡ frozen_if_unlocked me g leader (acted me db key (release call (view db key t.node)) t)
unfolding unlocks at_record
freezing_unlocks c me call db key t p g leader e = ap (unlocks c me call db key t) e

other_unlocks : (c : Config) (me call db : ℕ) (key : List ℕ) (t : Turn) (p : Phase) → waits_for p ≡ None → unlocks c me call db key t p ≡ at_record c me db key (λ at o. unlock at call o) t
unfolding unlocks
other_unlocks c me call db key t Idle e = refl
other_unlocks c me call db key t Serving e = refl
other_unlocks c me call db key t Installed e = refl
other_unlocks c me call db key t (Freezing g leader) e = absurd (cc)
other_unlocks c me call db key t (Frozen g) e = refl

module _ (c : Config) (me call db : ℕ) (key : List ℕ) (n : Node) (r : Result Planned CoreFault) where
  pub planned_freezing : (g leader : ℕ) → waits_for n.phase ≡ Some (g, leader) → Plans r (frozen_if_unlocked me g leader (acted me db key (release call (view db key n)) (begins n))) n →
      Plans r (unlocks c me call db key (begins n) n.phase) n
  planned_freezing g leader e p = subst (λ (t : Turn). Plans r t n) (sym (freezing_unlocks c me call db key (begins n) n.phase g leader (freezing_so n.phase g leader e))) p

  pub planned_other : waits_for n.phase ≡ None → Plans r (at_record c me db key (λ at o. unlock at call o) (begins n)) n → Plans r (unlocks c me call db key (begins n) n.phase) n
  planned_other e p = subst (λ (t : Turn). Plans r t n) (sym (other_unlocks c me call db key (begins n) n.phase e)) p
