-- All holds after a start, a drop, a mark of who is able, a message that is lost, and after the recovery lock was given back.
use Rattle.std.proofs.Common.{◌≡◌, ℕ, zero, suc, Bool, true, false, List, [], ◌∷◌, Option, Some, None, refl, sym, ap, ◌∙◌, subst, ⊎_elim, inl, inr, set}
use Rattle.ct_law_rules_node.proofs.Refusals.{first_none, required}
use Rattle.std.specs.Prelude.{◌⊎◌, nat_lt, slice_get, slice_set}
use Rattle.ct_values.specs.declared.config.Config.{Config}
use Rattle.ct_frame.specs.declared.frame.Frame.{Frame}
use Rattle.ct_call.specs.Rules.{Rules}
use Rattle.ct_rules_cluster.specs.Cluster.{Cluster, Sent, Fate, Dropped, is_true, is_up, sent_at}
use Rattle.ct_rules_cluster.specs.Faults.{no_such_node, fault_of}
use Rattle.ct_rules_cluster.specs.Steps.{done, drop, deliver, repeat, with_fate, steps}
use Rattle.ct_rules_cluster.specs.Traces.{own_labels}
use Rattle.ct_law_generation.specs.Waiting.{told_line, told_lines, told_step, came_of, outcome}
use Rattle.ct_rules_cluster.specs.declared.step.Step.TheVariants as step
use Rattle.ct_register.specs.Lines.{Lines}
use Rattle.ct_promise.specs.Generation.{speaks_of_records}
use Rattle.ct_promise.specs.Marked.{is_removal}
use Rattle.ct_law_generation.proofs.Yielding.{yields, yield_accepted}
use Rattle.ct_law_run.proofs.Lives.{Lives}
use Rattle.ct_law_run.proofs.Faces.{After}
use Rattle.ct_law_run.proofs.Quiet.{frames, Quiet, quiet_after, after_taken}

-- ---- a start

-- who runs then was marked, or ran
up_since : (bs : List Bool) (n k : ℕ) → is_true (slice_get (slice_set bs n true) k) ≡ true → (k ≡ n) ⊎ (is_true (slice_get bs k) ≡ true)
unfolding is_true
up_since [] n k e = inr e
up_since (b ∷ bs) zero zero e = inl refl
up_since (b ∷ bs) zero (suc k) e = inr e
up_since (b ∷ bs) (suc n) zero e = inr e
up_since (b ∷ bs) (suc n) (suc k) e = ⊎_elim (λ (is : k ≡ n). inl (ap suc is)) (λ (was : is_true (slice_get bs k) ≡ true). inr was) (up_since bs n k e)

started_there : (c : Config) (w : Cluster) (n : ℕ) → fault_of c w (step.Start n) ≡ None → nat_lt n c.nodes ≡ true
unfolding fault_of no_such_node
started_there c w n e = required (nat_lt n c.nodes) _ (first_none _ _ e).0

pub start_after : (c : Config) (rules : Rules) (w : Cluster) (r : Lines) (h : Lives c rules w r) (n : ℕ) → After c rules r h.ages (outcome c rules w (step.Start n))
unfolding steps done came_of told_step own_labels told_lines told_line speaks_of_records is_removal is_up
start_after c rules w r h n = after_taken c rules w r h (step.Start n) (λ t e.
    quiet_after c rules w r h (came_of w (step.Start n) (steps c rules w (step.Start n))) r.holder (record { nodes = refl; frames = refl; calls = refl }) refl (sym h.holder) (λ k up. ⊎_elim (λ (is : k ≡ n). subst (λ (j : ℕ). nat_lt j c.nodes ≡ true) (sym is) (started_there c w n e)) (λ (was : is_true (slice_get w.running k) ≡ true). h.up k was) (up_since w.running n k up)) (r, refl, refl) (λ g db key. refl))

-- ---- a mark of who is able

pub able_after : (c : Config) (rules : Rules) (w : Cluster) (r : Lines) (h : Lives c rules w r) (n : ℕ) (able : Bool) → After c rules r h.ages (outcome c rules w (step.Able n able))
unfolding steps done came_of told_step own_labels told_lines told_line is_up
able_after c rules w r h n able = after_taken c rules w r h (step.Able n able) (λ t e.
    quiet_after c rules w r h (came_of w (step.Able n able) (steps c rules w (step.Able n able))) r.holder (record { nodes = refl; frames = refl; calls = refl }) refl (sym h.holder) h.up refl (λ g db key. refl))

-- ---- the recovery lock

pub yield_after : (c : Config) (rules : Rules) (w : Cluster) (r : Lines) (h : Lives c rules w r) (n : ℕ) → After c rules r h.ages (outcome c rules w (step.Yield n))
unfolding steps done came_of told_step own_labels told_lines told_line speaks_of_records is_removal is_up
yield_after c rules w r h n = after_taken c rules w r h (step.Yield n) (λ t e.
    quiet_after c rules w r h (came_of w (step.Yield n) (steps c rules w (step.Yield n))) None (record { nodes = refl; frames = refl; calls = refl }) refl refl h.up (yield_accepted c rules w n r (yields c w n e) h.holder) (λ g db key. refl))

-- ---- messages

fate_frames : (ss : List Sent) (k : ℕ) (s : Sent) (f : Fate) → slice_get ss k ≡ Some s → frames (set ss k (record s { fate = f })) ≡ frames ss
fate_frames [] k s f e = refl
fate_frames (x ∷ xs) zero s f e = (let same : s ≡ x = cc in ap (λ (y : Sent). y.frame ∷ frames xs) same)
fate_frames (x ∷ xs) (suc k) s f e = ap (λ (fs : List Frame). x.frame ∷ fs) (fate_frames xs k s f e)

-- what became of a message is of no matter
pub fate_quiet : (k : ℕ) (s : Sent) (f : Fate) (w : Cluster) → sent_at k w ≡ Some s → Quiet w (with_fate k s f w)
unfolding with_fate sent_at
fate_quiet zero s f w e = record { nodes = refl; frames = refl; calls = refl }
fate_quiet (suc k) s f w e = record { nodes = refl; frames = fate_frames w.sent k s f e; calls = refl }

pub fate_ticket : (k : ℕ) (s : Sent) (f : Fate) (w : Cluster) → (with_fate k s f w).ticket ≡ w.ticket
unfolding with_fate
fate_ticket zero s f w = refl
fate_ticket (suc k) s f w = refl

pub fate_holder : (k : ℕ) (s : Sent) (f : Fate) (w : Cluster) → (with_fate k s f w).holder ≡ w.holder
unfolding with_fate
fate_holder zero s f w = refl
fate_holder (suc k) s f w = refl

pub fate_up : (k : ℕ) (s : Sent) (f : Fate) (w : Cluster) (n : ℕ) → is_up n (with_fate k s f w) ≡ is_up n w
unfolding with_fate is_up
fate_up zero s f w n = refl
fate_up (suc k) s f w n = refl

-- where a message was dropped, or lost, all holds
pub fate_after : (c : Config) (rules : Rules) (w : Cluster) (r : Lines) (h : Lives c rules w r) (k : ℕ) (s : Sent) (f : Fate) → sent_at k w ≡ Some s → After c rules r h.ages (record { cluster = with_fate k s f w; trace = [] })
fate_after c rules w r h k s f e =
    quiet_after c rules w r h (record { cluster = with_fate k s f w; trace = [] }) r.holder (fate_quiet k s f w e) (fate_ticket k s f w) (fate_holder k s f w ∙ sym h.holder) (λ n up. h.up n (sym (fate_up k s f w n) ∙ up)) refl (λ g db key. refl)

pub drop_after : (c : Config) (rules : Rules) (w : Cluster) (r : Lines) (h : Lives c rules w r) (k : ℕ) → After c rules r h.ages (outcome c rules w (step.Drop k))
unfolding steps done drop came_of told_step own_labels told_lines
drop_after c rules w r h k = after_taken c rules w r h (step.Drop k) (λ t e. dropped (sent_at k w) refl)
  where
    dropped : (m : Option Sent) → sent_at k w ≡ m → After c rules r h.ages (came_of w (step.Drop k) (drop k w m))
    dropped None e = quiet_after c rules w r h (record { cluster = w; trace = [] }) r.holder (record { nodes = refl; frames = refl; calls = refl }) refl (sym h.holder) h.up refl (λ g db key. refl)
    dropped (Some s) e = fate_after c rules w r h k s Dropped e

-- a message that comes to a node which is down is lost
pub lost_after : (c : Config) (rules : Rules) (w : Cluster) (r : Lines) (h : Lives c rules w r) (k : ℕ) (s : Sent) → sent_at k w ≡ Some s → is_up s.frame.receiver w ≡ false → After c rules r h.ages (came_of w (step.Deliver k) (deliver c rules k w (Some s)))
unfolding done deliver came_of told_step own_labels told_lines told_line
lost_after c rules w r h k s e down = rw down (fate_after c rules w r h k s Dropped e)

-- and so is one that comes again
pub lost_again : (c : Config) (rules : Rules) (w : Cluster) (r : Lines) (h : Lives c rules w r) (k : ℕ) (s : Sent) → is_up s.frame.receiver w ≡ false → After c rules r h.ages (came_of w (step.Repeat k) (repeat c rules k w (Some s)))
unfolding done repeat came_of told_step own_labels told_lines told_line
lost_again c rules w r h k s down =
    rw down (quiet_after c rules w r h (record { cluster = w; trace = [] }) r.holder (record { nodes = refl; frames = refl; calls = refl }) refl (sym h.holder) h.up refl (λ g db key. refl))
