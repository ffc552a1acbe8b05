-- What is planned of an answer is what the rule makes of the node.
use Rattle.std.proofs.Common.{◌≡◌, ◌∙◌, ℕ, true, false, List, Option, Some, None, Result, ap, sym, subst}
use Rattle.ct_values.specs.declared.config.Config.{Config}
use Rattle.ct_frame.specs.declared.event.Note.{Note}
use Rattle.ct_frame.specs.declared.event.Note.TheVariants as note
use Rattle.ct_frame.specs.declared.frame.Assigned.{Assigned}
use Rattle.ct_frame.specs.declared.frame.Msg.{Msg}
use Rattle.ct_frame.specs.declared.frame.Msg.TheVariants as msg
use Rattle.ct_frame.specs.declared.round.Pull.{Pull}
use Rattle.ct_frame.specs.declared.round.PushBody.{PushBody}
use Rattle.ct_rules_node.specs.Node.{Lead, Node}
use Rattle.ct_rules_node.specs.Rounds.{on_freezeack, on_pullreply, on_pushack, push_of}
use Rattle.ct_rules_node.specs.Turn.{Turn, begins, notes, posts_all, with_lead}
use Rattle.ct_lead.specs.Stages.{awaits_freezeack, awaits_pullreply, awaits_pushack, is_completed, is_pulling, led_after_freezeack, led_after_pullreply, led_after_pushack, led_body, led_members}
use Rattle.ct_node_plan.specs.Changes.{Plans}
use Rattle.ct_node_plan.specs.declared.change.Planned.{Planned}
use Rattle.ct_node_state.specs.declared.turn.CoreFault.{CoreFault}
use Rattle.ct_node_plan_rounds.specs.Made.{made_by}
use Rattle.ct_node_plan_rounds.proofs.Acks.{freezeack_ends, freezeack_waits, pullreply_ends, pullreply_waits, pushack_ends, pushack_waits}

module _ (me g : ℕ) (n : Node) (lead : Lead) (r : Result Planned CoreFault) where
  pub planned_pull_end : (pull : Pull) (ms : List ℕ) (x : Msg) (y : Note) (b : PushBody) → awaits_pullreply g pull.node n.lead ≡ true → lead ≡ led_after_pullreply me pull n.lead → led_body lead ≡ Some b → ms ≡ led_members n.lead →
      x ≡ push_of b → y ≡ note.Round g ms b.vparent b.pparent → Plans r (posts_all g me ms x (notes y (with_lead lead (begins n)))) n → Plans r (on_pullreply me g pull (begins n) n.lead) n
  planned_pull_end pull ms x y b a d e f h k p =
      let k' : y ≡ note.Round g (led_members n.lead) b.vparent b.pparent = k ∙ ap (λ (l : List ℕ). note.Round g l b.vparent b.pparent) f in
      subst (λ (t : Turn). Plans r t n)
      (sym (pullreply_ends me g pull (begins n) n.lead b a (ap (λ (l : Lead). led_body l) (sym d) ∙ e) ∙ (λ i. posts_all g me (sym f i) (sym h i) (notes (sym k' i) (with_lead (sym d i) (begins n)))))) p

  pub planned_pull_wait : (pull : Pull) → awaits_pullreply g pull.node n.lead ≡ true → lead ≡ led_after_pullreply me pull n.lead → led_body lead ≡ None →
      Plans r (with_lead lead (begins n)) n → Plans r (on_pullreply me g pull (begins n) n.lead) n
  planned_pull_wait pull a d e p =
      subst (λ (t : Turn). Plans r t n)
      (sym (pullreply_waits me g pull (begins n) n.lead a (ap (λ (l : Lead). led_body l) (sym d) ∙ e) ∙ (λ i. with_lead (sym d i) (begins n)))) p

  pub planned_push_end : (c : Config) (m : ℕ) (ms : List ℕ) (x : Msg) (made : List Assigned) → awaits_pushack g m n.lead ≡ true → made ≡ made_by c (led_body n.lead) → lead ≡ led_after_pushack m made n.lead →
      is_completed lead ≡ true → ms ≡ led_members n.lead → x ≡ msg.Thaw → Plans r (posts_all g me ms x (with_lead lead (begins n))) n → Plans r (on_pushack c me m g (begins n) n.lead) n
  planned_push_end c m ms x made a b d e f h p =
      let d' : lead ≡ led_after_pushack m (made_by c (led_body n.lead)) n.lead = d ∙ ap (λ (y : List Assigned). led_after_pushack m y n.lead) b in
      subst (λ (t : Turn). Plans r t n)
      (sym (pushack_ends c me m g (begins n) n.lead a (ap (λ (l : Lead). is_completed l) (sym d') ∙ e) ∙ (λ i. posts_all g me (sym f i) (sym h i) (with_lead (sym d' i) (begins n))))) p

  pub planned_push_wait : (c : Config) (m : ℕ) (made : List Assigned) → awaits_pushack g m n.lead ≡ true → made ≡ made_by c (led_body n.lead) → lead ≡ led_after_pushack m made n.lead →
      is_completed lead ≡ false → Plans r (with_lead lead (begins n)) n → Plans r (on_pushack c me m g (begins n) n.lead) n
  planned_push_wait c m made a b d e p =
      let d' : lead ≡ led_after_pushack m (made_by c (led_body n.lead)) n.lead = d ∙ ap (λ (y : List Assigned). led_after_pushack m y n.lead) b in
      subst (λ (t : Turn). Plans r t n)
      (sym (pushack_waits c me m g (begins n) n.lead a (ap (λ (l : Lead). is_completed l) (sym d') ∙ e) ∙ (λ i. with_lead (sym d' i) (begins n)))) p
