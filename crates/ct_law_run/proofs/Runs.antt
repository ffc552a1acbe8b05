-- What a node does in a takeover run that it leads: a ReleaseAck comes.
use Rattle.std.proofs.Common.{◌≡◌, ℕ, ◌≤◌, Bool, true, false, cond, List, [], ◌∷◌, refl, sym, ap, ◌∙◌, subst}
use Rattle.std.specs.Prelude.{nat_eq, nat_lt, ◌&&◌}
use Rattle.std.proofs.lemmas.Bool.{and_parts, eqb-true}
use Rattle.ct_values.specs.Words.{others}
use Rattle.ct_values.specs.declared.config.Config.{Config}
use Rattle.ct_frame.specs.declared.event.Event.TheVariants as event
use Rattle.ct_frame.specs.declared.frame.Frame.{Frame}
use Rattle.ct_frame.specs.declared.frame.Msg.{Msg}
use Rattle.ct_frame.specs.declared.frame.Msg.TheVariants as msg
use Rattle.ct_frame.specs.declared.frame.PTable.{PTable}
use Rattle.ct_frame.specs.declared.frame.TableRow.{TableRow}
use Rattle.ct_call.specs.Rules.{Rules}
use Rattle.ct_rules_node.specs.Node.{Phase, Lead, Nothing, Freezes, Pulls, Installs, Completed, Takeover, Run, NoRun, Releasing, Taking, Idle, Serving, Installed, Freezing, Frozen, is_present, is_present_in, is_frozen_in, is_among}
use Rattle.ct_rules_node.specs.Turn.{Turn, begins, posts}
use Rattle.ct_rules_node.specs.Admission.{is_current, is_sound}
use Rattle.ct_rules_node.specs.Rounds.{on_push, installs}
use Rattle.ct_rules_node.specs.Takeovers.{assigned_in, all_released, released_by, on_releaseack}
use Rattle.ct_rules_node.specs.Steps.{arrives, if_sound, if_taken_over, happens}
use Rattle.ct_rules_cluster.specs.Cluster.{Cluster, node_at, pending}
use Rattle.ct_register.specs.Lines.{Lines}
use Rattle.ct_law_generation.proofs.Staying.{number_of}
use Rattle.ct_law_run.proofs.Ages.{Ages}
use Rattle.ct_law_run.proofs.Lives.{IsTicket, AllHaveInstalled, LeadSays, Lives}
use Rattle.ct_law_run.proofs.Faces.{Turned}
use Rattle.ct_law_run.proofs.Leading.{Led, lead_turned}
use Rattle.ct_law_run.proofs.Rounding.{idle_led, one_led}
use Rattle.ct_law_run.proofs.Arriving.{posts_led, only_leads}
use Rattle.ct_law_run.proofs.Again.{take_says}

-- ---- ReleaseAck

released_led : (c : Config) (w : Cluster) (r : Lines) (a : Ages) (n k g : ℕ) (members : List ℕ) (x : Takeover) (run : Run) → LeadSays c w r a n (node_at n w).lead → IsTicket c r g n members × (r.born g ≡ true) × AllHaveInstalled r g members →
    Led c w r a n (released_by n k g members x (begins (node_at n w)) run)
unfolding released_by all_released LeadSays
released_led c w r a n k g members x NoRun own h = idle_led c w r a n own
released_led c w r a n k g members x (Taking placement) own h = idle_led c w r a n own
released_led c w r a n k g members x (Releasing placement missing) own h = either (is_among k missing) (others k missing)
  where
    either : (b : Bool) (left : List ℕ) → Led c w r a n (cond b (all_released n g members x placement (begins (node_at n w)) left) (begins (node_at n w)))
    either true [] = posts_led c w r a n g members (msg.Take x.number (assigned_in placement)) (Completed g members (record x { made = placement; run = Taking placement })) h (λ j. take_says c w r a n g j x.number (assigned_in placement))
    either true (m ∷ ms) = only_leads c w r a n (Completed g members (record x { run = Releasing placement (m ∷ ms) })) h
    either false left = idle_led c w r a n own

releaseack_led : (c : Config) (w : Cluster) (r : Lines) (a : Ages) (n k g number : ℕ) (l : Lead) → LeadSays c w r a n (node_at n w).lead → LeadSays c w r a n l → Led c w r a n (on_releaseack n k g number (begins (node_at n w)) l)
unfolding on_releaseack LeadSays
releaseack_led c w r a n k g number Nothing own h = idle_led c w r a n own
releaseack_led c w r a n k g number (Freezes q members missing) own h = idle_led c w r a n own
releaseack_led c w r a n k g number (Pulls q members missing x) own h = idle_led c w r a n own
releaseack_led c w r a n k g number (Installs q members missing b) own h = idle_led c w r a n own
releaseack_led c w r a n k g number (Completed q members x) own h = either (nat_eq q g && nat_eq x.number number) refl
  where
    either : (b : Bool) → (nat_eq q g && nat_eq x.number number) ≡ b → Led c w r a n (cond b (released_by n k g members x (begins (node_at n w)) x.run) (begins (node_at n w)))
    either true e = released_led c w r a n k g members x x.run own (subst (λ (j : ℕ). IsTicket c r j n members × (r.born j ≡ true) × AllHaveInstalled r j members) (eqb-true q g (and_parts _ _ e).0) h)
    either false e = idle_led c w r a n own

-- at any node
pub releaseack_turned : (c : Config) (rules : Rules) (w : Cluster) (r : Lines) (h : Lives c rules w r) (n : ℕ) (f : Frame) (number : ℕ) → nat_lt n c.nodes ≡ true → f.msg ≡ msg.ReleaseAck number →
    Turned c rules h.who w r h.ages n (pending w) (happens c rules n (begins (node_at n w)) (event.Arrive f))
unfolding happens arrives if_taken_over
releaseack_turned c rules w r h n f number there is = lead_turned c rules w r h n (happens c rules n (begins (node_at n w)) (event.Arrive f)) there
    (subst (λ (u : Turn). Led c w r h.ages n u) (sym (ap (λ (m : Msg). arrives c rules n f (begins (node_at n w)) m) is)) (either (is_sound c f && is_current f (node_at n w))))
  where
    either : (b : Bool) → Led c w r h.ages n (cond b (on_releaseack n f.sender f.generation number (begins (node_at n w)) (node_at n w).lead) (begins (node_at n w)))
    either true = releaseack_led c w r h.ages n f.sender f.generation number (node_at n w).lead (h.nodes n there).lead (h.nodes n there).lead
    either false = idle_led c w r h.ages n (h.nodes n there).lead
