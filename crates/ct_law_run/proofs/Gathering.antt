-- A PullReply while others are missing: it is gathered.
use Rattle.std.proofs.Common.{◌≡◌, ◌≢◌, ℕ, Bool, true, false, cond, ◌&&◌, List, [], ◌∷◌, ◌++◌, inl, inr, ⊎_elim, refl, sym, ap, ◌∙◌, subst}
use Rattle.ct_values.specs.Words.{others}
use Rattle.ct_values.specs.declared.config.Config.{Config}
use Rattle.ct_frame.specs.declared.event.Event.TheVariants as event
use Rattle.ct_frame.specs.declared.frame.Frame.{Frame}
use Rattle.ct_frame.specs.declared.frame.Msg.{Msg}
use Rattle.ct_frame.specs.declared.frame.Msg.TheVariants as msg
use Rattle.ct_call.specs.Rules.{Rules}
use Rattle.ct_merge.proofs.Among.{In}
use Rattle.ct_rules_node.specs.Node.{Lead, is_among}
use Rattle.ct_rules_node.specs.Turn.{Turn, begins}
use Rattle.ct_rules_node.specs.Admission.{is_sound}
use Rattle.ct_rules_node.specs.Steps.{happens}
use Rattle.ct_rules_cluster.specs.Cluster.{Cluster, node_at, pending}
use Rattle.ct_register.specs.Lines.{Lines}
use Rattle.ct_law_run.proofs.Ages.{Ages}
use Rattle.ct_law_run.proofs.Lives.{Lives, LeadSays, IsTicket, WasSent}
use Rattle.ct_law_run.proofs.Faces.{Turned}
use Rattle.ct_law_run.proofs.Freezing.{HasCome}
use Rattle.ct_rules_node.specs.Node.{Nothing}
use Rattle.std.specs.Prelude.{◌⊎◌, nat_eq, nat_lt}
use Rattle.std.proofs.lemmas.Bool.{eqb-true}
use Rattle.ct_frame.specs.declared.frame.TableRow.{TableRow}
use Rattle.ct_merge.specs.Gathered.{Gathered, nothing, gathered_all}
use Rattle.ct_rules_node.specs.Node.{Freezes, Pulls, Installs, Completed}
use Rattle.ct_rules_node.specs.Steps.{if_sound, arrives}
use Rattle.ct_law_run.proofs.Lives.{IsGatheredOf}
use Rattle.ct_law_run.proofs.Leading.{Led, lead_turned}
use Rattle.ct_law_run.proofs.Rounding.{idle_led}
use Rattle.ct_values.specs.declared.address.Address.{Address}
use Rattle.std.proofs.lemmas.Bool.{and_parts}
use Rattle.ct_frame.specs.declared.round.Pull.{Pull}
use Rattle.ct_frame.specs.declared.frame.PTable.{PTable}
use Rattle.ct_merge.specs.Gathered.{gathered}
use Rattle.ct_merge.proofs.Among.{in_left, in_right}
use Rattle.ct_rules_node.specs.Rounds.{on_pullreply, all_pulled}
use Rattle.ct_law_run.proofs.Lives.{IsReply}
use Rattle.ct_law_run.proofs.Arriving.{only_leads, waits_less}

gathered_last : (pulls : List Pull) (pull : Pull) (x : Gathered) → gathered_all (pulls ++ pull ∷ []) x ≡ gathered pull (gathered_all pulls x)
gathered_last [] pull x = refl
gathered_last (p ∷ pulls) pull x = gathered_last pulls pull (gathered p x)

in_parts : (xs : List Pull) (y p : Pull) → In p (xs ++ y ∷ []) → In p xs ⊎ (y ≡ p)
in_parts [] y p (inl e) = inr e
in_parts [] y p (inr i) = absurd i
in_parts (x ∷ xs) y p (inl e) = inl (inl e)
in_parts (x ∷ xs) y p (inr i) = ⊎_elim (λ (k : In p xs). inl (inr k)) (λ k. inr k) (in_parts xs y p i)

-- one reply more
pub gathers : (w : Cluster) (n g : ℕ) (members missing : List ℕ) (x : Gathered) (pull : Pull) → IsReply w n g pull → is_among pull.node missing ≡ true → IsGatheredOf w n g members missing x → IsGatheredOf w n g members (others pull.node missing) (gathered pull x)
gathers w n g members missing x pull reply among h = record {
  pulls = h.pulls ++ pull ∷ [];
  same = ap (gathered pull) h.same ∙ sym (gathered_last h.pulls pull nothing);
  sent = λ p i. ⊎_elim (λ (k : In p h.pulls). h.sent p k) (λ (e : pull ≡ p). subst (IsReply w n g) e reply) (in_parts h.pulls pull p i);
  member = λ p i. ⊎_elim (λ (k : In p h.pulls). h.member p k) (λ (e : pull ≡ p). subst (λ (q : Pull). is_among q.node members ≡ true) e (h.waits.within pull.node among)) (in_parts h.pulls pull p i);
  waits = waits_less members missing (λ m. (p : Pull) × In p (h.pulls ++ pull ∷ []) × (p.node ≡ m)) pull.node
      (record { within = h.waits.within; met = λ m e. ⊎_elim (λ k. inl k) (λ (k : (p : Pull) × In p h.pulls × (p.node ≡ m)). inr (k.0, in_left h.pulls (pull ∷ []) k.0 k.1, k.2)) (h.waits.met m e) })
      (pull, in_right h.pulls (pull ∷ []) pull (inl refl), refl);
}

-- who is missing after it, where the leader waits for it
unfoldable pub MoreMissing : ℕ → ℕ → Lead → Type 0
MoreMissing k g (Pulls h members missing x) = (nat_eq h g && is_among k missing) ≡ true → others k missing ≢ []
MoreMissing k g l = Unit {0}

pullreply_led : (c : Config) (w : Cluster) (r : Lines) (a : Ages) (n g : ℕ) (pull : Pull) (l : Lead) → IsReply w n g pull → MoreMissing pull.node g l → LeadSays c w r a n (node_at n w).lead → LeadSays c w r a n l → Led c w r a n (on_pullreply n g pull (begins (node_at n w)) l)
unfolding on_pullreply all_pulled LeadSays MoreMissing
pullreply_led c w r a n g pull (Pulls q members missing x) reply more own h = either (nat_eq q g && is_among pull.node missing) refl (others pull.node missing) refl
  where
    either : (b : Bool) → (nat_eq q g && is_among pull.node missing) ≡ b → (left : List ℕ) → others pull.node missing ≡ left → Led c w r a n (cond b (all_pulled n g members (gathered pull x) (begins (node_at n w)) left) (begins (node_at n w)))
    either true e [] none = absurd (more e none)
    either true e (m ∷ ms) left =
        let p = eqb-true q g (and_parts _ _ e).0 in
        only_leads c w r a n (Pulls g members (m ∷ ms) (gathered pull x)) (
          subst (λ (j : ℕ). IsTicket c r j n members) p h.0,
          subst (λ (j : ℕ). r.born j ≡ false) p h.1,
          subst (λ (ms : List ℕ). IsGatheredOf w n g members ms (gathered pull x)) left (gathers w n g members missing x pull reply (and_parts (nat_eq q g) (is_among pull.node missing) e).1 (subst (λ (j : ℕ). IsGatheredOf w n j members missing x) p h.2)),
        )
    either false e left none = idle_led c w r a n own
pullreply_led c w r a n g pull Nothing reply more own h = idle_led c w r a n own
pullreply_led c w r a n g pull (Freezes q members missing) reply more own h = idle_led c w r a n own
pullreply_led c w r a n g pull (Installs q members missing b) reply more own h = idle_led c w r a n own
pullreply_led c w r a n g pull (Completed q members x) reply more own h = idle_led c w r a n own

-- the reply that came
abbrev pub pull_of : Frame → ℕ → ℕ → List TableRow → List PTable → List Address → Pull
pull_of f vbase pbase table ptables addresses = record { node = f.sender; vbase = vbase; pbase = pbase; table = table; ptables = ptables; addresses = addresses }

pub reply_came : (w : Cluster) (n : ℕ) (f : Frame) (vbase pbase : ℕ) (table : List TableRow) (ptables : List PTable) (addresses : List Address) → f.msg ≡ msg.PullReply vbase pbase table ptables addresses → HasCome w n f → IsReply w n f.generation (pull_of f vbase pbase table ptables addresses)
reply_came w n f vbase pbase table ptables addresses is come = subst (WasSent w) (λ i. record { generation = f.generation; sender = f.sender; receiver = come.receiver i; msg = is i }) come.sent

-- a PullReply, where others are missing after it
pub pullreply_turned : (c : Config) (rules : Rules) (w : Cluster) (r : Lines) (h : Lives c rules w r) (n : ℕ) (f : Frame) (vbase pbase : ℕ) (table : List TableRow) (ptables : List PTable) (addresses : List Address) → nat_lt n c.nodes ≡ true →
    f.msg ≡ msg.PullReply vbase pbase table ptables addresses → HasCome w n f → MoreMissing f.sender f.generation (node_at n w).lead → Turned c rules h.who w r h.ages n (pending w) (happens c rules n (begins (node_at n w)) (event.Arrive f))
unfolding happens arrives if_sound
pullreply_turned c rules w r h n f vbase pbase table ptables addresses there is come more = lead_turned c rules w r h n (happens c rules n (begins (node_at n w)) (event.Arrive f)) there
    (subst (λ (u : Turn). Led c w r h.ages n u) (sym (ap (λ (m : Msg). arrives c rules n f (begins (node_at n w)) m) is)) (either (is_sound c f)))
  where
    either : (b : Bool) → Led c w r h.ages n (cond b (on_pullreply n f.generation (pull_of f vbase pbase table ptables addresses) (begins (node_at n w)) (node_at n w).lead) (begins (node_at n w)))
    either true = pullreply_led c w r h.ages n f.generation (pull_of f vbase pbase table ptables addresses) (node_at n w).lead (reply_came w n f vbase pbase table ptables addresses is come) more (h.nodes n there).lead (h.nodes n there).lead
    either false = idle_led c w r h.ages n (h.nodes n there).lead
