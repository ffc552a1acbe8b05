-- Every PullReply that was sent to a node, also the last one.
use Rattle.std.proofs.Common.{◌≡◌, ◌≢◌, ◌⊎◌, ℕ, Bool, true, false, cond, ◌&&◌, List, [], ◌∷◌, inl, inr, ⊎_elim, refl, sym, ap, ◌∙◌, subst, eqb-true}
use Rattle.std.specs.Prelude.{nat_eq, nat_lt}
use Rattle.std.proofs.lemmas.Bool.{and_parts, eq-eqb, and_from}
use Rattle.ct_values.specs.Words.{others}
use Rattle.ct_values.specs.declared.address.Address.{Address}
use Rattle.ct_values.specs.declared.config.Config.{Config}
use Rattle.ct_frame.specs.declared.event.Event.TheVariants as event
use Rattle.ct_frame.specs.declared.frame.Frame.{Frame}
use Rattle.ct_frame.specs.declared.frame.Msg.{Msg}
use Rattle.ct_frame.specs.declared.frame.Msg.TheVariants as msg
use Rattle.ct_frame.specs.declared.frame.PTable.{PTable}
use Rattle.ct_frame.specs.declared.frame.TableRow.{TableRow}
use Rattle.ct_frame.specs.declared.round.Pull.{Pull}
use Rattle.ct_call.specs.Rules.{Rules}
use Rattle.ct_merge.specs.Gathered.{Gathered, gathered, finished}
use Rattle.ct_rules_node.specs.Admission.{is_sound}
use Rattle.ct_rules_node.specs.Node.{Lead, Nothing, Freezes, Pulls, Installs, Completed, is_among}
use Rattle.ct_rules_node.specs.Rounds.{on_pullreply, all_pulled, body_of, pushes}
use Rattle.ct_rules_node.specs.Steps.{happens, arrives, if_sound}
use Rattle.ct_rules_node.specs.Turn.{Turn, begins}
use Rattle.ct_rules_cluster.specs.Cluster.{Cluster, node_at, pending}
use Rattle.ct_register.specs.Lines.{Lines}
use Rattle.ct_law_run.proofs.Lives.{Lives, LeadSays, IsTicket, IsGatheredOf}
use Rattle.ct_law_run.proofs.Faces.{Turned}
use Rattle.ct_law_run.proofs.Freezing.{HasCome}
use Rattle.ct_law_run.proofs.Leading.{lead_turned}
use Rattle.ct_law_run.proofs.Rounding.{idle_led}
use Rattle.ct_law_run.proofs.Gathering.{MoreMissing, gathers, pull_of, pullreply_turned, reply_came}
use Rattle.ct_law_run.proofs.Newly.{pushes_turned}

-- nobody is missing after the reply of node k
pub record Is_last (k g : ℕ) (l : Lead) : Type 0 where
  pub members : List ℕ
  pub missing : List ℕ
  pub before : Gathered
  pub is : l ≡ Pulls g members missing before
  pub among : is_among k missing ≡ true
  pub none : others k missing ≡ []

last_or_more : (k g : ℕ) (l : Lead) → MoreMissing k g l ⊎ Is_last k g l
unfolding MoreMissing
last_or_more k g (Pulls q members missing x) = either (nat_eq q g && is_among k missing) refl (others k missing) refl
  where
    either : (b : Bool) → (nat_eq q g && is_among k missing) ≡ b → (left : List ℕ) → others k missing ≡ left → ((nat_eq q g && is_among k missing) ≡ true → others k missing ≢ []) ⊎ Is_last k g (Pulls q members missing x)
    either false e left is = inl (λ t. absurd (let f : true ≡ false = sym t ∙ e in cc))
    either true e [] is = (let p = and_parts (nat_eq q g) (is_among k missing) e in inr (record { members = members; missing = missing; before = x; is = ap (λ (j : ℕ). Pulls j members missing x) (eqb-true q g p.0); among = p.1; none = is }))
    either true e (m ∷ ms) is = inl (λ _ z. absurd (let f : [] ≡ m ∷ ms = sym z ∙ is in cc))
last_or_more k g Nothing = inl tt
last_or_more k g (Freezes q members missing) = inl tt
last_or_more k g (Installs q members missing b) = inl tt
last_or_more k g (Completed q members x) = inl tt

-- then the round is noted and pushed
pub pushed_is : (n g : ℕ) (pull : Pull) (t : Turn) (l : Lead) (k : Is_last pull.node g l) → on_pullreply n g pull t l ≡ pushes n g k.members (body_of n k.members (finished (gathered pull k.before))) t
unfolding on_pullreply all_pulled
pushed_is n g pull t l k = ap (on_pullreply n g pull t) k.is
    ∙ ap (λ (b : Bool). cond b (all_pulled n g k.members (gathered pull k.before) t (others pull.node k.missing)) t) (and_from (nat_eq g g) (is_among pull.node k.missing) (eq-eqb g g refl) k.among)
    ∙ ap (all_pulled n g k.members (gathered pull k.before) t) k.none

module _ (c : Config) (rules : Rules) (w : Cluster) (r : Lines) (h : Lives c rules w r) (n : ℕ) (f : Frame) (vbase pbase : ℕ) (table : List TableRow) (ptables : List PTable) (addresses : List Address) (there : nat_lt n c.nodes ≡ true)
    (is : f.msg ≡ msg.PullReply vbase pbase table ptables addresses) (come : HasCome w n f) where
  abbrev pull : Pull
  pull = pull_of f vbase pbase table ptables addresses

  leads_pulls : (k : Is_last pull.node f.generation (node_at n w).lead) → IsTicket c r f.generation n k.members × (r.born f.generation ≡ false) × IsGatheredOf w n f.generation k.members k.missing k.before
  unfolding LeadSays
  leads_pulls k = subst (λ (l : Lead). LeadSays c w r h.ages n l) k.is (h.nodes n there).lead

  last_turned : Is_last pull.node f.generation (node_at n w).lead → Turned c rules h.who w r h.ages n (pending w) (on_pullreply n f.generation pull (begins (node_at n w)) (node_at n w).lead)
  last_turned k =
      let says = leads_pulls k in
      subst (λ (u : Turn). Turned c rules h.who w r h.ages n (pending w) u) (sym (pushed_is n f.generation pull (begins (node_at n w)) (node_at n w).lead k))
      (pushes_turned c rules w r h n f.generation k.members (gathered pull k.before) there says.0 says.1
      (subst (λ (ms : List ℕ). IsGatheredOf w n f.generation k.members ms (gathered pull k.before)) k.none (gathers w n f.generation k.members k.missing k.before pull (reply_came w n f vbase pbase table ptables addresses is come) k.among says.2)))

  pub replies_turned : Turned c rules h.who w r h.ages n (pending w) (happens c rules n (begins (node_at n w)) (event.Arrive f))
  unfolding happens arrives if_sound
  replies_turned = ⊎_elim
      (λ (more : MoreMissing pull.node f.generation (node_at n w).lead). pullreply_turned c rules w r h n f vbase pbase table ptables addresses there is come more)
      (λ (k : Is_last pull.node f.generation (node_at n w).lead). subst (λ (u : Turn). Turned c rules h.who w r h.ages n (pending w) u) (sym (ap (λ (m : Msg). arrives c rules n f (begins (node_at n w)) m) is)) (either k (is_sound c f)))
      (last_or_more pull.node f.generation (node_at n w).lead)
    where
      either : Is_last pull.node f.generation (node_at n w).lead → (b : Bool) → Turned c rules h.who w r h.ages n (pending w) (cond b (on_pullreply n f.generation pull (begins (node_at n w)) (node_at n w).lead) (begins (node_at n w)))
      either k true = last_turned k
      either k false = lead_turned c rules w r h n (begins (node_at n w)) there (idle_led c w r h.ages n (h.nodes n there).lead)
