-- Every Push that was sent to a node: it is installed, acknowledged again, or dropped.
use Rattle.std.proofs.Common.{◌≡◌, ℕ, ◌≤◌, Bool, true, false, cond, List, ⊎_elim, refl, sym, ap, ◌∙◌, subst, eqb-true, arith}
use Rattle.std.specs.Prelude.{nat_eq, nat_lt}
use Rattle.std.proofs.lemmas.Bool.{and_parts, cases_Bool}
use Rattle.ct_values.specs.declared.config.Config.{Config}
use Rattle.ct_frame.specs.declared.event.Event.TheVariants as event
use Rattle.ct_frame.specs.declared.frame.Assigned.{Assigned}
use Rattle.ct_frame.specs.declared.frame.Frame.{Frame}
use Rattle.ct_frame.specs.declared.frame.Msg.{Msg}
use Rattle.ct_frame.specs.declared.frame.Msg.TheVariants as msg
use Rattle.ct_frame.specs.declared.frame.PTable.{PTable}
use Rattle.ct_frame.specs.declared.frame.TableRow.{TableRow}
use Rattle.ct_call.specs.Rules.{Rules}
use Rattle.ct_rules_node.specs.Admission.{is_sound, record_in}
use Rattle.ct_rules_node.specs.Node.{Node, is_present, is_present_in, is_frozen_in}
use Rattle.ct_rules_node.specs.Rounds.{installs, on_push}
use Rattle.ct_rules_node.specs.Steps.{happens, arrives, if_sound}
use Rattle.ct_rules_node.specs.Turn.{Turn, begins, posts}
use Rattle.ct_rules_cluster.specs.Cluster.{Cluster, node_at, pending}
use Rattle.ct_register.specs.Lines.{Lines}
use Rattle.ct_law_run.proofs.Lives.{Lives, MailSays, RoundSays, ReplySays}
use Rattle.ct_law_run.proofs.Faces.{Turned}
use Rattle.ct_law_run.proofs.Freezing.{HasCome}
use Rattle.ct_law_run.proofs.Leading.{Led, lead_turned}
use Rattle.ct_law_run.proofs.Rounding.{Says_round, idle_led, one_led}
use Rattle.ct_law_run.proofs.LeadTurning.{was_said}
use Rattle.ct_law_run.proofs.Made.{installs_spent, push_is}
use Rattle.ct_law_run.proofs.Pushed.{installs_turned}

module _ (c : Config) (rules : Rules) (w : Cluster) (r : Lines) (h : Lives c rules w r) (n : ℕ) (f : Frame) (members : List ℕ) (table : List TableRow) (ptables : List PTable) (assigned : List Assigned) (there : nat_lt n c.nodes ≡ true)
    (is : f.msg ≡ msg.Push members table ptables assigned) (come : HasCome w n f) where
  abbrev x : Node
  x = node_at n w

  abbrev u : Turn
  u = happens c rules n (begins x) (event.Arrive f)

  said : (2 ≤ f.generation) × (r.born f.generation ≡ true) × (members ≡ r.members f.generation) × (table ≡ h.ages.tables f.generation)
  unfolding RoundSays
  said = subst (λ (m : Msg). RoundSays c r h.ages f.generation f.sender m) is (was_said (MailSays c r h.ages) w.sent f h.mail come.sent).round

  -- it says what its line began with
  is_of_line : f.msg ≡ msg.Push (r.members f.generation) (h.ages.tables f.generation) ptables assigned
  is_of_line = is ∙ (λ i. msg.Push (said.2 i) (said.3 i) ptables assigned)

  installed : is_sound c f ≡ true → is_frozen_in f.generation x.phase ≡ true → u.spent ≡ false → Turned c rules h.who w r h.ages n (pending w) u
  installed sound frozen whole =
      let e = push_is c rules n (begins x) f (r.members f.generation) (h.ages.tables f.generation) ptables assigned is_of_line sound frozen in
      subst (λ (t : Turn). Turned c rules h.who w r h.ages n (pending w) t) (sym e)
      (installs_turned c rules w r h n f ptables assigned there is_of_line come sound frozen
      (sym (installs_spent c n f.sender f.generation (r.members f.generation) (h.ages.tables f.generation) ptables assigned (begins x)) ∙ ap (λ (t : Turn). t.spent) (sym e) ∙ whole))

  -- who is present in the line has installed it
  has_installed : is_present_in f.generation x ≡ true → r.installed f.generation n ≡ true
  unfolding is_present_in
  has_installed e =
      let own = h.nodes n there in
      let at : r.line n ≡ f.generation = sym own.line ∙ eqb-true x.generation f.generation (and_parts (is_present x.phase) (nat_eq x.generation f.generation) e).1 in
      subst (λ (j : ℕ). r.installed j n ≡ true) at (own.done (let l = said.0 in omega arith))

  acks : is_present_in f.generation x ≡ true → Says_round c w r h.ages n (record { generation = f.generation; sender = n; receiver = f.sender; msg = msg.PushAck })
  unfolding RoundSays ReplySays record_in
  acks e = record { sender = refl; round = has_installed e; none = refl; reply = tt }

  idle : Led c w r h.ages n (begins x)
  idle = idle_led c w r h.ages n (h.nodes n there).lead

  again : is_frozen_in f.generation x.phase ≡ false → Led c w r h.ages n u
  unfolding happens arrives if_sound on_push
  again e = subst (λ (t : Turn). Led c w r h.ages n t) (sym (ap (λ (m : Msg). arrives c rules n f (begins x) m) is)) (either (is_sound c f) (is_frozen_in f.generation x.phase) (is_present_in f.generation x) e refl)
    where
      either : (b d p : Bool) → d ≡ false → is_present_in f.generation x ≡ p →
          Led c w r h.ages n (cond b (cond d (posts f.generation n f.sender msg.PushAck (installs c n f.sender f.generation members table ptables assigned (begins x))) (cond p (posts f.generation n f.sender msg.PushAck (begins x)) (begins x))) (begins x))
      either true true p e k = absurd (cc)
      either true false true e k = one_led c w r h.ages n f.generation f.sender msg.PushAck (h.nodes n there).lead (acks k)
      either true false false e k = idle
      either false d p e k = idle

  unsound : is_sound c f ≡ false → Led c w r h.ages n u
  unfolding happens arrives if_sound
  unsound e = subst (λ (t : Turn). Led c w r h.ages n t) (sym (ap (λ (m : Msg). arrives c rules n f (begins x) m) is)) (either (is_sound c f) _ e)
    where
      either : (b : Bool) (t : Turn) → b ≡ false → Led c w r h.ages n (cond b t (begins x))
      either true t e = absurd (cc)
      either false t e = idle

  pub push_turned : u.spent ≡ false → Turned c rules h.who w r h.ages n (pending w) u
  push_turned whole = ⊎_elim
      (λ (frozen : is_frozen_in f.generation x.phase ≡ true). ⊎_elim
      (λ (sound : is_sound c f ≡ true). installed sound frozen whole)
      (λ (e : is_sound c f ≡ false). lead_turned c rules w r h n u there (unsound e))
      (cases_Bool (is_sound c f)))
      (λ (e : is_frozen_in f.generation x.phase ≡ false). lead_turned c rules w r h n u there (again e))
      (cases_Bool (is_frozen_in f.generation x.phase))
