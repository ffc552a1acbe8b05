-- A message comes to a node.
use Rattle.std.proofs.Common.{◌≡◌, ℕ, Bool, true, false, cond, List, [], ◌∷◌, Some, refl, sym, ap, ◌∙◌, subst, arith}
use Rattle.std.specs.Prelude.{◌&&◌, nat_eq, nat_lt}
use Rattle.std.specs.List.{AllByRecursion}
use Rattle.std.proofs.lemmas.Bool.{and_parts, eqb-true}
use Rattle.ct_values.specs.Words.{others}
use Rattle.ct_values.specs.declared.address.Address.{Address}
use Rattle.ct_values.specs.declared.client.Answer.{Answer}
use Rattle.ct_values.specs.declared.client.ClientOp.TheVariants as op
use Rattle.ct_values.specs.declared.client.Pair.{Pair}
use Rattle.ct_values.specs.declared.config.Config.{Config}
use Rattle.ct_frame.specs.declared.frame.Assigned.{Assigned}
use Rattle.ct_frame.specs.declared.frame.Frame.{Frame}
use Rattle.ct_frame.specs.declared.frame.Msg.{Msg}
use Rattle.ct_frame.specs.declared.frame.Msg.TheVariants as msg
use Rattle.ct_frame.specs.declared.frame.PTable.{PTable}
use Rattle.ct_frame.specs.declared.frame.TableRow.{TableRow}
use Rattle.ct_frame.specs.declared.round.Pull.{Pull}
use Rattle.ct_call.specs.Rules.{Rules}
use Rattle.ct_merge.proofs.Among.{In}
use Rattle.ct_merge.specs.Gathered.{Gathered, gathered, finished}
use Rattle.ct_rules_node.specs.Node.{Node, Lead, Pulls, Committing, is_among, is_present_in, is_frozen_in, is_persistent, kind_at, db_at}
use Rattle.ct_rules_node.specs.Turn.{Turn, begins}
use Rattle.ct_rules_node.specs.Admission.{record_in, is_current, is_sound}
use Rattle.ct_rules_node.specs.Databases.{on_pupdate, on_pack}
use Rattle.ct_rules_node.specs.Rounds.{on_freeze, on_pull, on_push, body_of, pushes, all_pulled, on_pullreply}
use Rattle.ct_rules_node.specs.Steps.{if_persistent, if_sound, if_taken_over, arrives}
use Rattle.ct_rules_cluster.specs.Labels.{Answered}
use Rattle.ct_rules_cluster.specs.declared.step.PendingCall.{PendingCall}
use Rattle.ct_register.specs.Lines.{Lines}
use Rattle.ct_register.specs.Words.{at}
use Rattle.ct_law_generation.specs.Shown.{labels_of}
use Rattle.ct_law_generation.specs.Waiting.{answered}
use Rattle.ct_law_generation.proofs.Pending.{Callers, Fits}
use Rattle.ct_law_acts.proofs.Known.{NodeCalls}
use Rattle.ct_law_registers.proofs.Facts.{Has, Gone, bases, owners, Stands, LeadStands}
use Rattle.ct_law_databases.proofs.Kept.{Calm, frame_list, calm_same, either_calm}
use Rattle.ct_law_databases.proofs.Law.{LeadSays, reply_of}
use Rattle.ct_law_databases.proofs.Settling.{waiting_owns}
use Rattle.ct_law_databases.proofs.Update as update
use Rattle.ct_law_databases.proofs.Update.{IsIn, pupdate_holds}
use Rattle.ct_law_databases.proofs.Ack.{pack_holds}
use Rattle.ct_law_databases.proofs.Freeze.{freeze_holds}
use Rattle.ct_law_databases.proofs.Choose.{kept}
use Rattle.ct_law_databases.proofs.Install.{push_holds}
use Rattle.ct_law_databases.proofs.Round.{round_holds}
use Rattle.ct_law_databases.proofs.Parts.{all_answerable, send_calm, lead_calm}
use Rattle.ct_law_databases.proofs.Records.{record_calm, on_thaw_calm}
use Rattle.ct_law_databases.proofs.Rounds.{pull_stands, on_freezeack_calm, on_pull_calm, on_pushack_calm, on_release_calm, on_releaseack_calm, on_take_calm}
use Rattle.ct_law_databases.proofs.Before.{Before, Goes, calm_goes, is_in, waits_in_line, present_in, frozen_quiet}

current_present : (f : Frame) (x : Node) → is_current f x ≡ true → is_present_in f.generation x ≡ true
unfolding is_current
current_present f x e = grind (arith, e)

module _ (config : Config) (rules : Rules) (who : Callers) (calls : ℕ) (nodes : ℕ → Node) (fs : List Frame) (r : Lines) (has : Has) (gone : Gone) (n : ℕ) (f : Frame) (pend : List PendingCall) (b : Before config nodes fs r has gone) (came : In f fs) (here : f.receiver ≡ n)
    (known : NodeCalls config who calls n (nodes n)) (fits : AllByRecursion (Fits who) pend) (told : (db : ℕ) (z : Committing) → (db_at db (nodes n)).commit ≡ Some z → (a : Answer) → answered z.call a pend ≡ Answered n (op.Commit db z.writes) a ∷ []) where
  abbrev t : Turn
  t = begins (nodes n)

  abbrev Goes_to : Turn → Type 0
  Goes_to u = Goes config nodes (at n u.node nodes) r has (labels_of n pend u.outs) (frame_list u.outs)

  goes_calmly : (u : Turn) → Calm config who (bases r) has n t u → Goes_to u
  goes_calmly u calm = calm_goes config who nodes r has n t u [] pend b.holds refl refl tt fits calm

  goes_nowhere : Goes_to t
  goes_nowhere = goes_calmly t calm_same

  -- one of two
  either_goes : (c : Bool) (u v : Turn) → (c ≡ true → Goes_to u) → (c ≡ false → Goes_to v) → Goes_to (cond c u v)
  either_goes true u v h k = h refl
  either_goes false u v h k = k refl

  says : (m : Msg) → f.msg ≡ m → Stands config (bases r) has f.generation f.sender m
  says m is = subst (Stands config (bases r) has f.generation f.sender) is (b.mail f came)

  -- a current message is of the node's line
  of_line : is_present_in f.generation (nodes n) ≡ true → f.generation ≡ r.line n
  of_line e = (let p = present_in f.generation (nodes n) e in sym p.1 ∙ (b.rounds.there n p.0).generation)

  -- where a commit waits at the node, that owns its lock
  owned : (db : ℕ) → is_persistent (kind_at config db) ≡ true → (z : Committing) → (db_at db (nodes n)).commit ≡ Some z → owners config r (r.line n) db ≡ Some n
  owned db kind z e = waiting_owns config nodes (bases r) gone (owners config r) b.locked b.locks (r.line n) db kind (n, refl, z, e)

  update_goes : (db seq : ℕ) (ws : List Pair) → f.msg ≡ msg.PUpdate db seq ws → Goes_to (if_persistent config f db (on_pupdate n f.sender db seq ws t) t)
  unfolding if_persistent
  update_goes db seq ws is = either_goes (is_current f (nodes n) && is_persistent (kind_at config db)) _ t (λ e.
      let p = and_parts (is_current f (nodes n)) (is_persistent (kind_at config db)) e in
      let q = present_in f.generation (nodes n) (current_present f (nodes n) p.0) in
      let i : IsIn config nodes r n db = is_in config nodes fs r b.rounds n db q.0 p.1 in
      let s : Stands config (bases r) has (r.line n) f.sender (msg.PUpdate db seq ws) = subst (λ (g : ℕ). Stands config (bases r) has g f.sender (msg.PUpdate db seq ws)) (of_line (current_present f (nodes n) p.0)) (says (msg.PUpdate db seq ws) is) in
      record { kept = λ k. 0; seen = 0; more = update.more config nodes r has n f.sender db seq ws false pend b.holds i s; goes = λ counts. pupdate_holds config nodes r has n f.sender db seq ws false pend b.holds i s _ }) (λ e. goes_nowhere)

  ack_goes : (db seq : ℕ) → f.msg ≡ msg.PAck db seq → Goes_to (if_persistent config f db (on_pack f.sender db seq t) t)
  unfolding if_persistent
  ack_goes db seq is = either_goes (is_current f (nodes n) && is_persistent (kind_at config db)) _ t (λ e.
      let p = and_parts (is_current f (nodes n)) (is_persistent (kind_at config db)) e in
      let q = present_in f.generation (nodes n) (current_present f (nodes n) p.0) in
      let i : IsIn config nodes r n db = is_in config nodes fs r b.rounds n db q.0 p.1 in
      let s : Stands config (bases r) has (r.line n) f.sender (msg.PAck db seq) = subst (λ (g : ℕ). Stands config (bases r) has g f.sender (msg.PAck db seq)) (of_line (current_present f (nodes n) p.0)) (says (msg.PAck db seq) is) in
      record { kept = λ k. 0; seen = 0; more = has; goes = λ counts. pack_holds config who _ nodes r has n f.sender db seq false pend b.holds i s (λ l k is. b.settled.heirs l (r.line n) db k p.1 is) (λ z e. owned db p.1 z e) (told db) }) (λ e. goes_nowhere)

  freeze_goes : Goes_to (on_freeze config n f.sender f.generation t)
  unfolding on_freeze Stands
  freeze_goes = either_goes (nat_lt (nodes n).promise f.generation) _ _
      (λ e. record { kept = λ k. 0; seen = 0; more = has; goes = λ counts. freeze_holds config _ nodes has n pend r told (waits_in_line config nodes fs r b.rounds b.locked n) (λ db z e. owned db (waits_in_line config nodes fs r b.rounds b.locked n db z e).kind z e) b.names b.holds f.generation f.sender false })
      (λ e. goes_calmly _ (either_calm (is_frozen_in f.generation (nodes n).phase) (send_calm config who (bases r) has n f.generation f.sender msg.FreezeAck t tt) calm_same))

  pull_goes : Goes_to (on_pull config n f.sender f.generation t)
  pull_goes = goes_calmly _ (on_pull_calm config who (bases r) has n f.sender f.generation t (λ e. pull_stands config nodes (bases r) has n f.generation (nodes n).generation (nodes n).held b.holds b.rounds.real (b.rounds.frozen n f.generation e)))

  push_goes : (members : List ℕ) (table : List TableRow) (ptables : List PTable) (assigned : List Assigned) → f.msg ≡ msg.Push members table ptables assigned → Goes_to (on_push config n f.sender f.generation members table ptables assigned t)
  unfolding on_push Stands
  push_goes members table ptables assigned is = either_goes (is_frozen_in f.generation (nodes n).phase) _ _
      (λ e. (let z = b.rounds.frozen n f.generation e in record {
        kept = λ k. 0;
        seen = 0;
        more = has;
        goes = λ counts.
            push_holds config who _ nodes r has n f.sender f.generation f.sender members table ptables assigned false pend fits b.holds z.older z.size (frozen_quiet config (nodes n) f.generation (b.locked n) e) (says (msg.Push members table ptables assigned) is);
      }))
      (λ e. goes_calmly _ (either_calm (is_present_in f.generation (nodes n)) (send_calm config who (bases r) has n f.generation f.sender msg.PushAck t tt) calm_same))

  -- ---- replies

  abbrev pull_of : ℕ → ℕ → List TableRow → List PTable → List Address → Pull
  pull_of vbase pbase table ptables addresses = record { node = f.sender; vbase = vbase; pbase = pbase; table = table; ptables = ptables; addresses = addresses }

  reply_came : (vbase pbase : ℕ) (table : List TableRow) (ptables : List PTable) (addresses : List Address) → f.msg ≡ msg.PullReply vbase pbase table ptables addresses → In (reply_of n f.generation (pull_of vbase pbase table ptables addresses)) fs
  reply_came vbase pbase table ptables addresses is = subst (λ (g : Frame). In g fs) (λ i. record { generation = f.generation; sender = f.sender; receiver = here i; msg = is i }) came

  last_goes : (g : ℕ) (members missing : List ℕ) (y : Gathered) (p : Pull) → (nodes n).lead ≡ Pulls g members missing y → In (reply_of n g p) fs → others p.node missing ≡ [] → Goes_to (pushes n g members (body_of n members (finished (gathered p y))) t)
  unfolding LeadSays
  last_goes g members missing y p is reply last =
      let l : LeadSays fs (bases r) n (Pulls g members missing y) = subst (LeadSays fs (bases r) n) is (b.rounds.leads n) in
      record {
        kept = kept config nodes fs r has n g members missing y p b.holds b.mail b.rounds.replies l.2 reply last;
        seen = 0;
        more = has;
        goes = λ counts. round_holds config who _ nodes fs r has n g members missing y p b.holds b.mail b.rounds.replies l.2 reply last false pend fits l.0 b.rounds.real (λ db. refl);
      }

  replies_go : (p : Pull) (l : Lead) → (nodes n).lead ≡ l → In (reply_of n f.generation p) fs → Goes_to (on_pullreply n f.generation p t l)
  unfolding on_pullreply all_pulled LeadStands
  replies_go p (Pulls h members missing y) is reply = either_goes (nat_eq h f.generation && is_among p.node missing) _ t
      (λ e. (let same = eqb-true h f.generation (and_parts (nat_eq h f.generation) (is_among p.node missing) e).0 in by_missing same (others p.node missing) refl)) (λ e. goes_nowhere)
    where
      by_missing : h ≡ f.generation → (left : List ℕ) → others p.node missing ≡ left → Goes_to (all_pulled n f.generation members (gathered p y) t left)
      by_missing same [] last = last_goes f.generation members missing y p (is ∙ ap (λ (g : ℕ). Pulls g members missing y) same) reply last
      by_missing same (m ∷ ms) more = goes_calmly _ (lead_calm config who (bases r) has n (Pulls f.generation members (m ∷ ms) (gathered p y)) t (λ h. tt))
  replies_go p _ is reply = goes_nowhere

  -- ---- every message

  pub arrives_goes : (m : Msg) → f.msg ≡ m → Goes_to (arrives config rules n f t m)
  unfolding arrives if_sound if_taken_over
  arrives_goes (msg.PUpdate db seq ws) is = update_goes db seq ws is
  arrives_goes (msg.PAck db seq) is = ack_goes db seq is
  arrives_goes (msg.Freeze members) is = either_goes (is_sound config f) _ t (λ e. freeze_goes) (λ e. goes_nowhere)
  arrives_goes msg.FreezeAck is = either_goes (is_sound config f) _ t (λ e. goes_calmly _ (on_freezeack_calm config who (bases r) has n f.sender f.generation t (nodes n).lead)) (λ e. goes_nowhere)
  arrives_goes msg.Pull is = either_goes (is_sound config f) _ t (λ e. pull_goes) (λ e. goes_nowhere)
  arrives_goes (msg.PullReply vbase pbase table ptables addresses) is = either_goes (is_sound config f) _ t (λ e. replies_go (pull_of vbase pbase table ptables addresses) (nodes n).lead refl (reply_came vbase pbase table ptables addresses is)) (λ e. goes_nowhere)
  arrives_goes (msg.Push members table ptables assigned) is = either_goes (is_sound config f) _ t (λ e. push_goes members table ptables assigned is) (λ e. goes_nowhere)
  arrives_goes msg.PushAck is = either_goes (is_sound config f) _ t (λ e. goes_calmly _ (on_pushack_calm config who (bases r) has n f.sender f.generation t (nodes n).lead refl)) (λ e. goes_nowhere)
  arrives_goes msg.Thaw is = either_goes (is_sound config f) _ t (λ e. goes_calmly _ (on_thaw_calm config rules who calls (bases r) has n f.generation t (nodes n).phase (all_answerable config who (bases r) calls n (nodes n) known) tt)) (λ e. goes_nowhere)
  arrives_goes (msg.Release number keep) is = either_goes (is_sound config f && is_current f (nodes n)) _ t (λ e. goes_calmly _ (on_release_calm config who (bases r) has n f.sender number keep t)) (λ e. goes_nowhere)
  arrives_goes (msg.ReleaseAck number) is = either_goes (is_sound config f && is_current f (nodes n)) _ t (λ e. goes_calmly _ (on_releaseack_calm config who (bases r) has n f.sender f.generation number t (nodes n).lead)) (λ e. goes_nowhere)
  arrives_goes (msg.Take number assigned) is = either_goes (is_sound config f && is_current f (nodes n)) _ t (λ e. goes_calmly _ (on_take_calm config who (bases r) has n number assigned t)) (λ e. goes_nowhere)
  arrives_goes m is = goes_calmly _ (record_calm config rules who calls (bases r) has n f t (record_in m) (all_answerable config who (bases r) calls n (nodes n) known) tt)
