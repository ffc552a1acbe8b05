-- The turns of a present node in which no record is touched: commits and their messages, reads of pairs, and the messages of
-- takeover runs, and a Push that comes again.
use Rattle.std.proofs.Common.{◌≡◌, ℕ, Bool, true, false, cond, List, [], ◌∷◌, None, refl, sym, ap, ◌∙◌, subst, arith}
use Rattle.std.specs.Prelude.{nat_lt, ◌&&◌}
use Rattle.std.proofs.lemmas.Bool.{and_parts}
use Rattle.ct_values.specs.declared.address.Address.{Address}
use Rattle.ct_values.specs.declared.client.ClientOp.TheVariants as op
use Rattle.ct_values.specs.declared.client.Pair.{Pair}
use Rattle.ct_values.specs.declared.config.Config.{Config}
use Rattle.ct_frame.specs.declared.event.Event.{Event}
use Rattle.ct_frame.specs.declared.event.Event.TheVariants as event
use Rattle.ct_frame.specs.declared.frame.Assigned.{Assigned}
use Rattle.ct_frame.specs.declared.frame.Frame.{Frame}
use Rattle.ct_frame.specs.declared.frame.Msg.{Msg}
use Rattle.ct_frame.specs.declared.frame.Msg.TheVariants as msg
use Rattle.ct_call.specs.Rules.{Rules}
use Rattle.ct_rules.specs.Parts.{want}
use Rattle.ct_rules_node.specs.Node.{Node, Lead, is_present, is_persistent, kind_at}
use Rattle.ct_rules_node.specs.Turn.{Turn, begins, makes}
use Rattle.ct_rules_node.specs.Admission.{is_current, is_sound, record_in}
use Rattle.ct_rules_node.specs.Clients.{client, refusal, serves, reads}
use Rattle.ct_rules_node.specs.Databases.{commit, read_pair, on_pupdate, on_pack}
use Rattle.ct_rules_node.specs.Records.{at_record}
use Rattle.ct_rules_node.specs.Takeovers.{on_release, on_take}
use Rattle.ct_rules_node.specs.Steps.{arrives, if_persistent, if_taken_over, happens}
use Rattle.ct_rules_cluster.specs.Cluster.{Cluster, node_at, pending}
use Rattle.ct_rules_cluster.specs.Steps.{frames_of}
use Rattle.ct_rules_cluster.specs.declared.step.PendingCall.{PendingCall}
use Rattle.ct_register.specs.Lines.{Lines}
use Rattle.ct_promise.specs.Generation.{record_labels}
use Rattle.ct_law_generation.specs.Shown.{labels_of, view}
use Rattle.ct_law_generation.proofs.Pending.{pending_fits}
use Rattle.ct_law_generation.proofs.Staying.{NodeStays, number_of, phase_of}
use Rattle.ct_law_generation.proofs.Calling.{own_pending}
use Rattle.ct_law_generation.proofs.Admitted.{admits}
use Rattle.ct_law_generation.proofs.Served.{client_serves}
use Rattle.ct_law_generation.proofs.Asides.{Beside, beside_views, beside_labels}
use Rattle.ct_law_generation.proofs.Rounding.{release_beside, take_beside}
use Rattle.ct_law_generation.proofs.Committed.{Goes_beside, beside_then, makes_beside, not_after, commit_beside, read_pair_beside, pupdate_beside, pack_beside, own_untold, waiting_untold, commit_kind}
use Rattle.ct_law_generation.proofs.Passing.{stays_beside}
use Rattle.ct_law_plain.proofs.Whole.{happens_locked}
use Rattle.ct_law_run.proofs.Ages.{era_of}
use Rattle.ct_law_run.proofs.Lives.{ReplySays, MailSays, LeadSays, Lives}
use Rattle.ct_law_run.proofs.Apart.{each_then}
use Rattle.ct_law_run.proofs.Faces.{Turned}
use Rattle.ct_law_run.proofs.Wordless.{wordless_turned, nothing_turned}
use Rattle.ct_law_run.proofs.Rounding.{Says_round, foreign}
use Rattle.ct_law_run.proofs.Present.{serving_says, reply_still, present_lives, known_all}
use Rattle.ct_law_run.proofs.Quietly.{Quietly, quiet_then, quiet_makes, quiet_commit, quiet_read, quiet_pupdate, quiet_pack, quiet_release, quiet_take}
use Rattle.ct_law_run.proofs.Records.{present_here, locked_here}

module _ (c : Config) (rules : Rules) (w : Cluster) (r : Lines) (h : Lives c rules w r) (n : ℕ) (pend : List PendingCall) (there : nat_lt n c.nodes ≡ true) (present : is_present (node_at n w).phase ≡ true) where
  abbrev x : Node
  x = node_at n w

  abbrev t : Turn
  t = begins x

  -- the turn of an event that no record sees
  pub quiet_turned : (e : Event) → NodeStays c (era_of r h.ages (r.line n)) rules h.who w.calls n (happens c rules n t e).node → ((db : ℕ) (key : List ℕ) → view db key (happens c rules n t e).node ≡ view db key x) →
      Quietly c w r h.ages n t (happens c rules n t e) → record_labels c (labels_of n pend (happens c rules n t e).outs) ≡ [] → Turned c rules h.who w r h.ages n pend (happens c rules n t e)
  unfolding frames_of
  quiet_turned e stays views quiet untold =
      let is = present_here c rules w r h n there present in
      let u = happens c rules n t e in
      let said = quiet.frames tt in
      let after = phase_of (r.line n) u.node stays.present in
      let promise = stays.promise ∙ sym is.stays.promise in
      wordless_turned c rules h.who w r h.ages n pend u h.lines (record {
        untold = untold;
        wordless = each_then (λ s. Says_round c w r h.ages n s.frame) (λ s. record_in s.frame.msg ≡ None) (λ s k. k.none) (frames_of u.outs) said;
        says = each_then (λ s. Says_round c w r h.ages n s.frame) (λ s. MailSays c r h.ages s.frame) (λ s k. record { round = k.round; sound = λ j i. absurd (let o = k.none in cc) }) (frames_of u.outs) said;
        replies = λ k ne. each_then (λ s. Says_round c w r h.ages n s.frame) (λ s. ReplySays r h.ages k (node_at k w) s.frame s.frame.msg) (λ s i. foreign r h.ages n k (node_at k w) s.frame s.frame.msg i.sender ne) (frames_of u.outs) said;
        own = each_then (λ s. Says_round c w r h.ages n s.frame) (λ s. ReplySays r h.ages n u.node s.frame s.frame.msg) (λ s k. reply_still r h.ages h.ages r.records n x u.node s.frame s.frame.msg present after promise (λ m db key ne. refl) k.reply) (frames_of u.outs) said;
        mine = present_lives c rules h.who w w r h.ages h.ages r.records n x u.node (h.nodes n there) is stays quiet.pbase (λ e. serving_says c rules h.who w r h.ages n x x.phase (sym quiet.phase ∙ e) (h.nodes n there).phase) (λ db key. is.shows db key ∙ sym (views db key))
            (happens_locked c rules n t e (locked_here c rules w r h n there)) (subst (λ (l : Lead). LeadSays c w r h.ages n l) (sym quiet.lead) (h.nodes n there).lead)
            (each_then (λ q. ReplySays r h.ages n x q.frame q.frame.msg) (λ q. ReplySays r h.ages n u.node q.frame q.frame.msg) (λ q k. reply_still r h.ages h.ages r.records n x u.node q.frame q.frame.msg present after promise (λ m db key ne. refl) k) w.sent (h.nodes n there).replies);
      })

  -- on the persistent side
  pub aside_turned : (e : Event) → Goes_beside c (era_of r h.ages (r.line n)) rules h.who w.calls n pend t (happens c rules n t e) → Quietly c w r h.ages n t (happens c rules n t e) → Turned c rules h.who w r h.ages n pend (happens c rules n t e)
  unfolding labels_of
  aside_turned e beside quiet = quiet_turned e (beside.stays (present_here c rules w r h n there present).stays) beside.views quiet beside.untold

  -- and where the databases are as they were
  pub beside_turned : (e : Event) → Beside (r.line n) n t (happens c rules n t e) → Quietly c w r h.ages n t (happens c rules n t e) → Turned c rules h.who w r h.ages n pend (happens c rules n t e)
  unfolding labels_of
  beside_turned e beside quiet = quiet_turned e (stays_beside c (era_of r h.ages (r.line n)) rules h.who w.calls n t (happens c rules n t e) beside (present_here c rules w r h n there present).stays)
      (λ db key. beside_views (r.line n) n db key t (happens c rules n t e) beside) quiet (beside_labels c (r.line n) n n pend t (happens c rules n t e) beside)

-- ---- calls on a persistent database

pub commit_turned : (c : Config) (rules : Rules) (w : Cluster) (r : Lines) (h : Lives c rules w r) (n db : ℕ) (writes : List Pair) → nat_lt n c.nodes ≡ true → is_present (node_at n w).phase ≡ true → h.who w.calls ≡ (n, op.Commit db writes) →
    refusal c rules (node_at n w) (op.Commit db writes) ≡ None →
    Turned c rules h.who w r h.ages n (own_pending n w.calls (op.Commit db writes) ∷ pending w) (happens c rules n (begins (node_at n w)) (event.Client w.calls (op.Commit db writes)))
unfolding happens serves makes
commit_turned c rules w r h n db writes there present own free =
    let x = node_at n w in
    let era = era_of r h.ages (r.line n) in
    let pend = own_pending n w.calls (op.Commit db writes) ∷ pending w in
    let turn : client c rules n w.calls (op.Commit db writes) (begins x) ≡ commit n w.calls db writes (makes w.calls (begins x)) = client_serves c rules n w.calls (op.Commit db writes) x free in
    let kind = commit_kind c x db writes (admits c rules x (op.Commit db writes) free) in
    aside_turned c rules w r h n pend there present (event.Client w.calls (op.Commit db writes))
    (subst (λ (u : Turn). Goes_beside c era rules h.who w.calls n pend (begins x) u) (sym turn)
    (beside_then c era rules h.who w.calls n pend (begins x) (makes w.calls (begins x)) (commit n w.calls db writes (makes w.calls (begins x))) (makes_beside c era rules h.who w.calls n pend w.calls (begins x))
    (commit_beside c era rules h.who w.calls n pend w.calls db writes (makes w.calls (begins x)) (not_after c era rules h.who w.calls n x (present_here c rules w r h n there present).stays) (own_untold c n w.calls (op.Commit db writes) (pending w) kind) own (omega arith))))
    (subst (λ (u : Turn). Quietly c w r h.ages n (begins x) u) (sym turn)
    (quiet_then c w r h.ages n (begins x) (makes w.calls (begins x)) (commit n w.calls db writes (makes w.calls (begins x))) (quiet_makes c w r h.ages n w.calls (begins x)) (quiet_commit c w r h.ages n w.calls db writes (makes w.calls (begins x)))))

pub read_turned : (c : Config) (rules : Rules) (w : Cluster) (r : Lines) (h : Lives c rules w r) (n db : ℕ) (key : List ℕ) → nat_lt n c.nodes ≡ true → is_present (node_at n w).phase ≡ true → is_persistent (kind_at c db) ≡ true → refusal c rules (node_at n w) (op.Read db key) ≡ None →
    Turned c rules h.who w r h.ages n (own_pending n w.calls (op.Read db key) ∷ pending w) (happens c rules n (begins (node_at n w)) (event.Client w.calls (op.Read db key)))
unfolding happens serves reads makes
read_turned c rules w r h n db key there present kind free =
    let x = node_at n w in
    let era = era_of r h.ages (r.line n) in
    let pend = own_pending n w.calls (op.Read db key) ∷ pending w in
    let t = makes w.calls (begins x) in
    let turn : client c rules n w.calls (op.Read db key) (begins x) ≡ read_pair w.calls db key t
    = client_serves c rules n w.calls (op.Read db key) x free ∙ ap (λ (b : Bool). cond b (read_pair w.calls db key t) (at_record c n db key (λ at o. want at rules w.calls (op.Read db key) o) t)) kind in
    aside_turned c rules w r h n pend there present (event.Client w.calls (op.Read db key))
    (subst (λ (u : Turn). Goes_beside c era rules h.who w.calls n pend (begins x) u) (sym turn)
    (beside_then c era rules h.who w.calls n pend (begins x) t (read_pair w.calls db key t) (makes_beside c era rules h.who w.calls n pend w.calls (begins x)) (read_pair_beside c era rules h.who w.calls n pend w.calls db key t (own_untold c n w.calls (op.Read db key) (pending w) kind))))
    (subst (λ (u : Turn). Quietly c w r h.ages n (begins x) u) (sym turn)
    (quiet_then c w r h.ages n (begins x) t (read_pair w.calls db key t) (quiet_makes c w r h.ages n w.calls (begins x)) (quiet_read c w r h.ages n w.calls db key t)))

-- ---- messages

module _ (c : Config) (rules : Rules) (w : Cluster) (r : Lines) (h : Lives c rules w r) (n : ℕ) (f : Frame) (there : nat_lt n c.nodes ≡ true) (present : is_present (node_at n w).phase ≡ true) where
  abbrev z : Node
  z = node_at n w

  abbrev s : Turn
  s = begins z

  abbrev Goal : Type 0
  Goal = Turned c rules h.who w r h.ages n (pending w) (happens c rules n s (event.Arrive f))

  -- the message is followed or dropped
  either : (b : Bool) (done : Turn) → happens c rules n s (event.Arrive f) ≡ cond b done s → (happens c rules n s (event.Arrive f) ≡ done → b ≡ true → Goal) → Goal
  either true done is k = k is refl
  either false done is k = subst (λ (u : Turn). Turned c rules h.who w r h.ages n (pending w) u) (sym is) (nothing_turned c rules w r h n (pending w) there)

  followed : (m : Msg) → f.msg ≡ m → happens c rules n s (event.Arrive f) ≡ arrives c rules n f s m
  unfolding happens
  followed m is = ap (λ (m : Msg). arrives c rules n f s m) is

  pub pupdate_turned : (db seq : ℕ) (writes : List Pair) → f.msg ≡ msg.PUpdate db seq writes → Goal
  unfolding arrives if_persistent
  pupdate_turned db seq writes is = either (is_current f z && is_persistent (kind_at c db)) (on_pupdate n f.sender db seq writes s) (followed (msg.PUpdate db seq writes) is) (λ turn _.
      (let era = era_of r h.ages (r.line n) in aside_turned c rules w r h n (pending w) there present (event.Arrive f)
      (subst (λ (u : Turn). Goes_beside c era rules h.who w.calls n (pending w) s u) (sym turn) (pupdate_beside c era rules h.who w.calls n (pending w) f.sender db seq writes s (not_after c era rules h.who w.calls n z (present_here c rules w r h n there present).stays)))
      (subst (λ (u : Turn). Quietly c w r h.ages n s u) (sym turn) (quiet_pupdate c w r h.ages n f.sender db seq writes s))))

  pub pack_turned : (db seq : ℕ) → f.msg ≡ msg.PAck db seq → Goal
  unfolding arrives if_persistent
  pack_turned db seq is = either (is_current f z && is_persistent (kind_at c db)) (on_pack f.sender db seq s) (followed (msg.PAck db seq) is) (λ turn ok.
      (let era = era_of r h.ages (r.line n) in
      let fits = pending_fits h.who w.calls w (known_all c rules w r h) in
      aside_turned c rules w r h n (pending w) there present (event.Arrive f)
      (subst (λ (u : Turn). Goes_beside c era rules h.who w.calls n (pending w) s u) (sym turn) (pack_beside c era rules h.who w.calls n (pending w) f.sender db seq s (present_here c rules w r h n there present).stays
      (λ call writes own. waiting_untold c h.who n call (op.Commit db writes) (pending w) fits own (and_parts (is_current f z) (is_persistent (kind_at c db)) ok).1)))
      (subst (λ (u : Turn). Quietly c w r h.ages n s u) (sym turn) (quiet_pack c w r h.ages n f.sender db seq s))))

  pub release_turned : (number : ℕ) (keep : List Address) → f.msg ≡ msg.Release number keep → Goal
  unfolding arrives if_taken_over
  release_turned number keep is = either (is_sound c f && is_current f z) (on_release n f.sender number keep s) (followed (msg.Release number keep) is) (λ turn _.
      beside_turned c rules w r h n (pending w) there present (event.Arrive f)
      (subst (λ (u : Turn). Beside (r.line n) n s u) (sym turn) (release_beside n f.sender number keep (r.line n) s (number_of (r.line n) z (present_here c rules w r h n there present).stays.present)))
      (subst (λ (u : Turn). Quietly c w r h.ages n s u) (sym turn) (quiet_release c w r h.ages n f.sender number keep s)))

  pub take_turned : (number : ℕ) (assigned : List Assigned) → f.msg ≡ msg.Take number assigned → Goal
  unfolding arrives if_taken_over
  take_turned number assigned is = either (is_sound c f && is_current f z) (on_take c n number assigned s) (followed (msg.Take number assigned) is) (λ turn _.
      beside_turned c rules w r h n (pending w) there present (event.Arrive f)
      (subst (λ (u : Turn). Beside (r.line n) n s u) (sym turn) (take_beside c n number assigned (r.line n) s))
      (subst (λ (u : Turn). Quietly c w r h.ages n s u) (sym turn) (quiet_take c w r h.ages n number assigned s)))
