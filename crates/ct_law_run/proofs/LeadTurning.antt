-- The arrival of a Freeze above the promise: the whole turn.
use Rattle.std.proofs.Common.{◌≡◌, ◌≢◌, ℕ, suc, ◌<◌, Bool, true, false, cond, List, [], ◌∷◌, ◌++◌, length, map, Option, None, Some, append-nil, inl, inr, ⊎_elim, refl, sym, ap, ◌∙◌, subst, arith}
use Rattle.std.specs.Prelude.{◌⊎◌, nat_lt}
use Rattle.std.specs.List.{AllByRecursion}
use Rattle.std.proofs.lemmas.Bool.{cases_eq, and_parts, ltb-true, cases_Bool}
use Rattle.ct_values.specs.declared.client.ClientOp.TheVariants as op
use Rattle.ct_values.specs.declared.config.Config.{Config}
use Rattle.ct_values.specs.declared.config.DbDecl.{DbDecl}
use Rattle.ct_frame.specs.declared.event.Event.TheVariants as event
use Rattle.ct_frame.specs.declared.event.Out.{Out}
use Rattle.ct_frame.specs.declared.frame.Frame.{Frame}
use Rattle.ct_frame.specs.declared.frame.Msg.{Msg}
use Rattle.ct_frame.specs.declared.frame.Msg.TheVariants as msg
use Rattle.ct_call.specs.Rules.{Rules}
use Rattle.ct_merge.proofs.Among.{In}
use Rattle.ct_lcp2.proofs.Choices.{all_append, all_weaken}
use Rattle.ct_rules.specs.declared.state.RecState.{RecState}
use Rattle.ct_rules.specs.declared.state.Wish.{Wish}
use Rattle.ct_rules_node.specs.Node.{Node, Phase, Freezing, Database, Committing, Lead, untouched, or_untouched, is_among, db_at, state_at}
use Rattle.ct_law_rules_node.specs.NodeLaws.{AllAscend}
use Rattle.ct_rules_node.specs.Rounds.{frozen_state, lead_from}
use Rattle.ct_rules_node.specs.Turn.{Turn, begins}
use Rattle.ct_rules_node.specs.Admission.{is_sound, is_listed, members_in, record_in}
use Rattle.ct_rules_node.specs.Steps.{happens}
use Rattle.ct_rules_cluster.specs.Cluster.{Cluster, Sent, absent, node_at, pending}
use Rattle.ct_rules_cluster.specs.Labels.{Label}
use Rattle.ct_rules_cluster.specs.Steps.{frames_of, put, with_node}
use Rattle.ct_rules_cluster.specs.Traces.{sent_label}
use Rattle.ct_rules_cluster.specs.declared.step.PendingCall.{PendingCall}
use Rattle.ct_register.specs.Lines.{Lines}
use Rattle.ct_register.specs.Legal.{AcceptsLabels}
use Rattle.ct_register.specs.Marks.{MarksStep}
use Rattle.ct_promise.specs.Promises.{IsConfig}
use Rattle.ct_promise.specs.Generation.{record_labels}
use Rattle.ct_promise.specs.Marked.{is_removed}
use Rattle.ct_law_record.specs.World.{View, unlocked}
use Rattle.ct_law_record.proofs.MarkedRun.{marks_of}
use Rattle.ct_law_generation.specs.Shown.{scene, view, mails, mail_of, labels_of}
use Rattle.ct_law_wishes.proofs.Wishing.{Wishful}
use Rattle.ct_law_generation.proofs.Hearing.{frames_more, labels_more, mails_more}
use Rattle.ct_law_generation.proofs.Pending.{Callers, Known, KnownAt, CommitFits, NodeKnown, none_known, pending_fits}
use Rattle.ct_law_generation.proofs.Staying.{Of_records}
use Rattle.ct_law_generation.proofs.Forming.{Is_formed}
use Rattle.ct_law_generation.proofs.Committed.{waiting_untold}
use Rattle.ct_law_run.proofs.Apart.{none_fresh}
use Rattle.ct_law_run.proofs.Ages.{Ages, era_of, Rests}
use Rattle.ct_law_run.proofs.Lives.{Lives, NodeLives, MailSays, RoundSays, ReplySays, LeadSays, PhaseSays, HasTicket, IsTicket, WasSent}
use Rattle.ct_law_run.proofs.Later.{Later}
use Rattle.ct_law_run.proofs.Lined.{beyond}
use Rattle.ct_law_run.proofs.Faces.{Turned}
use Rattle.ct_law_run.proofs.Ends.{is_ended, ends_outs, unlock}
use Rattle.ct_law_run.proofs.Telling.{ends_frames, ends_remove, All_untold}
use Rattle.ct_law_run.proofs.Froze.{Froze, Freeze_turn, ack, freeze_is}
use Rattle.ct_law_run.proofs.Stood.{Stood, stood, frozen_formed, lead_later, lead_left, reply_freezes}
use Rattle.ct_law_run.proofs.Freezing.{HasCome, CommitsPersist, Freed_lines, freed_nowhere, freed_there}

-- ---- what was said

pub was_said : (P : Frame → Type 0) (ss : List Sent) (f : Frame) → AllByRecursion (λ s. P s.frame) ss → In f (map (λ s. s.frame) ss) → P f
was_said P [] f all i = absurd i
was_said P (s ∷ ss) f all (inl e) = subst P e all.0
was_said P (s ∷ ss) f all (inr i) = was_said P ss f all.1 i

pub ticket_said : (c : Config) (w : Cluster) (r : Lines) (a : Ages) (f : Frame) (members : List ℕ) → AllByRecursion (λ s. MailSays c r a s.frame) w.sent → WasSent w f → f.msg ≡ msg.Freeze members → IsTicket c r f.generation f.sender members
unfolding RoundSays
ticket_said c w r a f members mail sent is = subst (λ (m : Msg). RoundSays c r a f.generation f.sender m) is (was_said (MailSays c r a) w.sent f mail sent).round

listed : (c : Config) (f : Frame) (members : List ℕ) → f.msg ≡ msg.Freeze members → is_sound c f ≡ true → is_among f.receiver members ≡ true
unfolding is_sound is_listed members_in
listed c f members is sound = (and_parts (is_among f.sender members) (is_among f.receiver members) (subst (λ (m : Msg). is_listed f (members_in m) ≡ true) is (and_parts _ _ (and_parts _ _ (and_parts _ _ (and_parts _ _ sound).0).0).0).1)).1

-- ---- no answer to a commit that waits is told of records

absent_known : (who : Callers) (calls n : ℕ) → NodeKnown who calls n absent
unfolding absent AllAscend db_at or_untouched untouched KnownAt CommitFits Wishful
absent_known who calls n = record { order = tt; dbs = λ db. record { records = λ key. none_known who calls n db key; commit = tt } }

pub all_known : (c : Config) (rules : Rules) (w : Cluster) (r : Lines) (h : Lives c rules w r) (n : ℕ) → NodeKnown h.who w.calls n (node_at n w)
all_known c rules w r h n = ⊎_elim
    (λ (e : nat_lt n c.nodes ≡ true). (h.nodes n e).known)
    (λ (e : nat_lt n c.nodes ≡ false). subst (λ (x : Node). NodeKnown h.who w.calls n x) (sym (beyond c rules w r h n e)) (absent_known h.who w.calls n))
    (cases_Bool (nat_lt n c.nodes))

commits_untold : (c : Config) (rules : Rules) (w : Cluster) (r : Lines) (h : Lives c rules w r) (n : ℕ) (own : NodeKnown h.who w.calls n (node_at n w)) → CommitsPersist c (node_at n w) → All_untold c (pending w) (node_at n w).dbs
unfolding db_at CommitFits
commits_untold c rules w r h n own persist k x e = waiting_untold c h.who n x.call (op.Commit k x.writes) (pending w) (pending_fits h.who w.calls w (all_known c rules w r h))
    (subst (λ (o : Option Committing). CommitFits h.who w.calls n k o) e (own.dbs k).commit).0 (persist k x e)

-- ---- what the node sends

pub acks_labels : (n g h : ℕ) (pend : List PendingCall) (more : List Out) → (more ≡ []) ⊎ (more ≡ ack n g h ∷ []) → labels_of n pend more ≡ []
unfolding labels_of sent_label
acks_labels n g h pend more (inl e) = ap (λ (l : List Out). labels_of n pend l) e
acks_labels n g h pend more (inr e) = ap (λ (l : List Out). labels_of n pend l) e

pub acks_mails : (n g h m db : ℕ) (key : List ℕ) (more : List Out) → (more ≡ []) ⊎ (more ≡ ack n g h ∷ []) → mails m db key (frames_of more) ≡ []
unfolding frames_of mails mail_of record_in
acks_mails n g h m db key more (inl e) = ap (λ (l : List Out). mails m db key (frames_of l)) e
acks_mails n g h m db key more (inr e) = ap (λ (l : List Out). mails m db key (frames_of l)) e

-- what holds of a FreezeAck of the node holds of all that it sends
pub acks_all : (P : Frame → Type 0) (n g h : ℕ) (more : List Out) → (more ≡ []) ⊎ (more ≡ ack n g h ∷ []) → P (record { generation = g; sender = n; receiver = h; msg = msg.FreezeAck }) → AllByRecursion (λ s. P s.frame) (frames_of more)
unfolding frames_of
acks_all P n g h more (inl e) k = subst (λ (l : List Out). AllByRecursion (λ s. P s.frame) (frames_of l)) (sym e) tt
acks_all P n g h more (inr e) k = subst (λ (l : List Out). AllByRecursion (λ s. P s.frame) (frames_of l)) (sym e) (k, tt)

turn_frames : (c : Config) (ds : List Database) (outs more : List Out) → outs ≡ ends_outs c 0 ds ++ more → frames_of outs ≡ frames_of more
turn_frames c ds outs more e = ap frames_of e ∙ frames_more (ends_outs c 0 ds) more ∙ ap (λ (l : List Sent). l ++ frames_of more) (ends_frames c 0 ds)

turn_labels : (c : Config) (n g h : ℕ) (pend : List PendingCall) (ds : List Database) (outs more : List Out) → outs ≡ ends_outs c 0 ds ++ more → (more ≡ []) ⊎ (more ≡ ack n g h ∷ []) → labels_of n pend outs ≡ labels_of n pend (ends_outs c 0 ds)
turn_labels c n g h pend ds outs more e acks = ap (λ (l : List Out). labels_of n pend l) e ∙ labels_more n pend (ends_outs c 0 ds) more ∙ ap (λ (l : List Label). labels_of n pend (ends_outs c 0 ds) ++ l) (acks_labels n g h pend more acks) ∙ append-nil (labels_of n pend (ends_outs c 0 ds))

-- what was sent was sent
pub sent_still : (w v : Cluster) (more : List Sent) (f : Frame) → v.sent ≡ w.sent ++ more → WasSent w f → WasSent v f
sent_still w v more f e h = subst (λ (l : List Sent). In f (map (λ s. s.frame) l)) (sym e) (front w.sent h)
  where
    front : (ss : List Sent) → In f (map (λ s. s.frame) ss) → In f (map (λ s. s.frame) (ss ++ more))
    front [] i = absurd i
    front (s ∷ ss) (inl i) = inl i
    front (s ∷ ss) (inr i) = inr (front ss i)

-- ---- the node

wish_kept : (b : Bool) (s : RecState) → (cond b (unlock (frozen_state s)) (frozen_state s)).wish ≡ s.wish
unfolding frozen_state
wish_kept true s = refl
wish_kept false s = refl

rests_on : (b : Bool) (s : RecState) (v : View) → frozen_state s ≡ frozen_state v.state → cond b (unlock (frozen_state s)) (frozen_state s) ≡ frozen_state (cond b (unlocked v) v).state
unfolding frozen_state
rests_on true s v e = ap unlock e
rests_on false s v e = e

next_on : (b : Bool) (v : View) → v.next ≡ (cond b (unlocked v) v).next
next_on true v = refl
next_on false v = refl

known_after : (c : Config) (who : Callers) (calls n g h : ℕ) (x y : Node) → Froze c g h x y → NodeKnown who calls n x → NodeKnown who calls n y
unfolding KnownAt CommitFits state_at
known_after c who calls n g h x y z k = record {
  order = z.order;
  dbs = λ db. record {
    records = λ key. subst (λ (o : Option Wish). Wishful (Known who calls n db key) o) (sym (ap (λ (s : RecState). s.wish) (z.state db key) ∙ wish_kept (is_ended c 0 x.dbs db key) (state_at db key x))) ((k.dbs db).records key);
    commit = subst (λ (o : Option Committing). CommitFits who calls n db o) (sym (z.commit db)) tt;
  };
}

view_after : (c : Config) (g h db : ℕ) (key : List ℕ) (x y : Node) → Froze c g h x y → view db key y ≡ record (view db key x) { state = cond (is_ended c 0 x.dbs db key) (unlock (frozen_state (state_at db key x))) (frozen_state (state_at db key x)) }
view_after c g h db key x y z = λ i. record { state = z.state db key i; next = z.next i; floor = z.floor db i }

-- what the phases ask
pub record Rest_after (r : Lines) (b : Ages) (n g : ℕ) (y : Node) : Type 0 where
  pub ticket : HasTicket r g
  pub unborn : r.born g ≡ false
  pub promise : y.promise ≡ g
  pub older : r.pline n < g
  pub empty : r.line n ≡ 0 → (db : ℕ) → (db_at db y).records ≡ []
  pub rests : r.line n ≢ 0 → (db : ℕ) (key : List ℕ) → Rests db key ((b.worlds (r.line n) db key).nodes n) y
  pub commit : (db : ℕ) → (db_at db y).commit ≡ None
  pub member : is_among n (r.members g) ≡ true

phase_after : (c : Config) (rules : Rules) (who : Callers) (v : Cluster) (r : Lines) (b : Ages) (n g h : ℕ) (x y : Node) → Froze c g h x y → Rest_after r b n g y → PhaseSays c rules who v r b n y y.phase
unfolding PhaseSays
phase_after c rules who v r b n g h x y z k = ⊎_elim
    (λ (e : y.phase ≡ Freezing g h). subst (λ (p : Phase). PhaseSays c rules who v r b n y p) (sym e) (k.ticket, k.unborn, k.promise, k.older, k.empty, k.rests, k.commit, k.member))
    (λ p. subst (λ (q : Phase). PhaseSays c rules who v r b n y q) (sym p.0) (k.ticket, k.promise, k.older, k.empty, k.rests, k.commit, p.1, λ born. absurd (let e = sym born ∙ k.unborn in cc)))
    z.phase

-- ---- the whole turn

module _ (c : Config) (rules : Rules) (w : Cluster) (r : Lines) (h : Lives c rules w r) (n : ℕ) (f : Frame) (members : List ℕ) (config : IsConfig c) (is : f.msg ≡ msg.Freeze members) (come : HasCome w n f) (sound : is_sound c f ≡ true)
    (newer : nat_lt (node_at n w).promise f.generation ≡ true) (persist : CommitsPersist c (node_at n w)) where
  abbrev x : Node
  x = node_at n w

  abbrev a : Ages
  a = h.ages

  abbrev u : Turn
  u = happens c rules n (begins x) (event.Arrive f)

  abbrev v : Cluster
  v = (put n u [] w).cluster

  ticket : IsTicket c r f.generation f.sender members
  ticket = ticket_said c w r a f members h.mail come.sent is

  member : is_among n members ≡ true
  member = subst (λ (k : ℕ). is_among k members ≡ true) come.receiver (listed c f members is sound)

  own : NodeLives c rules h.who w r a n x
  own = h.nodes n (ticket.there n member)

  lower : x.promise < f.generation
  lower = ltb-true x.promise f.generation newer

  unborn : r.born f.generation ≡ false
  unborn = either (r.born f.generation) refl
    where
      either : (b : Bool) → r.born f.generation ≡ b → r.born f.generation ≡ false
      either false e = e
      either true e = absurd (let p = own.promises f.generation e (subst (λ (ms : List ℕ). is_among n ms ≡ true) (sym ticket.named) member) in let l = lower in omega arith)

  some : 0 < length x.dbs
  some = (let e : length c.dbs ≡ suc (length config.0) = ap (λ (ds : List DbDecl). length ds) config.2.2 in let l = own.size in omega arith)

  turn : Freeze_turn c n f.generation f.sender x u
  turn = freeze_is c rules n x f members own.known.order some is sound newer

  abbrev y : Node
  y = u.node

  frames : frames_of u.outs ≡ frames_of turn.more
  frames = turn_frames c x.dbs u.outs turn.more turn.outs

  labels : labels_of n (pending w) u.outs ≡ labels_of n (pending w) (ends_outs c 0 x.dbs)
  labels = turn_labels c n f.generation f.sender (pending w) x.dbs u.outs turn.more turn.outs turn.acks

  sent_is : v.sent ≡ w.sent ++ frames_of u.outs
  unfolding put with_node
  sent_is = refl

  calls_is : v.calls ≡ w.calls
  unfolding put with_node
  calls_is = refl

  same_mails : (m db : ℕ) (key : List ℕ) → mails m db key v.sent ≡ mails m db key w.sent
  same_mails m db key = ap (λ (l : List Sent). mails m db key l) sent_is ∙ mails_more m db key w.sent (frames_of u.outs)
      ∙ ap (λ (l : List _). mails m db key w.sent ++ l) (ap (λ (l : List Sent). mails m db key l) frames ∙ acks_mails n f.generation f.sender m db key turn.more turn.acks)
      ∙ append-nil (mails m db key w.sent)

  before : Stood c r a n x
  before = stood c rules h.who w r a n x x.phase own.commits own.phase

  freed : Freed_lines c rules v r a n (pending w) x
  freed = ⊎_elim
      (λ (e : r.line n ≡ 0). freed_nowhere c rules w v r a n (pending w) x h.lines same_mails e before)
      (λ (ne : r.line n ≢ 0). freed_there c rules h.who w v r a n (pending w) x config h.lines same_mails ne before own (commits_untold c rules w r h n own.known persist))
      (cases_eq (r.line n) 0)

  abbrev s : Lines
  s = record r { records = freed.records }

  abbrev b : Ages
  b = freed.ages

  later : Later r a s b
  later = record {
    last = omega arith;
    leader = λ g k e. e;
    named = λ g k e. refl;
    born = λ g e. e;
    members = λ g e. refl;
    tables = λ g e. freed.tables g;
    installed = λ g k e. e;
    had = λ g k l lt e. e;
    phad = λ g k l lt e. e;
  }

  rest : Rest_after s b n f.generation y
  rest = record {
    ticket = (f.sender, ticket.given);
    unborn = unborn;
    promise = turn.node.promise;
    older = (let o = own.older in let l = lower in omega arith);
    empty = λ z. turn.node.empty (before.empty z) (before.calm z);
    rests = λ ne db key. record {
      state = turn.node.state db key ∙ rests_on (is_ended c 0 x.dbs db key) (state_at db key x) ((a.worlds (r.line n) db key).nodes n) (before.state ne db key) ∙ ap (λ (t : View). frozen_state t.state) (sym (freed.here ne db key));
      next = turn.node.next ∙ before.next ne db key ∙ next_on (is_ended c 0 x.dbs db key) ((a.worlds (r.line n) db key).nodes n) ∙ ap (λ (t : View). t.next) (sym (freed.here ne db key));
    };
    commit = turn.node.commit;
    member = subst (λ (ms : List ℕ). is_among n ms ≡ true) (sym ticket.named) member;
  }

  wish_is : (db : ℕ) (key : List ℕ) → (state_at db key y).wish ≡ (state_at db key x).wish
  wish_is db key = ap (λ (t : RecState). t.wish) (turn.node.state db key) ∙ wish_kept (is_ended c 0 x.dbs db key) (state_at db key x)

  all_replies : AllByRecursion (λ t. ReplySays s b n y t.frame t.frame.msg) v.sent
  unfolding ReplySays
  all_replies = subst (λ (l : List Sent). AllByRecursion (λ t. ReplySays s b n y t.frame t.frame.msg) l) (sym (sent_is ∙ ap (λ (l : List Sent). w.sent ++ l) frames))
      (all_append (λ t. ReplySays s b n y t.frame t.frame.msg) w.sent (frames_of turn.more)
      (all_weaken (λ t. ReplySays r a n x t.frame t.frame.msg) (λ t. ReplySays s b n y t.frame t.frame.msg) (λ t k. reply_freezes c r a b s n f.generation f.sender x y t.frame t.frame.msg refl turn.node lower freed.copies k) w.sent own.replies)
      (acks_all (λ q. ReplySays s b n y q q.msg) n f.generation f.sender turn.more turn.acks tt))

  lives : NodeLives c rules h.who v s b n y
  lives = record {
    size = turn.node.size ∙ own.size;
    known = subst (λ (k : ℕ). NodeKnown h.who k n y) (sym calls_is) (known_after c h.who w.calls n f.generation f.sender x y turn.node own.known);
    line = turn.node.generation ∙ own.line;
    base = turn.node.pbase ∙ own.base;
    older = (let o = own.older in let l = lower in let p = turn.node.promise in omega arith);
    given = (let t = h.formed.order.tickets f.generation f.sender ticket.given in let p = turn.node.promise in omega arith);
    named = λ ne. (let k = own.named ne in (k.0, turn.node.members ∙ k.1, k.2));
    done = own.done;
    promises = λ g born among. (let k = own.promises g born among in let l = lower in let p = turn.node.promise in omega arith);
    waits = λ db key. subst (λ (o : Option Wish). Wishful (Of_records c db key) o) (sym (wish_is db key)) (own.waits db key);
    formed = λ db key. subst (λ (t : View). Is_formed (scene c (era_of r a (r.line n)) rules db key) n t) (sym (view_after c f.generation f.sender db key x y turn.node)) (frozen_formed (scene c (era_of r a (r.line n)) rules db key) n (view db key x) (is_ended c 0 x.dbs db key) (own.formed db key));
    commits = λ db k e. absurd (let z : None ≡ Some k = sym (turn.node.commit db) ∙ e in cc);
    persist = λ db k e. absurd (let z : None ≡ Some k = sym (turn.node.commit db) ∙ e in cc);
    serving = λ db k e. absurd (let z : None ≡ Some k = sym (turn.node.commit db) ∙ e in cc);
    phase = phase_after c rules h.who v s b n f.generation f.sender x y turn.node rest;
    lead = subst (λ (l : Lead). LeadSays c v s b n l) (sym turn.node.lead) (lead_later c w v r a s b n (lead_from f.generation x.lead) later (λ g e. e) (λ q k. sent_still w v (frames_of u.outs) q sent_is k) (lead_left c w r a n f.generation x.lead own.lead));
    replies = all_replies;
  }

  said : AllByRecursion (λ t. MailSays c s b t.frame) (frames_of u.outs)
  unfolding RoundSays record_in
  said = subst (λ (l : List Sent). AllByRecursion (λ t. MailSays c s b t.frame) l) (sym frames) (acks_all (MailSays c s b) n f.generation f.sender turn.more turn.acks (record { round = tt; sound = λ k e. absurd (cc) }))

  others_say : (k : ℕ) → k ≢ n → AllByRecursion (λ t. ReplySays s b k (node_at k w) t.frame t.frame.msg) (frames_of u.outs)
  unfolding ReplySays
  others_say k ne = subst (λ (l : List Sent). AllByRecursion (λ t. ReplySays s b k (node_at k w) t.frame t.frame.msg) l) (sym frames) (acks_all (λ q. ReplySays s b k (node_at k w) q q.msg) n f.generation f.sender turn.more turn.acks tt)

  pub freeze_turned : Turned c rules h.who w r h.ages n (pending w) u
  freeze_turned = record {
    lines = s;
    ages = b;
    accepts = subst (λ (l : List Label). AcceptsLabels c rules r (record_labels c l) s) (sym labels) freed.accepts;
    later = later;
    away = λ k ne. record { line = refl; pline = refl; views = λ g db key born. freed.others k ne g db key };
    rest = λ g db key born why. freed.keeps g db key;
    last = refl;
    holder = refl;
    lives = freed.lives;
    mine = lives;
    says = said;
    replies = others_say;
    marks = λ g born db key. subst (λ (t : Bool). MarksStep t (marks_of (a.ghosts g db key)) (marks_of (b.ghosts g db key)))
        (sym (ap (λ (l : List Label). is_removed r g db key l) labels ∙ ends_remove c r g db key n 0 (pending w) x.dbs)) (freed.marks g db key born);
    fresh = λ k ne lt. none_fresh c rules r s b k (node_at k w) (λ g. refl);
  }
