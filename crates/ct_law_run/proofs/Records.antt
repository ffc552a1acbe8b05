-- The turns of a node that is present in which rules of records are followed: a message of a record, a vacuum, a Retry and a Thaw.
use Rattle.std.proofs.Common.{◌≡◌, ℕ, suc, true, false, List, [], ◌∷◌, ◌++◌, Option, Some, None, ⊎_elim, inl, inr, refl, sym, ap, ◌∙◌, subst, arith}
use Rattle.std.specs.Prelude.{nat_lt, ◌&&◌, map, slice_get, is_some}
use Rattle.std.specs.List.{AllByRecursion}
use Rattle.std.proofs.lemmas.Bool.{and_parts, cases_Bool}
use Rattle.ct_values.specs.declared.config.Config.{Config}
use Rattle.ct_frame.specs.declared.event.Event.{Event}
use Rattle.ct_frame.specs.declared.event.Event.TheVariants as event
use Rattle.ct_frame.specs.declared.event.Out.{Out}
use Rattle.ct_frame.specs.declared.event.Out.TheVariants as out
use Rattle.ct_frame.specs.declared.frame.Frame.{Frame}
use Rattle.ct_call.specs.Rules.{Rules}
use Rattle.ct_merge.proofs.Among.{In}
use Rattle.ct_rules.specs.Moves.{arrive}
use Rattle.ct_rules.specs.declared.event.MoveEvent.TheVariants as move
use Rattle.ct_rules_node.specs.Node.{Node, Committing, is_present, is_among, has_records, kind_at, db_at, state_at}
use Rattle.ct_rules_node.specs.Turn.{Turn, begins}
use Rattle.ct_rules_node.specs.Admission.{record_in, is_current}
use Rattle.ct_rules_node.specs.Steps.{happens}
use Rattle.ct_rules_cluster.specs.Cluster.{Cluster, Sent, node_at, pending}
use Rattle.ct_rules_cluster.specs.Steps.{frames_of}
use Rattle.ct_rules_cluster.specs.declared.step.PendingCall.{PendingCall}
use Rattle.ct_register.specs.Lines.{Lines}
use Rattle.ct_promise.specs.Promises.{IsConfig}
use Rattle.ct_law_record.specs.World.{World, waiting_call}
use Rattle.ct_law_generation.specs.Shown.{scene, labels_of, Finds}
use Rattle.ct_law_generation.proofs.Speaking.{arrive_told}
use Rattle.ct_law_generation.proofs.Hearing.{frames_more}
use Rattle.ct_law_generation.proofs.Events.{arrives_at, arrives_not}
use Rattle.ct_law_generation.proofs.Plain.{IsPlain}
use Rattle.ct_law_generation.proofs.Staying.{of_era}
use Rattle.ct_law_generation.proofs.Lining.{Is_fit}
use Rattle.ct_law_generation.proofs.Following.{Asks, Goes_on, finds_waiting}
use Rattle.ct_law_generation.proofs.Delivering.{IsShown, current_here, delivery_comes, delivers}
use Rattle.ct_law_generation.proofs.Configured.{all_small}
use Rattle.ct_law_generation.proofs.Vacuumed.{vacuums_follow}
use Rattle.ct_law_generation.proofs.Assembled.{Starts_at}
use Rattle.ct_law_generation.proofs.Kept.{event_kept}
use Rattle.ct_law_generation.proofs.Keeping.{vacuums_tell}
use Rattle.ct_law_generation.proofs.Removed.{starts_silent, happens_remove}
use Rattle.ct_law_plain.proofs.Plainly.{IsOfRecord, AllOfRecords, SamePlain, at_record_plain}
use Rattle.ct_law_plain.proofs.Events.{vacuums_plain}
use Rattle.ct_law_plain.proofs.Locked.{waits_in, locked_in, Locked, CommitLocked}
use Rattle.ct_law_plain.proofs.Whole.{happens_locked}
use Rattle.ct_law_run.proofs.Ages.{era_of}
use Rattle.ct_law_run.proofs.Lives.{WasSent, MailSays, Lives}
use Rattle.ct_law_run.proofs.Faces.{Turned}
use Rattle.ct_law_run.proofs.Wordless.{nothing_turned}
use Rattle.ct_law_run.proofs.LeadTurning.{was_said}
use Rattle.ct_law_run.proofs.Again.{Says_more, says_none}
use Rattle.ct_law_run.proofs.Present.{Is_present, present_says, era_here, shown_here, known_all}
use Rattle.ct_law_run.proofs.Serving.{Is_own, Serves, served_turned}

-- ---- what holds before

commit_there : (x : Option Committing) → is_some x ≡ true → (k : Committing) × (x ≡ Some k)
commit_there None e = absurd (cc)
commit_there (Some k) e = (k, refl)

-- a commit that waits does so under its lock
pub locked_here : (c : Config) (rules : Rules) (w : Cluster) (r : Lines) (h : Lives c rules w r) (n : ℕ) → nat_lt n c.nodes ≡ true → CommitLocked c (node_at n w)
unfolding Locked waits_in locked_in db_at state_at
locked_here c rules w r h n there db waits = (let k = commit_there (db_at db (node_at n w)).commit waits in record { kind = (h.nodes n there).persist db k.0 k.1; serving = (h.nodes n there).serving db k.0 k.1; lock = (h.nodes n there).commits db k.0 k.1 })

pub present_here : (c : Config) (rules : Rules) (w : Cluster) (r : Lines) (h : Lives c rules w r) (n : ℕ) → nat_lt n c.nodes ≡ true → is_present (node_at n w).phase ≡ true → Is_present c rules h.who w r h.ages n (node_at n w)
present_here c rules w r h n there present = present_says c rules h.who w r h.ages n (node_at n w) (node_at n w).phase present (h.nodes n there).phase

-- ---- what comes of an event

-- what a rule of records sends is of records of the generation, where nothing was sent before
plain_own : (g n : ℕ) (xs : List Out) → AllOfRecords g n xs → AllByRecursion (λ s. Is_own g n s.frame) (frames_of xs)
unfolding IsOfRecord frames_of
plain_own g n [] h = tt
plain_own g n (out.Send f ∷ xs) h = (record { now = h.0.0; sender = h.0.1; of = h.0.2 }, plain_own g n xs h.1)
plain_own g n (out.Answer call a ∷ xs) h = plain_own g n xs h.1
plain_own g n (out.Note x ∷ xs) h = plain_own g n xs h.1

pub own_of : (g n : ℕ) (t u : Turn) → SamePlain n t u → frames_of t.outs ≡ [] → t.node.generation ≡ g → AllByRecursion (λ s. Is_own g n s.frame) (frames_of u.outs)
own_of g n t u same none now =
    subst (λ (xs : List Out). AllByRecursion (λ s. Is_own g n s.frame) (frames_of xs)) (sym same.outs.1)
    (subst (λ (ss : List Sent). AllByRecursion (λ s. Is_own g n s.frame) ss) (sym (frames_more t.outs same.outs.0 ∙ ap (λ (ss : List Sent). ss ++ frames_of same.outs.0) none))
    (plain_own g n same.outs.0 (subst (λ (k : ℕ). AllOfRecords k n same.outs.0) now same.outs.2)))

module _ (c : Config) (rules : Rules) (w : Cluster) (r : Lines) (h : Lives c rules w r) (n : ℕ) (pend : List PendingCall) (there : nat_lt n c.nodes ≡ true) (present : is_present (node_at n w).phase ≡ true) where
  abbrev x : Node
  x = node_at n w

  abbrev g : ℕ
  g = r.line n

  abbrev t : Turn
  t = begins x

  abbrev pub is : Is_present c rules h.who w r h.ages n x
  is = present_here c rules w r h n there present

  abbrev pub ws : ℕ → List ℕ → World
  ws = h.ages.worlds g

  pub member : is_among n (r.members g) ≡ true
  member = ((h.nodes n there).named is.lined).2

  pub shown : IsShown g n w ws
  shown = shown_here c rules w r h n there is.lined is.shows

  -- all calls that wait are found
  pub finds : (db : ℕ) (key : List ℕ) → Finds db key n (pending w) (waiting_call (state_at db key x).wish)
  finds db key = finds_waiting h.who w.calls n db key w (known_all c rules w r h)

  pub starts : IsConfig c → Starts_at c (era_of r h.ages g) rules r n
  starts config = record { era_is = era_here c rules w r h n there is.lined; member = member; line = refl; small = all_small c config }

  pub asks : (db : ℕ) (key : List ℕ) → Asks (scene c (era_of r h.ages g) rules db key) (ws db key)
  asks db key = (era_here c rules w r h n there is.lined).asks rules db key

  -- the turn of an event, up to what it says more of rounds and commits
  pub event_turned : (e : Event) (u : Turn) → Serves c rules w r h n pend u → Says_more c w r h.ages n u (happens c rules n t e) → Turned c rules h.who w r h.ages n pend (happens c rules n t e)
  event_turned e u serves more = served_turned c rules w r h n pend u (happens c rules n t e) there present is serves more
      (λ d k. happens_remove c rules n t e d k (h.nodes n there).known.order (starts_silent d k t refl)) (happens_locked c rules n t e (locked_here c rules w r h n there))

  -- that says nothing more
  pub plain_turned : (e : Event) → Goes_on c (era_of r h.ages g) rules h.who w.calls n pend ws t (happens c rules n t e) → AllByRecursion (Is_fit c g r) (labels_of n pend (happens c rules n t e).outs) → SamePlain n t (happens c rules n t e) →
      Turned c rules h.who w r h.ages n pend (happens c rules n t e)
  unfolding frames_of
  plain_turned e goes fits same = event_turned e (happens c rules n t e) (record {
    goes = goes;
    fits = fits;
    pbase = same.pbase;
    phase = λ e. inl (sym same.phase ∙ e);
    lead = same.lead;
    own = own_of g n t (happens c rules n t e) same refl (of_era c (era_of r h.ages g) rules h.who w.calls n x is.stays);
  }) (says_none c w r h.ages n (happens c rules n t e))

-- ---- a message of a record

was_at : (ss : List Sent) (f : Frame) → In f (map (λ (s : Sent). s.frame) ss) → (k : ℕ) × (s : Sent) × (slice_get ss k ≡ Some s) × (s.frame ≡ f)
was_at [] f i = absurd i
was_at (s ∷ ss) f (inl e) = (0, s, refl, e)
was_at (s ∷ ss) f (inr i) = (let k = was_at ss f i in (suc k.0, k.1, k.2, k.3))

sent_turned : (c : Config) (rules : Rules) (w : Cluster) (r : Lines) (h : Lives c rules w r) (k : ℕ) (s : Sent) (db : ℕ) (key : List ℕ) → IsConfig c → nat_lt s.frame.receiver c.nodes ≡ true → is_present (node_at s.frame.receiver w).phase ≡ true → slice_get w.sent k ≡ Some s → WasSent w s.frame → record_in s.frame.msg ≡ Some (db, key) →
    (happens c rules s.frame.receiver (begins (node_at s.frame.receiver w)) (event.Arrive s.frame)).spent ≡ false →
    Turned c rules h.who w r h.ages s.frame.receiver (pending w) (happens c rules s.frame.receiver (begins (node_at s.frame.receiver w)) (event.Arrive s.frame))
unfolding happens IsPlain labels_of
sent_turned c rules w r h k s db key config there present at sent of spent = ⊎_elim
    (λ (ok : (is_current s.frame (node_at s.frame.receiver w) && has_records (kind_at c db)) ≡ true). (
    let n = s.frame.receiver in
    let x = node_at n w in
    let t = begins x in
    let era = era_of r h.ages (r.line n) in
    let here = present_here c rules w r h n there present in
    let worlds = h.ages.worlds (r.line n) in
    let turn = arrives_at c rules n s.frame t db key of ok in
    let parts = and_parts (is_current s.frame x) (has_records (kind_at c db)) ok in
    let now : s.frame.generation ≡ r.line n = current_here c era rules h.who w.calls n s.frame x here.stays parts.0 in
    let plain : IsPlain (r.line n) s.frame = ((omega arith), λ q e _. (was_said (MailSays c r h.ages) w.sent s.frame h.mail sent).sound q e) in
    let begin = starts c rules w r h n (pending w) there present config in
    let all = known_all c rules w r h in
    let show = shown c rules w r h n (pending w) there present in
    let ask = asks c rules w r h n (pending w) there present db key in
    let whole = sym (ap (λ (u : Turn). u.spent) turn) ∙ spent in
    let comes = delivery_comes c era rules h.who w k s db key worlds show begin.small here.stays all at of plain now parts.1 ask whole in
    plain_turned c rules w r h n (pending w) there present (event.Arrive s.frame)
    (delivers c era rules h.who w k s db key worlds show begin.era_is begin.small begin.member here.stays all at of plain ok ask spent)
    (subst (λ (u : Turn). AllByRecursion (Is_fit c (r.line n) r) (labels_of n (pending w) u.outs)) (sym turn)
    (event_kept c era rules r h.who w.calls n db key (move.Arrive s.frame.sender s.frame.msg) t (pending w) (waiting_call (state_at db key x).wish) (worlds db key) comes.0 begin parts.1 here.stays comes.1 tt))
    (subst (λ (u : Turn). SamePlain n t u) (sym turn) (at_record_plain c n db key (λ at o. arrive at rules s.frame.sender s.frame.msg o) t (λ at o k. arrive_told at rules s.frame.sender s.frame.msg o k)))))
    (λ (out : (is_current s.frame (node_at s.frame.receiver w) && has_records (kind_at c db)) ≡ false).
    subst (λ (u : Turn). Turned c rules h.who w r h.ages s.frame.receiver (pending w) u) (sym (arrives_not c rules s.frame.receiver s.frame (begins (node_at s.frame.receiver w)) db key of out))
    (nothing_turned c rules w r h s.frame.receiver (pending w) there))
    (cases_Bool (is_current s.frame (node_at s.frame.receiver w) && has_records (kind_at c db)))

-- every message of a record that was sent to the node
pub record_turned : (c : Config) (rules : Rules) (w : Cluster) (r : Lines) (h : Lives c rules w r) (n : ℕ) (f : Frame) (k : ℕ × List ℕ) → IsConfig c → nat_lt n c.nodes ≡ true → is_present (node_at n w).phase ≡ true → f.receiver ≡ n → WasSent w f → record_in f.msg ≡ Some k →
    (happens c rules n (begins (node_at n w)) (event.Arrive f)).spent ≡ false → Turned c rules h.who w r h.ages n (pending w) (happens c rules n (begins (node_at n w)) (event.Arrive f))
record_turned c rules w r h n f k config there present own sent of spent =
    let q = was_at w.sent f sent in
    subst (λ (f : Frame). f.receiver ≡ n → WasSent w f → record_in f.msg ≡ Some k → (happens c rules n (begins (node_at n w)) (event.Arrive f)).spent ≡ false → Turned c rules h.who w r h.ages n (pending w) (happens c rules n (begins (node_at n w)) (event.Arrive f))) q.3
    (λ own sent of spent. subst (λ (m : ℕ). nat_lt m c.nodes ≡ true → is_present (node_at m w).phase ≡ true → (happens c rules m (begins (node_at m w)) (event.Arrive q.1.frame)).spent ≡ false →
    Turned c rules h.who w r h.ages m (pending w) (happens c rules m (begins (node_at m w)) (event.Arrive q.1.frame))) own
    (λ there present spent. sent_turned c rules w r h q.0 q.1 k.0 k.1 config there present q.2 sent of spent) there present spent)
    own sent of spent

-- ---- a vacuum

pub vacuum_turned : (c : Config) (rules : Rules) (w : Cluster) (r : Lines) (h : Lives c rules w r) (n db : ℕ) → IsConfig c → nat_lt n c.nodes ≡ true → is_present (node_at n w).phase ≡ true → has_records (kind_at c db) ≡ true →
    (happens c rules n (begins (node_at n w)) (event.Vacuum db)).spent ≡ false → Turned c rules h.who w r h.ages n (pending w) (happens c rules n (begins (node_at n w)) (event.Vacuum db))
unfolding happens
vacuum_turned c rules w r h n db config there present kind spent =
    let era = era_of r h.ages (r.line n) in
    let here = present_here c rules w r h n there present in
    let worlds = h.ages.worlds (r.line n) in
    let begin = starts c rules w r h n (pending w) there present config in
    let show = shown c rules w r h n (pending w) there present in
    let ask = asks c rules w r h n (pending w) there present db in
    let find = finds c rules w r h n (pending w) there present in
    plain_turned c rules w r h n (pending w) there present (event.Vacuum db)
    (vacuums_follow c era rules h.who w n db worlds show begin.era_is begin.small begin.member here.stays find ask spent)
    (vacuums_tell c era rules r h.who w n db worlds show begin here.stays find ask kind spent)
    (vacuums_plain c n db (begins (node_at n w)))
