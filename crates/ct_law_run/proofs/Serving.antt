-- The parts of a turn hold where the node goes on by rules of records, and says more of rounds and commits: the registers accept
-- what it tells, its line lives on in the worlds that follow, and no other line sees it.
use Rattle.std.proofs.Common.{◌≡◌, ◌≢◌, ℕ, ◌<◌, ◌^◌, Bool, true, false, cond, List, [], ◌∷◌, ◌++◌, Option, Some, None, append-nil, inl, inr, ⊎_elim, refl, sym, ap, ◌∙◌, subst, arith}
use Rattle.std.specs.Prelude.{◌⊎◌, nat_eq, nat_lt, ◌&&◌}
use Rattle.std.specs.List.{AllByRecursion}
use Rattle.std.proofs.lemmas.Bool.{cases_eq, ne_eqb, eq-eqb, cases_Bool}
use Rattle.ct_values.specs.declared.config.Config.{Config}
use Rattle.ct_frame.specs.declared.event.Out.{Out}
use Rattle.ct_frame.specs.declared.frame.Frame.{Frame}
use Rattle.ct_frame.specs.declared.frame.Msg.{Msg}
use Rattle.ct_frame.specs.declared.frame.Msg.TheVariants as msg
use Rattle.ct_call.specs.Rules.{Rules}
use Rattle.ct_lcp2.proofs.Choices.{all_append}
use Rattle.ct_rules.specs.State.{rsn_of}
use Rattle.ct_rules_node.specs.Node.{Node, Serving, is_present, master_of, state_at}
use Rattle.ct_rules_node.specs.Turn.{Turn, begins}
use Rattle.ct_rules_node.specs.Admission.{record_in}
use Rattle.ct_rules_cluster.specs.Cluster.{Cluster, Sent, node_at}
use Rattle.ct_rules_cluster.specs.Labels.{Label}
use Rattle.ct_rules_cluster.specs.Steps.{frames_of, with_node, put}
use Rattle.ct_rules_cluster.specs.declared.step.PendingCall.{PendingCall}
use Rattle.ct_register.specs.Register.{Register}
use Rattle.ct_register.specs.Lines.{Lines}
use Rattle.ct_register.specs.Legal.{AcceptsLabels}
use Rattle.ct_register.specs.Marks.{MarksStep}
use Rattle.ct_register.proofs.Places.{at_same, at_other}
use Rattle.ct_promise.specs.Generation.{speaks_of_records, record_labels}
use Rattle.ct_promise.specs.Marked.{is_removed}
use Rattle.ct_promise.proofs.Follows.{filter_more}
use Rattle.ct_law_record.specs.Labels.{AcceptsAll}
use Rattle.ct_law_record.specs.Labels as law
use Rattle.ct_law_record.specs.World.{Scene, Mail, World, Event, last, trace}
use Rattle.ct_law_record.specs.Marked as law_marked
use Rattle.ct_law_record.proofs.Invariant.{Ghost}
use Rattle.ct_law_record.proofs.Worlds.{WorldInv}
use Rattle.ct_law_record.proofs.MarkedRun.{Through, marks_of, unmarked, run_marks}
use Rattle.ct_law_generation.specs.Shown.{scene, view, mails, mail_of, is_it, told_by_all, heard, labels_of, amid, IsOfLine}
use Rattle.ct_law_generation.proofs.Hearing.{frames_more, mails_more, labels_more, accepts_heard}
use Rattle.ct_law_generation.proofs.Weave.{Woven, weave}
use Rattle.ct_law_generation.proofs.Plain.{AllPlain, of_plain}
use Rattle.ct_law_generation.proofs.Staying.{NodeStays, phase_of}
use Rattle.ct_law_generation.proofs.Lining.{Is_fit, fit_own, fit_told}
use Rattle.ct_law_generation.proofs.Following.{Goes_on}
use Rattle.ct_law_generation.proofs.Delivering.{IsShown, shown_begins}
use Rattle.ct_law_generation.proofs.Removing.{removed_as_told, removed_in_records, removed_heard, told_in_line}
use Rattle.ct_law_generation.proofs.Removed.{MayRemove, told_removal}
use Rattle.ct_law_plain.proofs.Locked.{CommitLocked}
use Rattle.ct_law_generation.proofs.Going.{marks_step}
use Rattle.ct_law_run.proofs.Ages.{Ages, era_of, LineLives}
use Rattle.ct_law_run.proofs.Lives.{AllHaveInstalled, ReplySays, RoundSays, MailSays, LeadSays, NodeLives, Lives}
use Rattle.ct_law_run.proofs.Later.{Later, Rest, keeps_view}
use Rattle.ct_law_run.proofs.Framing.{mail_later}
use Rattle.ct_law_run.proofs.Moving.{Moved, ages_moved, moved_live}
use Rattle.ct_law_run.proofs.Apart.{none_fresh, each_then}
use Rattle.ct_law_run.proofs.Faces.{Turned}
use Rattle.ct_law_record.proofs.MarkLists.{marks_stay}
use Rattle.ct_law_run.proofs.Stood.{lead_later}
use Rattle.ct_law_run.proofs.LeadTurning.{sent_still}
use Rattle.ct_law_run.proofs.Rounding.{Says_round, sends, sends_untold, sends_mails, sends_all, foreign}
use Rattle.ct_law_run.proofs.Again.{Says_more}
use Rattle.ct_law_run.proofs.Present.{Is_present, serving_says, reply_still, present_lives, line_here, shown_here}

-- ---- what is asked

-- a message of a record in generation g, which node n sends
pub record Is_own (g n : ℕ) (f : Frame) : Type 0 where
  pub now : f.generation ≡ g
  pub sender : f.sender ≡ n
  pub of : (k : ℕ × List ℕ) × (record_in f.msg ≡ Some k)

-- The node goes on from where the turn began, and all that it tells is of its line. It leads what it led, and sends messages of
-- records of its generation alone.
pub record Serves (c : Config) (rules : Rules) (w : Cluster) (r : Lines) (h : Lives c rules w r) (n : ℕ) (pend : List PendingCall) (u : Turn) : Type 0 where
  pub goes : Goes_on c (era_of r h.ages (r.line n)) rules h.who w.calls n pend (h.ages.worlds (r.line n)) (begins (node_at n w)) u
  pub fits : AllByRecursion (Is_fit c (r.line n) r) (labels_of n pend u.outs)
  pub pbase : u.node.pbase ≡ (node_at n w).pbase
  -- it serves only where it did, or where all members have installed its line
  pub phase : u.node.phase ≡ Serving → ((node_at n w).phase ≡ Serving) ⊎ AllHaveInstalled r (r.line n) (r.members (r.line n))
  pub lead : u.node.lead ≡ (node_at n w).lead
  pub own : AllByRecursion (λ s. Is_own (r.line n) n s.frame) (frames_of u.outs)

-- ---- small words

shut : (b d : Bool) (ms : List Mail) → b ≡ false → cond (b && d) ms [] ≡ []
shut true d ms e = absurd (cc)
shut false d ms e = refl

other_mail : (g m db : ℕ) (key : List ℕ) (f : Frame) (k : ℕ × List ℕ) → f.generation ≡ g → m ≢ g → record_in f.msg ≡ Some k → mail_of m db key f (record_in f.msg) ≡ []
unfolding mail_of
other_mail g m db key f k now ne of = ap (λ (o : Option (ℕ × List ℕ)). mail_of m db key f o) of
    ∙ shut (nat_eq f.generation m) (is_it db key k.0 k.1) (record { sender = f.sender; receiver = f.receiver; msg = f.msg } ∷ []) (ne_eqb f.generation m (λ e. ne (sym e ∙ now)))

-- what is of generation g is no mail of another
others_unmailed : (g m n db : ℕ) (key : List ℕ) (ss : List Sent) → m ≢ g → AllByRecursion (λ s. Is_own g n s.frame) ss → mails m db key ss ≡ []
unfolding mails
others_unmailed g m n db key [] ne h = refl
others_unmailed g m n db key (s ∷ ss) ne h = (λ i. other_mail g m db key s.frame h.0.of.0 h.0.now ne h.0.of.1 i ++ others_unmailed g m n db key ss ne h.1 i)

-- a message of a record says nothing of rounds
record_round : (c : Config) (r : Lines) (a : Ages) (g n : ℕ) (m : Msg) (k : ℕ × List ℕ) → record_in m ≡ Some k → RoundSays c r a g n m
unfolding record_in RoundSays
record_round c r a g n (msg.Freeze members) k e = absurd (cc)
record_round c r a g n (msg.Push members table ptables assigned) k e = absurd (cc)
record_round c r a g n msg.PushAck k e = absurd (cc)
record_round c r a g n msg.Thaw k e = absurd (cc)
record_round c r a g n m k e = tt

record_reply : (r : Lines) (a : Ages) (n : ℕ) (x : Node) (f : Frame) (m : Msg) (k : ℕ × List ℕ) → record_in m ≡ Some k → ReplySays r a n x f m
unfolding record_in ReplySays
record_reply r a n x f (msg.PullReply vbase pbase table ptables addresses) k e = absurd (cc)
record_reply r a n x f m k e = tt

own_says : (c : Config) (r : Lines) (a : Ages) (g n : ℕ) (ss : List Sent) → AllByRecursion (λ s. Is_own g n s.frame) ss → AllPlain g ss → AllByRecursion (λ s. MailSays c r a s.frame) ss
own_says c r a g n [] h p = tt
own_says c r a g n (s ∷ ss) h p = (
  record { round = record_round c r a s.frame.generation s.frame.sender s.frame.msg h.0.of.0 h.0.of.1; sound = λ k e. of_plain g s.frame k p.0 e h.0.now },
  own_says c r a g n ss h.1 p.1,
)

own_replies : (r : Lines) (a : Ages) (g n k : ℕ) (x : Node) (ss : List Sent) → AllByRecursion (λ s. Is_own g n s.frame) ss → AllByRecursion (λ s. ReplySays r a k x s.frame s.frame.msg) ss
own_replies r a g n k x [] h = tt
own_replies r a g n k x (s ∷ ss) h = (record_reply r a k x s.frame s.frame.msg h.0.of.0 h.0.of.1, own_replies r a g n k x ss h.1)

-- ---- the turn

module _ (c : Config) (rules : Rules) (w : Cluster) (r : Lines) (h : Lives c rules w r) (n : ℕ) (pend : List PendingCall) (u v : Turn) (there : nat_lt n c.nodes ≡ true) (present : is_present (node_at n w).phase ≡ true)
    (is : Is_present c rules h.who w r h.ages n (node_at n w)) (t : Serves c rules w r h n pend u) (more : Says_more c w r h.ages n u v) (removes : (d : ℕ) (k : List ℕ) → MayRemove n d k (begins (node_at n w)) v) (locked : CommitLocked c v.node) where
  abbrev x : Node
  x = node_at n w

  abbrev g : ℕ
  g = r.line n

  abbrev a : Ages
  a = h.ages

  abbrev ws : ℕ → List ℕ → World
  ws = a.worlds g

  abbrev z : Cluster
  z = (put n v [] w).cluster

  abbrev s : ℕ → List ℕ → Scene
  s db key = scene c (era_of r a g) rules db key

  line : LineLives c rules w r a g
  line = line_here c rules w r h n there is.lined

  shown : IsShown g n w ws
  shown = shown_here c rules w r h n there is.lined is.shows

  -- ---- what is told

  abbrev told : List Label
  told = record_labels c (labels_of n pend u.outs)

  told_is : record_labels c (labels_of n pend v.outs) ≡ told
  told_is = ap (λ (o : List Out). record_labels c (labels_of n pend o)) more.outs ∙ ap (λ (l : List Label). record_labels c l) (labels_more n pend u.outs (sends more.frames))
      ∙ filter_more (speaks_of_records c) (labels_of n pend u.outs) (labels_of n pend (sends more.frames)) ∙ ap (λ (l : List Label). told ++ l) (sends_untold c n pend more.frames) ∙ append-nil told

  of_line : AllByRecursion (IsOfLine c g r) told
  of_line = fit_own c g r (labels_of n pend u.outs) t.fits

  -- ---- the worlds of the line go on

  abbrev es : ℕ → List ℕ → List Event
  es db key = (t.goes.1 db key).0

  abbrev next : ℕ → List ℕ → World
  next db key = amid g db key n (ws db key) u

  began : (db : ℕ) (key : List ℕ) → ws db key ≡ amid g db key n (ws db key) (begins x)
  began db key = shown_begins g db key n w ws shown

  same_joined : (db : ℕ) (key : List ℕ) (m : ℕ) → (ws db key).joined m ≡ (next db key).joined m
  same_joined db key m = ap (λ (q : World). q.joined m) (began db key)

  arrives : (db : ℕ) (key : List ℕ) → last (s db key) (ws db key) (es db key) ≡ next db key
  arrives db key = ap (λ (q : World). last (s db key) q (es db key)) (began db key) ∙ (t.goes.1 db key).1.world

  heard_told : (db : ℕ) (key : List ℕ) → heard (trace (s db key) (ws db key) (es db key)) ≡ told_by_all db key told
  unfolding labels_of told_by_all
  heard_told db key = ap (λ (q : World). heard (trace (s db key) q (es db key))) (began db key) ∙ sym (t.goes.1 db key).1.labels ∙ sym (fit_told c g r db key (labels_of n pend u.outs) t.fits)

  went : (db : ℕ) (key : List ℕ) → (q : Register) × (j : Ghost) × AcceptsAll rules (r.records g db key) (trace (s db key) (ws db key) (es db key)) q × WorldInv (s db key) (last (s db key) (ws db key) (es db key)) q j × Through (law_marked.is_removed (trace (s db key) (ws db key) (es db key))) (marks_of (a.ghosts g db key)) (marks_of j)
  went db key = run_marks (s db key) (es db key) (ws db key) (r.records g db key) (a.ghosts g db key) line.real (line.world db key)

  in_order : (db : ℕ) (key : List ℕ) → WorldInv (s db key) (next db key) (went db key).0 (went db key).1
  in_order db key = subst (λ (q : World). WorldInv (s db key) q (went db key).0 (went db key).1) (arrives db key) (went db key).3

  woven : Woven g c rules r told (λ db key. (went db key).0)
  woven = weave g c rules told r (λ db key. (went db key).0) (let ne = is.lined in omega arith) of_line
      (λ db key. subst (λ (l : List law.Label). AcceptsAll rules (r.records g db key) l (went db key).0) (heard_told db key) (accepts_heard rules (trace (s db key) (ws db key) (es db key)) (r.records g db key) (went db key).0 (went db key).2))

  abbrev records : ℕ → ℕ → List ℕ → Register
  records = woven.0.records

  abbrev after : Lines
  after = record r { records = records }

  abbrev ghosts : ℕ → List ℕ → Ghost
  ghosts db key = (went db key).1

  -- ---- what is sent

  more_mails : (m db : ℕ) (key : List ℕ) → mails m db key (frames_of v.outs) ≡ mails m db key (frames_of u.outs)
  more_mails m db key = ap (λ (o : List Out). mails m db key (frames_of o)) more.outs ∙ ap (λ (l : List Sent). mails m db key l) (frames_more u.outs (sends more.frames)) ∙ mails_more m db key (frames_of u.outs) (frames_of (sends more.frames))
      ∙ ap (λ (l : List Mail). mails m db key (frames_of u.outs) ++ l) (sends_mails c w r a n m db key more.frames more.all) ∙ append-nil (mails m db key (frames_of u.outs))

  sent_is : z.sent ≡ w.sent ++ frames_of v.outs
  unfolding put with_node
  sent_is = refl

  calls_is : z.calls ≡ w.calls
  unfolding put with_node
  calls_is = refl

  all_mails : (m db : ℕ) (key : List ℕ) → mails m db key z.sent ≡ mails m db key w.sent ++ mails m db key (frames_of u.outs)
  all_mails m db key = ap (λ (l : List Sent). mails m db key l) sent_is ∙ mails_more m db key w.sent (frames_of v.outs) ∙ ap (λ (l : List Mail). mails m db key w.sent ++ l) (more_mails m db key)

  all_sent : (P : Sent → Type 0) → AllByRecursion P (frames_of u.outs) → AllByRecursion P (frames_of (sends more.frames)) → AllByRecursion P (frames_of v.outs)
  all_sent P p q = subst (λ (o : List Out). AllByRecursion P (frames_of o)) (sym more.outs) (subst (λ (l : List Sent). AllByRecursion P l) (sym (frames_more u.outs (sends more.frames))) (all_append P (frames_of u.outs) (frames_of (sends more.frames)) p q))

  -- ---- the lines live on

  low : (db : ℕ) (key : List ℕ) (m : ℕ) → (next db key).joined m ≡ true → rsn_of ((next db key).nodes m).state.copy < 2 ^ 62
  low db key m joined = ⊎_elim
      (λ (k : m ≡ n). subst (λ (b : Bool). rsn_of (cond b (view db key u.node) ((ws db key).nodes m)).state.copy < 2 ^ 62) (sym (eq-eqb m n k)) (t.goes.0.formed db key).form.numbers.copy_limit)
      (λ (ne : m ≢ n). subst (λ (b : Bool). rsn_of (cond b (view db key u.node) ((ws db key).nodes m)).state.copy < 2 ^ 62) (sym (ne_eqb m n ne)) (line.low db key m (same_joined db key m ∙ joined)))
      (cases_eq m n)

  moved : Moved c rules w z r a g records next ghosts
  moved = record {
    born = ((h.nodes n there).named is.lined).0;
    world = λ db key. subst (λ (q : Register). WorldInv (s db key) (next db key) q (ghosts db key)) (sym (woven.2 db key)) (in_order db key);
    mail = λ db key. ap (λ (l : List Mail). l ++ mails g db key (frames_of u.outs)) (line.mail db key) ∙ sym (all_mails g db key);
    joined = λ db key m. sym (same_joined db key m);
    low = low;
    same_records = woven.4;
    same_mails = λ m db key ne. all_mails m db key ∙ ap (λ (l : List Mail). mails m db key w.sent ++ l) (others_unmailed g m n db key (frames_of u.outs) ne t.own) ∙ append-nil (mails m db key w.sent);
  }

  abbrev b : Ages
  b = ages_moved c rules w z r a g records next ghosts h.lines moved

  later : Later r a after b
  later = record { last = omega arith; leader = λ k m e. e; named = λ k m e. refl; born = λ k e. e; members = λ k e. refl; tables = λ k e. refl; installed = λ k m e. e; had = λ k m l lt e. e; phad = λ k m l lt e. e }

  other_views : (k m db : ℕ) (key : List ℕ) → m ≢ g → (b.worlds m db key).nodes k ≡ (a.worlds m db key).nodes k
  other_views k m db key ne = ap (λ (q : ℕ → List ℕ → World). (q db key).nodes k) (at_other g m next a.worlds ne)

  views : (k : ℕ) → k ≢ n → (m db : ℕ) (key : List ℕ) → (b.worlds m db key).nodes k ≡ (a.worlds m db key).nodes k
  views k ne m db key = ⊎_elim
      (λ (e : m ≡ g). ap (λ (q : ℕ → List ℕ → World). (q db key).nodes k) (at_same g m next a.worlds e) ∙ ap (λ (p : Bool). cond p (view db key u.node) ((ws db key).nodes k)) (ne_eqb k n ne) ∙ ap (λ (j : ℕ). (a.worlds j db key).nodes k) (sym e))
      (λ (no : m ≢ g). other_views k m db key no)
      (cases_eq m g)

  own_views : (db : ℕ) (key : List ℕ) → (b.worlds g db key).nodes n ≡ view db key v.node
  own_views db key = ap (λ (q : ℕ → List ℕ → World). (q db key).nodes n) (at_same g g next a.worlds refl) ∙ ap (λ (p : Bool). cond p (view db key u.node) ((ws db key).nodes n)) (eq-eqb n n refl) ∙ ap (λ (y : Node). view db key y) (sym more.node)

  -- ---- the node lives on

  stays : NodeStays c (era_of r a g) rules h.who z.calls n v.node
  stays = subst (λ (j : ℕ). NodeStays c (era_of r a g) rules h.who j n v.node) (sym calls_is) (subst (λ (y : Node). NodeStays c (era_of r a g) rules h.who w.calls n y) (sym more.node) t.goes.0)

  leads : LeadSays c z after b n v.node.lead
  leads = subst (λ (l : _). LeadSays c z after b n l) (sym (ap (λ (y : Node). y.lead) more.node ∙ t.lead))
      (lead_later c w z r a after b n x.lead later (λ k e. e) (λ f was. sent_still w z (frames_of v.outs) f sent_is was) (h.nodes n there).lead)

  still : (f : Frame) → ReplySays r a n x f f.msg → ReplySays after b n v.node f f.msg
  still f k = reply_still r a b records n x v.node f f.msg present (phase_of g v.node stays.present) (stays.promise ∙ sym is.stays.promise) (λ m db key ne. other_views n m db key ne) k

  replies : AllByRecursion (λ q. ReplySays after b n v.node q.frame q.frame.msg) z.sent
  replies = subst (λ (l : List Sent). AllByRecursion (λ q. ReplySays after b n v.node q.frame q.frame.msg) l) (sym sent_is)
      (all_append (λ q. ReplySays after b n v.node q.frame q.frame.msg) w.sent (frames_of v.outs)
      (each_then (λ q. ReplySays r a n x q.frame q.frame.msg) (λ q. ReplySays after b n v.node q.frame q.frame.msg) (λ q k. still q.frame k) w.sent (h.nodes n there).replies)
      (all_sent (λ q. ReplySays after b n v.node q.frame q.frame.msg) (own_replies after b g n n v.node (frames_of u.outs) t.own)
      (sends_all (λ f. ReplySays after b n v.node f f.msg) more.frames (each_then (Says_round c w r a n) (λ f. ReplySays after b n v.node f f.msg) (λ f k. still f k.reply) more.frames more.all))))

  thawed : v.node.phase ≡ Serving → r.line n ≢ 1 → AllHaveInstalled r (r.line n) (r.members (r.line n))
  thawed e ne = ⊎_elim
      (λ (was : x.phase ≡ Serving). serving_says c rules h.who w r a n x x.phase was (h.nodes n there).phase ne)
      (λ (all : AllHaveInstalled r (r.line n) (r.members (r.line n))). all)
      (t.phase (sym (ap (λ (y : Node). y.phase) more.node) ∙ e))

  mine : NodeLives c rules h.who z after b n v.node
  mine = present_lives c rules h.who w z r a b records n x v.node (h.nodes n there) is stays (ap (λ (y : Node). y.pbase) more.node ∙ t.pbase) thawed own_views locked leads replies

  -- ---- marks

  in_line : (db : ℕ) (key : List ℕ) → is_removed r g db key (labels_of n pend v.outs) ≡ law_marked.is_removed (trace (s db key) (ws db key) (es db key))
  in_line db key = sym (removed_in_records c r g db key (labels_of n pend v.outs)) ∙ ap (λ (l : List Label). is_removed r g db key l) told_is ∙ removed_as_told c r g db key told of_line
      ∙ sym (ap law_marked.is_removed (heard_told db key)) ∙ removed_heard (trace (s db key) (ws db key) (es db key))

  emptied : (db : ℕ) (key : List ℕ) → is_removed r g db key (labels_of n pend v.outs) ≡ true → ((marks_of (ghosts db key)).marks ≡ []) × ((marks_of (ghosts db key)).site ≡ None)
  emptied db key e =
      let k = told_removal r g db key n pend (begins x) v (removes db key) e in
      let home : n ≡ master_of (r.members g) key = k.0 ∙ ap (λ (ms : List ℕ). master_of ms key) is.stays.knows in
      unmarked (s db key) (next db key) (went db key).0 (ghosts db key) (in_order db key)
      (subst (λ (m : ℕ). ((next db key).nodes m).state.entry ≡ None) home
      (ap (λ (p : Bool). (cond p (view db key u.node) ((ws db key).nodes n)).state.entry) (eq-eqb n n refl) ∙ ap (λ (y : Node). (state_at db key y).entry) (sym more.node) ∙ k.1))

  marks_here : (db : ℕ) (key : List ℕ) → MarksStep (is_removed r g db key (labels_of n pend v.outs)) (marks_of (a.ghosts g db key)) (marks_of (b.ghosts g db key))
  marks_here db key = subst (λ (q : ℕ → List ℕ → Ghost). MarksStep (is_removed r g db key (labels_of n pend v.outs)) (marks_of (a.ghosts g db key)) (marks_of (q db key))) (sym (at_same g g ghosts a.ghosts refl))
      (subst (λ (p : Bool). MarksStep p (marks_of (a.ghosts g db key)) (marks_of (ghosts db key))) (sym (in_line db key))
      (marks_step (law_marked.is_removed (trace (s db key) (ws db key) (es db key))) (marks_of (a.ghosts g db key)) (marks_of (ghosts db key)) (went db key).4 (λ e. emptied db key (in_line db key ∙ e))))

  unremoved : (m db : ℕ) (key : List ℕ) → m ≢ g → is_removed r m db key (labels_of n pend v.outs) ≡ false
  unremoved m db key ne = ⊎_elim
      (λ (e : is_removed r m db key (labels_of n pend v.outs) ≡ true). absurd (ne (sym (told_in_line r m db key n pend v.outs e))))
      (λ (e : is_removed r m db key (labels_of n pend v.outs) ≡ false). e)
      (cases_Bool (is_removed r m db key (labels_of n pend v.outs)))

  marks : (m : ℕ) (db : ℕ) (key : List ℕ) → MarksStep (is_removed r m db key (labels_of n pend v.outs)) (marks_of (a.ghosts m db key)) (marks_of (b.ghosts m db key))
  marks m db key = ⊎_elim
      (λ (e : m ≡ g). subst (λ (j : ℕ). MarksStep (is_removed r j db key (labels_of n pend v.outs)) (marks_of (a.ghosts j db key)) (marks_of (b.ghosts j db key))) (sym e) (marks_here db key))
      (λ (ne : m ≢ g). subst (λ (p : Bool). MarksStep p (marks_of (a.ghosts m db key)) (marks_of (b.ghosts m db key))) (sym (unremoved m db key ne))
      (subst (λ (q : ℕ → List ℕ → Ghost). MarksStep false (marks_of (a.ghosts m db key)) (marks_of (q db key))) (sym (at_other g m ghosts a.ghosts ne)) (marks_stay (marks_of (a.ghosts m db key)))))
      (cases_eq m g)

  rest : Rest r a after b n v.node.phase
  rest m db key born why = keeps_view _ _ (other_views n m db key (apart why))
    where
      apart : (r.line n ≢ m) ⊎ (r.line n ≢ m) ⊎ ((is_present v.node.phase ≡ false) × (((a.worlds m db key).nodes n).state.locked ≡ None)) → m ≢ g
      apart (inl ne) e = ne (sym e)
      apart (inr (inl ne)) e = ne (sym e)
      apart (inr (inr p)) e = absurd (let k = phase_of g v.node stays.present in let f = p.0 in cc)

  -- ---- all of it

  pub served_turned : Turned c rules h.who w r a n pend v
  unfolding frames_of
  served_turned = record {
    lines = after;
    ages = b;
    accepts = subst (λ (l : List Label). AcceptsLabels c rules r l after) (sym told_is) (subst (λ (l : Lines). AcceptsLabels c rules r told l) woven.3 woven.1);
    later = later;
    away = λ k ne. record { line = refl; pline = refl; views = λ m db key born. views k ne m db key };
    rest = rest;
    last = refl;
    holder = refl;
    lives = moved_live c rules w z r a g records next ghosts h.lines moved;
    mine = mine;
    says = all_sent (λ q. MailSays c after b q.frame) (own_says c after b g n (frames_of u.outs) t.own (t.goes.2 tt))
        (sends_all (MailSays c after b) more.frames (each_then (Says_round c w r a n) (MailSays c after b) (λ f k. mail_later c r a after b f later (record { round = k.round; sound = λ j e. absurd (let o = k.none in cc) })) more.frames more.all));
    replies = λ k ne. all_sent (λ q. ReplySays after b k (node_at k w) q.frame q.frame.msg) (own_replies after b g n k (node_at k w) (frames_of u.outs) t.own)
        (sends_all (λ f. ReplySays after b k (node_at k w) f f.msg) more.frames (each_then (Says_round c w r a n) (λ f. ReplySays after b k (node_at k w) f f.msg) (λ f i. foreign after b n k (node_at k w) f f.msg i.sender ne) more.frames more.all));
    marks = λ m born db key. marks m db key;
    fresh = λ k ne lt. none_fresh c rules r after b k (node_at k w) (λ m. refl);
  }
