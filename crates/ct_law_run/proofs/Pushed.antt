-- A node that is frozen for a generation gets its Push: the registers accept that it installs, and it lives on in the new line.
use Rattle.std.proofs.Common.{◌≡◌, ◌≢◌, ℕ, ◌<◌, ◌≤◌, ◌^◌, Bool, true, false, ◌&&◌, ◌||◌, List, [], ◌∷◌, ◌++◌, append-nil, length, Option, Some, None, ⊎_elim, refl, sym, ap, ◌∙◌, subst, arith}
use Rattle.std.specs.Prelude.{nat_eq, nat_lt}
use Rattle.std.specs.List.{AllByRecursion}
use Rattle.std.proofs.lemmas.Bool.{cases_eq, cases_lt, eq-eqb, cases_Bool}
use Rattle.ct_values.specs.declared.address.Address.{Address}
use Rattle.ct_values.specs.declared.config.Config.{Config}
use Rattle.ct_frame.specs.declared.event.Event.TheVariants as event
use Rattle.ct_frame.specs.declared.event.Note.TheVariants as note
use Rattle.ct_frame.specs.declared.event.Out.{Out}
use Rattle.ct_frame.specs.declared.event.Out.TheVariants as out
use Rattle.ct_frame.specs.declared.frame.Assigned.{Assigned}
use Rattle.ct_frame.specs.declared.frame.Frame.{Frame}
use Rattle.ct_frame.specs.declared.frame.Msg.{Msg}
use Rattle.ct_frame.specs.declared.frame.Msg.TheVariants as msg
use Rattle.ct_frame.specs.declared.frame.PTable.{PTable}
use Rattle.ct_frame.specs.declared.frame.TableRow.{TableRow}
use Rattle.ct_call.specs.Rules.{Rules}
use Rattle.ct_lcp2.proofs.Choices.{all_append, all_weaken}
use Rattle.ct_rules.specs.declared.state.RecState.{RecState}
use Rattle.ct_rules.specs.declared.state.Wish.{Wish}
use Rattle.ct_rules_node.specs.Admission.{is_sound, record_in}
use Rattle.ct_law_rules_node.specs.NodeLaws.{NodeAscends, StaysInOrder}
use Rattle.ct_rules.specs.State.{rsn_of}
use Rattle.ct_rules_node.specs.Node.{Node, Frozen, Nothing, Database, Committing, is_among, is_present, is_present_in, is_frozen_in, db_at, state_at, untouched}
use Rattle.ct_rules_node.specs.Rounds.{installs, installed_node, installed_db, makes_rows, row_of, frozen_state}
use Rattle.ct_rules_node.specs.Steps.{happens}
use Rattle.ct_rules_node.specs.Turn.{Turn, begins, posts}
use Rattle.ct_law_rules_node.proofs.Growing.{happens_in_order}
use Rattle.ct_law_rules_node.proofs.Rounds.{installs_dbs, installs_frozen}
use Rattle.ct_rules_cluster.specs.Cluster.{Cluster, Sent, node_at, pending}
use Rattle.ct_rules_cluster.specs.Labels.{Label, Noted}
use Rattle.ct_rules_cluster.specs.Steps.{frames_of, put, with_node}
use Rattle.ct_rules_cluster.specs.Traces.{sent_label}
use Rattle.ct_register.specs.Lines.{Lines, joined}
use Rattle.ct_register.specs.Legal.{AcceptsInstalled, AcceptsLabels}
use Rattle.ct_register.specs.Marks.{MarksStep}
use Rattle.ct_register.specs.Words.{at}
use Rattle.ct_register.proofs.Places.{at_same, at_other, at_each}
use Rattle.ct_promise.specs.Born.{has_pushed}
use Rattle.ct_promise.specs.Generation.{record_labels, speaks_of_records, is_note_of_records}
use Rattle.ct_promise.specs.Marked.{is_removal, is_removed, removes}
use Rattle.ct_law_record.specs.World.{World, View}
use Rattle.ct_law_record.proofs.Invariant.{Ghost}
use Rattle.ct_law_record.proofs.Law
use Rattle.ct_law_record.proofs.MarkedRun.{marks_of}
use Rattle.ct_law_generation.specs.Shown.{scene, view, mails, mail_of, labels_of}
use Rattle.ct_law_generation.proofs.Hearing.{mails_more}
use Rattle.ct_law_wishes.proofs.Wishing.{Wishful}
use Rattle.ct_law_generation.proofs.Forming.{Is_formed}
use Rattle.ct_law_generation.proofs.Pending.{Known, KnownAt, CommitFits, NodeKnown, or_grows}
use Rattle.ct_law_generation.proofs.Staying.{NodeStays, Of_records}
use Rattle.ct_law_generation.proofs.Removing.{removed_in_records}
use Rattle.ct_law_run.proofs.Ages.{Ages, era_of}
use Rattle.ct_law_run.proofs.Lives.{Lives, NodeLives, MailSays, RoundSays, ReplySays, PhaseSays, Replied}
use Rattle.ct_law_run.proofs.Later.{Later, keeps_view}
use Rattle.ct_law_run.proofs.Faces.{Turned}
use Rattle.ct_law_run.proofs.Apart.{none_fresh}
use Rattle.ct_law_run.proofs.Joining
use Rattle.ct_law_run.proofs.Freezing.{HasCome}
use Rattle.ct_law_run.proofs.Stood.{lead_later}
use Rattle.ct_law_run.proofs.LeadTurning.{sent_still}
use Rattle.ct_law_record.proofs.MarkLists.{marks_stay}
use Rattle.ct_law_run.proofs.Stopped.{had_stays}
use Rattle.ct_law_run.proofs.Made.{released_untold, released_frames, done_so, installs_outs, given_up, push_is}
use Rattle.ct_law_run.proofs.Viewed
use Rattle.ct_law_run.proofs.Viewed.{past_db}

-- an installation removes nothing
installed_kept : (r : Lines) (m n g db : ℕ) (key : List ℕ) → is_removed r m db key (Noted n (note.Installed g) ∷ []) ≡ false
unfolding is_removal removes
installed_kept r m n g db key = none (nat_eq (r.line n) m)
  where
    none : (t : Bool) → ((t && false) || false) ≡ false
    none true = refl
    none false = refl

past_commit : (x : Node) (db : ℕ) → length x.dbs ≤ db → (db_at db x).commit ≡ None
unfolding db_at untouched
past_commit x db l = ap (λ (d : Database). d.commit) (past_db x.dbs db l)

module _ (c : Config) (rules : Rules) (w : Cluster) (r : Lines) (h : Lives c rules w r) (n : ℕ) (f : Frame) (ptables : List PTable) (assigned : List Assigned) (there : nat_lt n c.nodes ≡ true)
    (is : f.msg ≡ msg.Push (r.members f.generation) (h.ages.tables f.generation) ptables assigned) (come : HasCome w n f) (sound : is_sound c f ≡ true) (frozen : is_frozen_in f.generation (node_at n w).phase ≡ true)
    (whole : (makes_rows n (r.members f.generation) (h.ages.tables f.generation) (begins (node_at n w))).spent ≡ false) where
  abbrev g : ℕ
  g = f.generation

  abbrev a : Ages
  a = h.ages

  abbrev x : Node
  x = node_at n w

  abbrev y : Node
  y = installed_node c n f.sender g (r.members g) (a.tables g) ptables assigned x

  abbrev u : Turn
  u = posts g n f.sender msg.PushAck (installs c n f.sender g (r.members g) (a.tables g) ptables assigned (begins x))

  abbrev v : Cluster
  v = (put n u [] w).cluster

  -- ---- the turn

  turn_is : happens c rules n (begins x) (event.Arrive f) ≡ u
  turn_is = push_is c rules n (begins x) f (r.members g) (a.tables g) ptables assigned is sound frozen

  node_is : u.node ≡ y
  node_is = ap (λ (t : Turn). t.node) (sym turn_is) ∙ installs_frozen c rules n (begins x) f (r.members g) (a.tables g) ptables assigned is sound frozen

  abbrev gone : List Address
  gone = given_up c n f.sender g (r.members g) (a.tables g) ptables assigned (begins x)

  outs_is : u.outs ≡ done_so n f.sender g gone
  outs_is = installs_outs c n f.sender g (r.members g) (a.tables g) ptables assigned (begins x) refl

  abbrev acked : Frame
  acked = record { generation = g; sender = n; receiver = f.sender; msg = msg.PushAck }

  sent_is : v.sent ≡ w.sent ++ frames_of u.outs
  unfolding put with_node
  sent_is = refl

  calls_is : v.calls ≡ w.calls
  unfolding put with_node
  calls_is = refl

  frames_is : frames_of u.outs ≡ frames_of (out.Send acked ∷ [])
  unfolding frames_of
  frames_is = ap frames_of outs_is ∙ released_frames gone (out.Send acked ∷ [])

  told : record_labels c (labels_of n (pending w) u.outs) ≡ Noted n (note.Installed g) ∷ []
  unfolding labels_of speaks_of_records is_note_of_records sent_label
  told = ap (λ (l : List Out). record_labels c (labels_of n (pending w) l)) outs_is ∙ ap (λ (l : List Label). Noted n (note.Installed g) ∷ l) (released_untold c n (pending w) gone (out.Send acked ∷ []))

  of_frames : (P : Frame → Type 0) → P acked → AllByRecursion (λ (q : Sent). P q.frame) (frames_of u.outs)
  unfolding frames_of
  of_frames P p = subst (λ (l : List Sent). AllByRecursion (λ (q : Sent). P q.frame) l) (sym frames_is) (p, tt)

  same_mails : (m db : ℕ) (key : List ℕ) → mails m db key v.sent ≡ mails m db key w.sent
  unfolding frames_of mails mail_of record_in
  same_mails m db key = ap (λ (l : List Sent). mails m db key l) sent_is ∙ mails_more m db key w.sent (frames_of u.outs)
      ∙ ap (λ (l : List _). mails m db key w.sent ++ l) (ap (λ (l : List Sent). mails m db key l) frames_is) ∙ append-nil (mails m db key w.sent)

  -- ---- what is known

  own : NodeLives c rules h.who w r a n x
  own = h.nodes n there

  says : PhaseSays c rules h.who w r a n x (Frozen g)
  says = Viewed.says c rules w r h n f ptables assigned there is come sound frozen whole

  later_one : 2 ≤ g
  later_one = (Viewed.said c rules w r h n f ptables assigned there is come sound frozen whole).0

  born : r.born g ≡ true
  born = (Viewed.said c rules w r h n f ptables assigned there is come sound frozen whole).1

  member : is_among n (r.members g) ≡ true
  member = Viewed.member c rules w r h n f ptables assigned there is come sound frozen whole

  promised : x.promise ≡ g
  unfolding PhaseSays
  promised = says.1

  older : r.pline n < g
  unfolding PhaseSays
  older = says.2

  fresh_here : r.installed g n ≡ false
  fresh_here = ⊎_elim
      (λ (t : r.installed g n ≡ true). absurd (let l = h.formed.order.newer g n t in let k = older in omega arith))
      (λ (e : r.installed g n ≡ false). e)
      (cases_Bool (r.installed g n))

  low : (db : ℕ) (key : List ℕ) → rsn_of ((a.worlds g db key).nodes n).state.copy < 2 ^ 62
  low db key = Viewed.low c rules w r h n f ptables assigned there is come sound frozen whole db key

  -- ---- the lines

  abbrev s : Lines
  s = joined g n r

  abbrev b : Ages
  b = Joining.ages_joined c rules w v r a n g h.lines born member later_one fresh_here low same_mails

  views : (k m db : ℕ) (key : List ℕ) → (b.worlds m db key).nodes k ≡ (a.worlds m db key).nodes k
  views k m db key = at_each (λ m (ws : ℕ → List ℕ → World). (ws db key).nodes k ≡ (a.worlds m db key).nodes k) g _ a.worlds refl (λ m _. refl) m

  grown : (m k : ℕ) → r.installed m k ≡ true → s.installed m k ≡ true
  grown m k = at_each (λ m (row : ℕ → Bool). r.installed m k ≡ true → row k ≡ true) g (at n true (r.installed g)) r.installed
      (at_each (λ k (t : Bool). r.installed g k ≡ true → t ≡ true) n true (r.installed g) (λ _. refl) (λ k _ e. e) k)
      (λ m _ e. e) m

  later : Later r a s b
  later = record {
    last = omega arith;
    leader = λ m k e. e;
    named = λ m k e. refl;
    born = λ m e. e;
    members = λ m e. refl;
    tables = λ m e. refl;
    installed = grown;
    had = λ m k l lt e. had_stays n g r.had m k l e;
    phad = λ m k l lt e. had_stays n g r.phad m k l e;
  }

  line_now : s.line n ≡ g
  line_now = at_same n n g r.line refl

  pline_now : s.pline n ≡ g
  pline_now = at_same n n g r.pline refl

  installed_now : s.installed g n ≡ true
  installed_now = ap (λ (row : ℕ → Bool). row n) (at_same g g (at n true (r.installed g)) r.installed refl) ∙ at_same n n true (r.installed g) refl

  -- it owns nothing: where it is in a line its records rest there without a lock
  unowned : (l db : ℕ) (key : List ℕ) → (r.records l db key).owner ≢ Some n
  unfolding PhaseSays frozen_state
  unowned l db key e =
      let at_line : r.line n ≡ l = h.formed.owners l db key n e in
      ⊎_elim
      (λ (out : r.line n ≡ 0). (let none : (r.records 0 db key).owner ≡ None = h.lines.unowned 0 db key h.lines.none in
      absurd (let z : None ≡ Some n = sym none ∙ ap (λ (j : ℕ). (r.records j db key).owner) (sym out ∙ at_line) ∙ e in cc)))
      (λ (ne : r.line n ≢ 0).
      let inv = (h.lines.line (r.line n) (own.named ne).0).world db key in
      let locked = ((Law.stands _ _ _ _ inv).locks n).1 (ap (λ (j : ℕ). (r.records j db key).owner) at_line ∙ e) in
      let free : ((a.worlds (r.line n) db key).nodes n).state.locked ≡ None = sym (ap (λ (t : RecState). t.locked) (says.4 ne db key).state) ∙ says.6 db key in
      absurd (cc))
      (cases_eq (r.line n) 0)

  accepted : AcceptsInstalled g n r s
  accepted = (born, member, older, unowned, refl)

  -- ---- the node lives on

  -- what it told of itself is no matter of its line any more
  replied_now : (m vbase pbase : ℕ) (table : List TableRow) → Replied r a m n vbase pbase table x → Replied s b m n vbase pbase table y
  unfolding installed_node
  replied_now m vbase pbase table k =
      let below : m ≤ g = (let p = k.promised in let e = promised in omega arith) in record {
        promised = k.promised;
        given = k.given;
        older = k.older;
        had = had_stays n g r.had m n vbase k.had;
        still = λ some lt. absurd (let e = line_now in omega arith);
        past = λ l e. absurd (cc);
        stuck = λ some e. absurd (let z = line_now in let o = k.older in omega arith);
        some = λ ne. (let q = k.some ne in (
          q.0,
          or_grows (nat_eq vbase 1) (r.installed vbase n) (s.installed vbase n) (grown vbase n) q.1,
          λ db key. q.2 db key ∙ ap (λ (z : View). row_of n db key z.state.copy) (sym (views n vbase db key)),
        ));
        order = k.order;
        polder = k.polder;
        phad = had_stays n g r.phad m n pbase k.phad;
        pstill = λ lt. absurd (let e = pline_now in omega arith);
      }

  reply_now : (q : Frame) (m : Msg) → ReplySays r a n x q m → ReplySays s b n y q m
  unfolding ReplySays
  reply_now q (msg.PullReply vbase pbase table pts addresses) k = λ sent. replied_now q.generation vbase pbase table (k sent)
  reply_now q m k = k

  all_replies : AllByRecursion (λ (q : Sent). ReplySays s b n y q.frame q.frame.msg) v.sent
  unfolding ReplySays
  all_replies = subst (λ (l : List Sent). AllByRecursion (λ (q : Sent). ReplySays s b n y q.frame q.frame.msg) l) (sym sent_is)
      (all_append (λ (q : Sent). ReplySays s b n y q.frame q.frame.msg) w.sent (frames_of u.outs)
      (all_weaken (λ (q : Sent). ReplySays r a n x q.frame q.frame.msg) (λ (q : Sent). ReplySays s b n y q.frame q.frame.msg) (λ q k. reply_now q.frame q.frame.msg k) w.sent own.replies)
      (of_frames (λ q. ReplySays s b n y q q.msg) tt))

  no_commit : (db : ℕ) → (db_at db y).commit ≡ None
  unfolding PhaseSays installed_db
  no_commit db = ⊎_elim
      (λ (l : db < length x.dbs). ap (λ (d : Database). d.commit) (installs_dbs c n f.sender g (r.members g) (a.tables g) ptables assigned x db l) ∙ says.5 db)
      (λ (l : length x.dbs ≤ db). past_commit y db (let e = Viewed.same_length c rules w r h n f ptables assigned there is come sound frozen whole in omega arith))
      (cases_lt db (length x.dbs))

  wish_is : (db : ℕ) (key : List ℕ) → (state_at db key y).wish ≡ (state_at db key x).wish
  wish_is db key = Viewed.wish_is c rules w r h n f ptables assigned there is come sound frozen whole db key

  stays_order : StaysInOrder (begins x) (happens c rules n (begins x) (event.Arrive f))
  stays_order = happens_in_order c rules n (begins x) (event.Arrive f)

  known : NodeKnown h.who v.calls n y
  unfolding KnownAt CommitFits state_at
  known = subst (λ (j : ℕ). NodeKnown h.who j n y) (sym calls_is) (record {
    order = subst (λ (z : Node). NodeAscends z) (ap (λ (t : Turn). t.node) turn_is ∙ node_is) (stays_order.order own.known.order);
    dbs = λ db. record {
      records = λ key. subst (λ (o : Option Wish). Wishful (Known h.who w.calls n db key) o) (sym (wish_is db key)) ((own.known.dbs db).records key);
      commit = subst (λ (o : Option Committing). CommitFits h.who w.calls n db o) (sym (no_commit db)) tt;
    };
  })

  waits : (db : ℕ) (key : List ℕ) → Wishful (Of_records c db key) (state_at db key y).wish
  waits db key = subst (λ (o : Option Wish). Wishful (Of_records c db key) o) (sym (wish_is db key)) (own.waits db key)

  size : length y.dbs ≡ length c.dbs
  size = Viewed.same_length c rules w r h n f ptables assigned there is come sound frozen whole ∙ own.size

  formed : (db : ℕ) (key : List ℕ) → Is_formed (scene c (era_of r a g) rules db key) n (view db key y)
  formed db key = Viewed.formed c rules w r h n f ptables assigned there is come sound frozen whole db key

  world_is : (db : ℕ) (key : List ℕ) → (b.worlds g db key).nodes n ≡ view db key y
  world_is db key = views n g db key ∙ Viewed.world_is c rules w r h n f ptables assigned there is come sound frozen whole db key ∙ sym (Viewed.view_is c rules w r h n f ptables assigned there is come sound frozen whole db key)

  begun_stays : NodeStays c (era_of s b g) rules h.who v.calls n (record y { lead = Nothing })
  unfolding installed_node is_present_in is_present has_pushed state_at db_at
  begun_stays = record {
    present = eq-eqb g g refl;
    knows = refl;
    promise = promised;
    lead = λ _. refl;
    size = size;
    known = record { order = known.order; dbs = known.dbs };
    waits = waits;
    serves = λ e. absurd (cc);
    formed = formed;
  }

  lives : NodeLives c rules h.who v s b n y
  unfolding installed_node PhaseSays
  lives = record {
    size = size;
    known = known;
    line = sym line_now;
    base = sym pline_now;
    older = (let e = pline_now in let p = promised in omega arith);
    given = own.given;
    named = λ _. subst (λ (j : ℕ). (r.born j ≡ true) × (r.members g ≡ r.members j) × (is_among n (r.members j) ≡ true)) (sym line_now) (born, refl, member);
    done = λ _. subst (λ (j : ℕ). s.installed j n ≡ true) (sym line_now) installed_now;
    promises = own.promises;
    waits = waits;
    formed = subst (λ (j : ℕ). (db : ℕ) (key : List ℕ) → Is_formed (scene c (era_of s b j) rules db key) n (view db key y)) (sym line_now) formed;
    commits = λ db k e. absurd (let z : None ≡ Some k = sym (no_commit db) ∙ e in cc);
    persist = λ db k e. absurd (let z : None ≡ Some k = sym (no_commit db) ∙ e in cc);
    serving = λ db k e. absurd (let z : None ≡ Some k = sym (no_commit db) ∙ e in cc);
    phase = (
      (λ z. (let e = line_now in let l = later_one in absurd (omega arith))),
      subst (λ (j : ℕ). NodeStays c (era_of s b j) rules h.who v.calls n (record y { lead = Nothing })) (sym line_now) begun_stays,
      subst (λ (j : ℕ). (db : ℕ) (key : List ℕ) → (b.worlds j db key).nodes n ≡ view db key y) (sym line_now) world_is,
    );
    lead = lead_later c w v r a s b n x.lead later (λ q e. e) (λ q k. sent_still w v (frames_of u.outs) q sent_is k) own.lead;
    replies = all_replies;
  }

  -- ---- the whole turn

  unremoved : (m db : ℕ) (key : List ℕ) → is_removed r m db key (labels_of n (pending w) u.outs) ≡ false
  unremoved m db key = sym (removed_in_records c r m db key (labels_of n (pending w) u.outs)) ∙ ap (λ (l : List Label). is_removed r m db key l) told ∙ installed_kept r m n g db key

  marks_go_on : (m db : ℕ) (key : List ℕ) → MarksStep false (marks_of (a.ghosts m db key)) (marks_of (b.ghosts m db key))
  marks_go_on m db key = at_each (λ m (gs : ℕ → List ℕ → Ghost). MarksStep false (marks_of (a.ghosts m db key)) (marks_of (gs db key))) g _ a.ghosts
      (Joining.each c rules w v r a n g h.lines born member later_one fresh_here low same_mails db key).marks
      (λ m _. marks_stay (marks_of (a.ghosts m db key))) m

  pub installs_turned : Turned c rules h.who w r h.ages n (pending w) u
  unfolding RoundSays ReplySays record_in
  installs_turned = record {
    lines = s;
    ages = b;
    accepts = subst (λ (l : List Label). AcceptsLabels c rules r l s) (sym told) (s, accepted, refl);
    later = later;
    away = λ k ne. record { line = at_other n k g r.line ne; pline = at_other n k g r.pline ne; views = λ m db key _. views k m db key };
    rest = λ m db key _ why. keeps_view _ _ (views n m db key);
    last = refl;
    holder = refl;
    lives = Joining.joins_live c rules w v r a n g h.lines born member later_one fresh_here low same_mails;
    mine = subst (λ (z : Node). NodeLives c rules h.who v s b n z) (sym node_is) lives;
    says = of_frames (MailSays c s b) (record { round = installed_now; sound = λ k e. absurd (cc) });
    replies = λ k ne. of_frames (λ q. ReplySays s b k (node_at k w) q q.msg) tt;
    marks = λ m _ db key. subst (λ (t : Bool). MarksStep t (marks_of (a.ghosts m db key)) (marks_of (b.ghosts m db key))) (sym (unremoved m db key)) (marks_go_on m db key);
    fresh = λ k ne lt. none_fresh c rules r s b k (node_at k w) (λ q. refl);
  }
