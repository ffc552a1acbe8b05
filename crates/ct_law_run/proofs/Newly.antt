-- The last reply of a round: its line is born and noted, and the Push goes to all members.
use Rattle.std.proofs.Common.{◌≡◌, ◌≢◌, ℕ, ◌≤◌, Bool, true, false, ◌&&◌, ◌||◌, List, [], ◌∷◌, ◌++◌, append-nil, Some, inl, ⊎_elim, refl, sym, ap, ◌∙◌, subst, arith}
use Rattle.std.specs.Prelude.{nat_eq, nat_lt}
use Rattle.std.specs.List.{AllByRecursion}
use Rattle.std.proofs.lemmas.Bool.{cases_eq, ne_eqb}
use Rattle.ct_values.specs.declared.config.Config.{Config}
use Rattle.ct_frame.specs.declared.event.Out.{Out}
use Rattle.ct_frame.specs.declared.event.Out.TheVariants as out
use Rattle.ct_frame.specs.declared.event.Note.TheVariants as note
use Rattle.ct_frame.specs.declared.frame.Frame.{Frame}
use Rattle.ct_frame.specs.declared.frame.TableRow.{TableRow}
use Rattle.ct_frame.specs.declared.round.Pull.{Pull}
use Rattle.ct_frame.specs.declared.round.PushBody.{PushBody}
use Rattle.ct_call.specs.Rules.{Rules}
use Rattle.ct_lcp2.proofs.Choices.{all_append, all_weaken}
use Rattle.ct_merge.specs.Gathered.{Gathered, finished}
use Rattle.ct_merge.specs.Rule.{row_at}
use Rattle.ct_merge.proofs.Among.{In}
use Rattle.ct_rules_node.specs.Node.{Node, Phase, Freezing, Lead, Nothing, Freezes, Pulls, Installs, Completed, is_among, db_at, state_at}
use Rattle.ct_rules_node.specs.Rounds.{body_of, push_of, pushes}
use Rattle.ct_rules_node.specs.Turn.{Turn, begins, notes, does, with_lead}
use Rattle.ct_rules_cluster.specs.Cluster.{Cluster, Sent, node_at, pending}
use Rattle.ct_rules_cluster.specs.Labels.{Label, Noted}
use Rattle.ct_rules_cluster.specs.Steps.{frames_of, put, with_node}
use Rattle.ct_register.specs.Births.{birth_list, born_of}
use Rattle.ct_register.specs.Lines.{Lines}
use Rattle.ct_register.specs.Legal.{AcceptsLabels}
use Rattle.ct_register.specs.Marks.{MarksStep}
use Rattle.ct_register.proofs.Places.{at_same, at_other}
use Rattle.ct_promise.specs.Generation.{record_labels, speaks_of_records, is_note_of_records}
use Rattle.ct_promise.specs.Marked.{is_removal, is_removed, removes}
use Rattle.ct_law_record.specs.World.{World}
use Rattle.ct_law_record.specs.Marked as law_marked
use Rattle.ct_law_record.proofs.Invariant.{Ghost, span_of}
use Rattle.ct_law_record.proofs.Markings.{goes_stays}
use Rattle.ct_law_record.proofs.MarkLists.{marks_go}
use Rattle.ct_law_record.proofs.MarkedRun.{marks_of}
use Rattle.ct_law_generation.specs.Shown.{scene, mails, labels_of}
use Rattle.ct_law_generation.proofs.Hearing.{mails_more}
use Rattle.ct_law_generation.proofs.Pending.{NodeKnown}
use Rattle.ct_law_generation.proofs.BornStarts.{master_in}
use Rattle.ct_law_generation.proofs.Removing.{removed_in_records}
use Rattle.ct_law_run.proofs.Ages.{Ages, era_of, row_in, begun_view, LinesLive}
use Rattle.ct_law_run.proofs.Lives.{Lives, NodeLives, MailSays, ReplySays, LeadSays, PhaseSays, IsTicket, IsGatheredOf}
use Rattle.ct_law_run.proofs.Later.{Later, Away, keeps_view}
use Rattle.ct_law_run.proofs.Faces.{Turned}
use Rattle.ct_law_run.proofs.Framing.{ticket_later}
use Rattle.ct_law_run.proofs.Apart.{Fresh, AllFresh, is_led, replies_away, node_away}
use Rattle.ct_law_run.proofs.Begetting.{begotten, begotten_live}
use Rattle.ct_law_run.proofs.Begotten.{all_heirs, replied, none_among}
use Rattle.ct_law_run.proofs.Rounds.{counts, round_accepted}
use Rattle.ct_law_run.proofs.Leading.{node_lead}
use Rattle.ct_law_run.proofs.Rounding.{Says_round, sends, sends_untold, sends_mails, sends_all, says_mail}
use Rattle.ct_law_run.proofs.Arriving.{to_all, posts_outs, posts_node, all_say}
use Rattle.ct_law_run.proofs.Again.{push_says}
use Rattle.ct_law_run.proofs.LeadTurning.{sent_still}
use Rattle.ct_law_run.proofs.Drawn.{all_drawn}
use Rattle.ct_law_run.proofs.Low.{pushed_low, pushed_order}

-- no Push is a reply
push_replies : (r : Lines) (a : Ages) (j n g : ℕ) (y : Node) (ks : List ℕ) (p : PushBody) → AllByRecursion (λ f. ReplySays r a j y f f.msg) (to_all g n ks (push_of p))
unfolding ReplySays push_of
push_replies r a j n g y [] p = tt
push_replies r a j n g y (k ∷ ks) p = (tt, push_replies r a j n g y ks p)

-- the note of a round removes nothing
round_kept : (r : Lines) (m n g p q db : ℕ) (key members : List ℕ) → is_removed r m db key (Noted n (note.Round g members p q) ∷ []) ≡ false
unfolding is_removal removes
round_kept r m n g p q db key members = none (nat_eq (r.line n) m)
  where
    none : (t : Bool) → ((t && false) || false) ≡ false
    none true = refl
    none false = refl

module _ (c : Config) (rules : Rules) (w : Cluster) (r : Lines) (h : Lives c rules w r) (n g : ℕ) (members : List ℕ) (x : Gathered) (there : nat_lt n c.nodes ≡ true) (ticket : IsTicket c r g n members) (unborn : r.born g ≡ false) (k : IsGatheredOf w n g members [] x) where
  abbrev body : PushBody
  body = body_of n members (finished x)

  abbrev taken : ℕ → List ℕ → ℕ
  taken = counts c rules w r h n g members x ticket unborn k

  abbrev pub s : Lines
  s = born_of g body.vparent taken body.pparent (λ db. 0) r

  abbrev pub b : Ages
  b = begotten c rules w r h.ages g body.table (birth_list r body.vparent taken)

  abbrev u : Turn
  u = pushes n g members body (begins (node_at n w))

  abbrev v : Cluster
  v = (put n u [] w).cluster

  abbrev lead : Lead
  lead = Installs g members members body

  abbrev frames : List Frame
  frames = to_all g n members (push_of body)

  -- ---- the turn

  node_is : u.node ≡ record (node_at n w) { lead = lead }
  unfolding pushes notes does with_lead
  node_is = posts_node g n members (push_of body) (notes (note.Round g members body.vparent body.pparent) (with_lead lead (begins (node_at n w))))

  outs_is : u.outs ≡ out.Note (note.Round g members body.vparent body.pparent) ∷ sends frames
  unfolding pushes notes does with_lead
  outs_is = posts_outs g n members (push_of body) (notes (note.Round g members body.vparent body.pparent) (with_lead lead (begins (node_at n w))))

  sent_is : v.sent ≡ w.sent ++ frames_of u.outs
  unfolding put with_node
  sent_is = refl

  calls_is : v.calls ≡ w.calls
  unfolding put with_node
  calls_is = refl

  frames_is : frames_of u.outs ≡ frames_of (sends frames)
  unfolding frames_of
  frames_is = ap frames_of outs_is

  told : record_labels c (labels_of n (pending w) u.outs) ≡ Noted n (note.Round g members body.vparent body.pparent) ∷ []
  unfolding labels_of speaks_of_records is_note_of_records
  told = ap (λ (l : List Out). record_labels c (labels_of n (pending w) l)) outs_is
      ∙ ap (λ (l : List Label). Noted n (note.Round g members body.vparent body.pparent) ∷ l) (sends_untold c n (pending w) frames)

  -- ---- registers and worlds

  other_born : (m : ℕ) → r.born m ≡ true → m ≢ g
  other_born m e is = absurd (let f = sym unborn ∙ ap r.born (sym is) ∙ e in cc)

  still_born : (m : ℕ) → r.born m ≡ true → s.born m ≡ true
  still_born m e = at_other g m true r.born (other_born m e) ∙ e

  later : Later r h.ages s b
  later = record {
    last = omega arith;
    leader = λ m j e. e;
    named = λ m j e. refl;
    born = still_born;
    members = λ m e. refl;
    tables = λ m e. at_other g m body.table h.ages.tables (other_born m e);
    installed = λ m j e. e;
    had = λ m j l lt e. e;
    phad = λ m j l lt e. e;
  }

  away : (j : ℕ) → Away r h.ages s b j
  away j = record {
    line = refl;
    pline = refl;
    views = λ m db key born. ap (λ (ws : ℕ → List ℕ → World). (ws db key).nodes j) (at_other g m _ h.ages.worlds (other_born m born));
  }

  born_now : s.born g ≡ true
  born_now = at_same g g true r.born refl

  table_now : b.tables g ≡ body.table
  table_now = at_same g g body.table h.ages.tables refl

  ticket_now : IsTicket c s g n members
  ticket_now = ticket_later c r h.ages s b g n members later ticket

  says : AllByRecursion (Says_round c w s b n) frames
  unfolding body_of
  says = all_say c w s b n g members (push_of body) (λ j. push_says c w s b n g j members body ticket_now born_now refl (sym table_now))

  same_mails : (m db : ℕ) (key : List ℕ) → mails m db key v.sent ≡ mails m db key w.sent
  same_mails m db key = ap (λ (l : List Sent). mails m db key l) sent_is ∙ mails_more m db key w.sent (frames_of u.outs)
      ∙ ap (λ (l : List _). mails m db key w.sent ++ l) (ap (λ (l : List Sent). mails m db key l) frames_is ∙ sends_mails c w s b n m db key frames says) ∙ append-nil (mails m db key w.sent)

  lives : LinesLive c rules v s b
  lives = begotten_live c rules w v r h.ages n g members body.vparent body.pparent taken (λ db. 0) body.table h.lines (record {
    ticket = ticket;
    home = λ key. master_in n members key ticket.own;
    unborn = unborn;
    heirs = λ db key. (all_heirs c rules w r h n g members x db key ticket unborn k, refl);
    drawn = λ db key. all_drawn c rules w r h db key;
    same = same_mails;
    rows_low = pushed_low c rules w r h n g members x ticket k;
    order = pushed_order c rules w r h n g members x ticket k;
  })

  -- ---- the new line is nothing new to any node

  reply_of : (j : ℕ) → is_among j members ≡ true → (q : Pull) × In q k.pulls × (q.node ≡ j)
  reply_of j among = ⊎_elim (λ (e : is_among j [] ≡ true). absurd (none_among j e)) (λ (z : (q : Pull) × In q k.pulls × (q.node ≡ j)). z) (k.waits.met j among)

  has_promised : (j : ℕ) → is_among j members ≡ true → g ≤ (node_at j w).promise
  has_promised j among = (let q = reply_of j among in subst (λ (i : ℕ). g ≤ (node_at i w).promise) q.2 (replied c rules w r h n g members x 0 [] ticket k q.0 q.1).promised)

  not_freezing : (j l : ℕ) → is_among j members ≡ true → (node_at j w).phase ≢ Freezing g l
  not_freezing j l among = (let q = reply_of j among in subst (λ (i : ℕ). (node_at i w).phase ≢ Freezing g l) q.2 ((replied c rules w r h n g members x 0 [] ticket k q.0 q.1).past l))

  freezing_member : (j l : ℕ) (y : Node) → PhaseSays c rules h.who w r h.ages j y (Freezing g l) → is_among j members ≡ true
  unfolding PhaseSays
  freezing_member j l y says = subst (λ (ms : List ℕ). is_among j ms ≡ true) ticket.named says.7

  nowhere_freezing : (j l : ℕ) → nat_lt j c.nodes ≡ true → (node_at j w).phase ≢ Freezing g l
  nowhere_freezing j l lt e = not_freezing j l (freezing_member j l (node_at j w) (subst (λ (p : Phase). PhaseSays c rules h.who w r h.ages j (node_at j w) p) e (h.nodes j lt).phase)) e

  begun_there : (j db : ℕ) (key : List ℕ) → (b.worlds g db key).nodes j ≡ begun_view (scene c (era_of s b g) rules db key) (row_in b g db key) j (state_at db key (node_at j w)).wish (node_at j w).next
  begun_there j db key = ap (λ (ws : ℕ → List ℕ → World). (ws db key).nodes j) (at_same g g _ h.ages.worlds refl)
      ∙ ap (λ (t : List TableRow). begun_view (scene c (era_of s b g) rules db key) (row_at db key t) j (state_at db key (node_at j w)).wish (node_at j w).next) (sym table_now)

  only_new : (m : ℕ) → r.born m ≡ false → s.born m ≡ true → g ≡ m
  only_new m old now = ⊎_elim
      (λ (e : m ≡ g). sym e)
      (λ (ne : m ≢ g). absurd (let f = sym old ∙ sym (at_other g m true r.born ne) ∙ now in cc))
      (cases_eq m g)

  fresh_led : (j : ℕ) → nat_lt j c.nodes ≡ true → (l : Lead) → is_led g l ≡ false → AllFresh c rules r s b j (record (node_at j w) { lead = l })
  unfolding state_at db_at
  fresh_led j lt l unled m old now = subst (λ (q : ℕ). Fresh c rules r s b j (record (node_at j w) { lead = l }) q) (only_new m old now) (record {
    promised = λ among. has_promised j (subst (λ (ms : List ℕ). is_among j ms ≡ true) ticket.named among);
    past = λ q. nowhere_freezing j q lt;
    begun = λ is db key. begun_there j db key;
    led = unled;
  })

  other_leader : (j q : ℕ) → q ≡ g → r.leader q ≡ Some j → j ≡ n
  other_leader j q e given = (let f : Some j ≡ Some n = sym given ∙ ap r.leader e ∙ ticket.given in cc)

  -- nobody else leads this round
  unled_by : (j : ℕ) (l : Lead) → j ≢ n → LeadSays c w r h.ages j l → is_led g l ≡ false
  unfolding LeadSays is_led
  unled_by j Nothing ne z = refl
  unled_by j (Freezes q ms missing) ne z = ne_eqb q g (λ e. absurd (ne (other_leader j q e z.0.given)))
  unled_by j (Pulls q ms missing y) ne z = ne_eqb q g (λ e. absurd (ne (other_leader j q e z.0.given)))
  unled_by j (Installs q ms missing y) ne z = refl
  unled_by j (Completed q ms y) ne z = refl

  fresh : (j : ℕ) → j ≢ n → nat_lt j c.nodes ≡ true → AllFresh c rules r s b j (node_at j w)
  fresh j ne lt = fresh_led j lt (node_at j w).lead (unled_by j (node_at j w).lead ne (h.nodes j lt).lead)

  -- ---- the leader lives on

  own : NodeLives c rules h.who w r h.ages n (node_at n w)
  own = h.nodes n there

  abbrev stood : Node
  stood = record (node_at n w) { lead = Nothing }

  stands_down : NodeLives c rules h.who w r h.ages n stood
  unfolding LeadSays
  stands_down = node_lead c rules h.who w w r h.ages n (node_at n w) Nothing refl tt own.replies own

  lead_now : LeadSays c v s b n lead
  unfolding LeadSays body_of
  lead_now = (ticket_now, born_now, refl, sym table_now, record { within = λ m e. e; met = λ m e. inl e })

  all_replies : (y : Node) → AllByRecursion (λ (q : Sent). ReplySays s b n y q.frame q.frame.msg) w.sent → AllByRecursion (λ (q : Sent). ReplySays s b n y q.frame q.frame.msg) v.sent
  all_replies y old = subst (λ (l : List Sent). AllByRecursion (λ (q : Sent). ReplySays s b n y q.frame q.frame.msg) l) (sym (sent_is ∙ ap (λ (l : List Sent). w.sent ++ l) frames_is))
      (all_append (λ (q : Sent). ReplySays s b n y q.frame q.frame.msg) w.sent (frames_of (sends frames)) old (sends_all (λ f. ReplySays s b n y f f.msg) frames (push_replies s b n n g y members body)))

  moved : NodeLives c rules h.who v s b n stood
  unfolding is_led
  moved = node_away c rules h.who h.who w v r h.ages s b n stood later (away n) (fresh_led n there Nothing refl) (subst (λ (j : ℕ). NodeKnown h.who j n stood) (sym calls_is) stands_down.known)
      (λ q sent. sent_still w v (frames_of u.outs) q sent_is sent) (λ some. (own.named some).0)
      (all_replies stood (replies_away c rules h.who h.who w v r h.ages s b n stood later (away n) w.sent stands_down.replies)) stands_down

  mine : NodeLives c rules h.who v s b n u.node
  mine = subst (λ (y : Node). NodeLives c rules h.who v s b n y) (sym node_is) (node_lead c rules h.who v v s b n stood lead refl lead_now moved.replies moved)

  -- ---- the whole turn

  unremoved : (m db : ℕ) (key : List ℕ) → is_removed r m db key (labels_of n (pending w) u.outs) ≡ false
  unremoved m db key = sym (removed_in_records c r m db key (labels_of n (pending w) u.outs)) ∙ ap (λ (l : List Label). is_removed r m db key l) told
      ∙ round_kept r m n g body.vparent body.pparent db key members

  marks_stay : (m db : ℕ) (key : List ℕ) → r.born m ≡ true → MarksStep false (marks_of (h.ages.ghosts m db key)) (marks_of (h.ages.ghosts m db key))
  unfolding law_marked.is_removed
  marks_stay m db key born = marks_go false (span_of (h.ages.ghosts m db key)) (span_of (h.ages.ghosts m db key)) ((h.lines.line m born).world db key).all.marks.under (goes_stays (span_of (h.ages.ghosts m db key)))

  pub pushes_turned : Turned c rules h.who w r h.ages n (pending w) u
  pushes_turned = record {
    lines = s;
    ages = b;
    accepts = subst (λ (l : List Label). AcceptsLabels c rules r l s) (sym told) (s, round_accepted c rules w r h n g members x ticket unborn k, refl);
    later = later;
    away = λ j ne. away j;
    rest = λ m db key born why. keeps_view _ _ ((away n).views m db key born);
    last = refl;
    holder = refl;
    lives = lives;
    mine = mine;
    says = subst (λ (l : List Sent). AllByRecursion (λ (q : Sent). MailSays c s b q.frame) l) (sym frames_is) (sends_all (MailSays c s b) frames (all_weaken (Says_round c w s b n) (MailSays c s b) (λ f says. says_mail c w s b n f says) frames says));
    replies = λ j ne. subst (λ (l : List Sent). AllByRecursion (λ (q : Sent). ReplySays s b j (node_at j w) q.frame q.frame.msg) l) (sym frames_is) (sends_all (λ f. ReplySays s b j (node_at j w) f f.msg) frames (push_replies s b j n g (node_at j w) members body));
    marks = λ m born db key. subst (λ (t : Bool). MarksStep t (marks_of (h.ages.ghosts m db key)) (marks_of (b.ghosts m db key))) (sym (unremoved m db key))
        (subst (λ (gs : ℕ → List ℕ → Ghost). MarksStep false (marks_of (h.ages.ghosts m db key)) (marks_of (gs db key))) (sym (at_other g m _ h.ages.ghosts (other_born m born))) (marks_stay m db key born));
    fresh = fresh;
  }
