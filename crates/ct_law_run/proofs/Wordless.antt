-- The parts of a turn hold where it tells nothing of records and sends no message of one, and the node lives on.
use Rattle.std.proofs.Common.{◌≡◌, ◌≢◌, ℕ, Bool, true, false, cond, ◌&&◌, ◌||◌, List, [], ◌∷◌, ◌++◌, Option, None, append-nil, refl, sym, ap, ◌∙◌, subst, arith}
use Rattle.std.specs.Prelude.{nat_eq, nat_lt}
use Rattle.std.specs.List.{AllByRecursion, filter}
use Rattle.ct_values.specs.declared.config.Config.{Config}
use Rattle.ct_frame.specs.declared.event.Note.TheVariants as note
use Rattle.ct_call.specs.Rules.{Rules}
use Rattle.ct_rules_node.specs.Admission.{record_in}
use Rattle.ct_rules_node.specs.Turn.{Turn, begins}
use Rattle.ct_rules_cluster.specs.Cluster.{Cluster, Sent, node_at}
use Rattle.ct_rules_cluster.specs.Labels.{Label, Noted}
use Rattle.ct_rules_cluster.specs.Steps.{frames_of, with_node, put}
use Rattle.ct_rules_cluster.specs.declared.step.PendingCall.{PendingCall}
use Rattle.ct_register.specs.Lines.{Lines}
use Rattle.ct_register.specs.Legal.{AcceptsLabels}
use Rattle.ct_register.specs.Marks.{MarksStep}
use Rattle.ct_promise.specs.Generation.{speaks_of_records, is_note_of_records, record_labels}
use Rattle.ct_promise.specs.Marked.{is_removal, is_removed, removes}
use Rattle.ct_law_record.specs.World.{Mail}
use Rattle.ct_law_record.proofs.MarkedRun.{marks_of}
use Rattle.ct_law_generation.specs.Shown.{mail_of, mails, labels_of}
use Rattle.ct_law_generation.proofs.Hearing.{mails_more}
use Rattle.ct_law_generation.proofs.Pending.{Callers}
use Rattle.ct_law_run.proofs.Ages.{Ages, LinesLive}
use Rattle.ct_law_run.proofs.Lives.{ReplySays, MailSays, NodeLives, Lives}
use Rattle.ct_law_run.proofs.Later.{Later, Away, keeps_view}
use Rattle.ct_law_run.proofs.Apart.{none_fresh, node_away}
use Rattle.ct_law_run.proofs.Begetting.{same_lives}
use Rattle.ct_law_run.proofs.Faces.{Turned}
use Rattle.ct_law_record.proofs.MarkLists.{marks_stay}
use Rattle.ct_law_run.proofs.Turning.{all_append, sent_more}

-- ---- what is told

none_of : (b : Bool) → (b && false) ≡ false
none_of true = refl
none_of false = refl

-- a removal is told of records
one_kept : (c : Config) (r : Lines) (g db : ℕ) (key : List ℕ) (x : Label) → speaks_of_records c x ≡ false → is_removal r g db key x ≡ false
unfolding speaks_of_records is_note_of_records is_removal removes
one_kept c r g db key (Noted n (note.Vacuumed d k)) e = absurd (cc)
one_kept c r g db key (Noted n (note.Ended d k)) e = absurd (cc)
one_kept c r g db key (Noted n (note.Round h members v q)) e = absurd (cc)
one_kept c r g db key (Noted n (note.Installed h)) e = absurd (cc)
one_kept c r g db key (Noted n (note.Thawed h)) e = absurd (cc)
one_kept c r g db key (Noted n (note.Released a)) e = none_of (nat_eq (r.line n) g)
one_kept c r g db key (Noted n (note.Took a)) e = none_of (nat_eq (r.line n) g)
one_kept c r g db key x e = refl

-- so where nothing is told of records none is removed
pub untold_kept : (c : Config) (r : Lines) (g db : ℕ) (key : List ℕ) (ls : List Label) → record_labels c ls ≡ [] → is_removed r g db key ls ≡ false
untold_kept c r g db key [] e = refl
untold_kept c r g db key (x ∷ xs) e = either (speaks_of_records c x) refl e (untold_kept c r g db key xs)
  where
    either : (b : Bool) → speaks_of_records c x ≡ b → cond b (x ∷ filter (speaks_of_records c) xs) (filter (speaks_of_records c) xs) ≡ [] → (record_labels c xs ≡ [] → is_removed r g db key xs ≡ false) → (is_removal r g db key x || is_removed r g db key xs) ≡ false
    either true t k rest = absurd (cc)
    either false t k rest = ap (λ (b : Bool). b || is_removed r g db key xs) (one_kept c r g db key x t) ∙ rest k

-- ---- what is sent

no_mails : (m db : ℕ) (key : List ℕ) (ss : List Sent) → AllByRecursion (λ (s : Sent). record_in s.frame.msg ≡ None) ss → mails m db key ss ≡ []
unfolding mails mail_of
no_mails m db key [] h = refl
no_mails m db key (s ∷ ss) h = ap (λ (x : Option (ℕ × List ℕ)). mail_of m db key s.frame x ++ mails m db key ss) h.0 ∙ no_mails m db key ss h.1

-- ---- the turn

-- it tells nothing of records, and what it sends is of no record and says what it says over the same lines, in which the node
-- lives on as the turn leaves it
pub record Is_wordless (c : Config) (rules : Rules) (who : Callers) (w : Cluster) (r : Lines) (a : Ages) (n : ℕ) (pend : List PendingCall) (u : Turn) : Type 0 where
  pub untold : record_labels c (labels_of n pend u.outs) ≡ []
  pub wordless : AllByRecursion (λ (s : Sent). record_in s.frame.msg ≡ None) (frames_of u.outs)
  pub says : AllByRecursion (λ (s : Sent). MailSays c r a s.frame) (frames_of u.outs)
  pub replies : (k : ℕ) → k ≢ n → AllByRecursion (λ (s : Sent). ReplySays r a k (node_at k w) s.frame s.frame.msg) (frames_of u.outs)
  pub own : AllByRecursion (λ (s : Sent). ReplySays r a n u.node s.frame s.frame.msg) (frames_of u.outs)
  pub mine : NodeLives c rules who w r a n u.node

module _ (c : Config) (rules : Rules) (who : Callers) (w : Cluster) (r : Lines) (a : Ages) (n : ℕ) (pend : List PendingCall) (u : Turn) (lines : LinesLive c rules w r a) (h : Is_wordless c rules who w r a n pend u) where
  abbrev v : Cluster
  v = (put n u [] w).cluster

  stays : Later r a r a
  stays = record { last = omega arith; leader = λ k m e. e; named = λ k m e. refl; born = λ k e. e; members = λ k e. refl; tables = λ k e. refl; installed = λ k m e. e; had = λ k m l le e. e; phad = λ k m l le e. e }

  away : (k : ℕ) → Away r a r a k
  away k = record { line = refl; pline = refl; views = λ m db key e. refl }

  same : (m db : ℕ) (key : List ℕ) → mails m db key v.sent ≡ mails m db key w.sent
  unfolding put with_node
  same m db key = mails_more m db key w.sent (frames_of u.outs) ∙ ap (λ (l : List Mail). mails m db key w.sent ++ l) (no_mails m db key (frames_of u.outs) h.wordless) ∙ append-nil (mails m db key w.sent)

  lines_live : LinesLive c rules v r a
  lines_live = record {
    first = lines.first;
    none = lines.none;
    line = λ k e. same_lives c rules w v r r a a k (record { members = refl; installed = refl; records = refl; worlds = refl; ghosts = refl; tables = refl; mail = same k }) (lines.line k e);
    silent = λ k db key e. same k db key ∙ lines.silent k db key e;
    uninstalled = lines.uninstalled;
    unowned = lines.unowned;
  }

  own_lives : NodeLives c rules who v r a n u.node
  unfolding put with_node
  own_lives = node_away c rules who who w v r a r a n u.node stays (away n) (none_fresh c rules r r a n u.node (λ k. refl)) h.mine.known (λ f was. sent_more f w.sent (frames_of u.outs) was) (λ some. (h.mine.named some).0)
      (all_append (λ q. ReplySays r a n u.node q.frame q.frame.msg) w.sent (frames_of u.outs) h.mine.replies h.own) h.mine

  pub wordless_turned : Turned c rules who w r a n pend u
  wordless_turned = record {
    lines = r;
    ages = a;
    accepts = subst (λ (ls : List Label). AcceptsLabels c rules r ls r) (sym h.untold) refl;
    later = stays;
    away = λ k ne. away k;
    rest = λ m db key born why. keeps_view _ _ refl;
    last = refl;
    holder = refl;
    lives = lines_live;
    mine = own_lives;
    says = h.says;
    replies = h.replies;
    marks = λ k e db key. subst (λ (b : Bool). MarksStep b (marks_of (a.ghosts k db key)) (marks_of (a.ghosts k db key))) (sym (untold_kept c r k db key (labels_of n pend u.outs) h.untold)) (marks_stay _);
    fresh = λ k ne lt. none_fresh c rules r r a k (node_at k w) (λ g. refl);
  }

-- a message that is dropped, and an event of which nothing comes
pub nothing_turned : (c : Config) (rules : Rules) (w : Cluster) (r : Lines) (h : Lives c rules w r) (n : ℕ) (pend : List PendingCall) → nat_lt n c.nodes ≡ true →
    Turned c rules h.who w r h.ages n pend (begins (node_at n w))
unfolding labels_of frames_of
nothing_turned c rules w r h n pend there = wordless_turned c rules h.who w r h.ages n pend (begins (node_at n w)) h.lines (record { untold = refl; wordless = tt; says = tt; replies = λ k ne. tt; own = tt; mine = h.nodes n there })
