-- All holds after a stop: each world of the node's line has the event that it leaves, and the node keeps no record.
use Rattle.std.proofs.Common.{◌≡◌, ◌≢◌, ℕ, zero, suc, ◌<◌, ◌≤◌, ◌^◌, Bool, true, false, cond, ◌||◌, List, [], ◌∷◌, Option, Some, None, ⊎_elim, refl, sym, ap, ◌∙◌, subst, arith}
use Rattle.std.specs.Prelude.{nat_eq, nat_lt, slice_get, slice_set}
use Rattle.std.proofs.lemmas.Bool.{cases_eq, cond_both, ne_eqb, eq-eqb, ltb-true, or_right}
use Rattle.std.proofs.lemmas.List.{length-set}
use Rattle.ct_values.specs.Words.{is_this_node}
use Rattle.ct_values.specs.declared.config.Config.{Config}
use Rattle.ct_frame.specs.declared.frame.Frame.{Frame}
use Rattle.ct_frame.specs.declared.frame.Msg.{Msg}
use Rattle.ct_frame.specs.declared.frame.Msg.TheVariants as msg
use Rattle.ct_frame.specs.declared.frame.TableRow.{TableRow}
use Rattle.ct_frame.specs.declared.header.RecCopy.{RecCopy}
use Rattle.ct_call.specs.Rules.{Rules}
use Rattle.ct_rules.specs.declared.state.RecState.{RecState}
use Rattle.ct_rules_node.specs.Node.{Node, Database, is_among, db_at, state_at, untouched, restarted_db, restarted}
use Rattle.ct_rules_node.specs.Rounds.{row_of}
use Rattle.ct_law_rules_node.proofs.Refusals.{first_none, required}
use Rattle.ct_law_rules_node.proofs.Starting.{restarts_in_order}
use Rattle.ct_law_rules_node.proofs.Rounds.{restarts_each}
use Rattle.ct_rules_cluster.specs.Cluster.{Cluster, is_true, is_up, node_at, pending_at}
use Rattle.ct_rules_cluster.specs.Faults.{fault_of, no_such_node}
use Rattle.ct_rules_cluster.specs.Labels.{Label, Stopped}
use Rattle.ct_rules_cluster.specs.Steps.{with_node, without_holder, gone, done, stop, steps}
use Rattle.ct_rules_cluster.specs.Traces.{own_labels}
use Rattle.ct_law_generation.specs.Waiting.{Outcome, answerable, told_line, told_lines, told_step, came_of, outcome}
use Rattle.ct_rules_cluster.specs.declared.step.PendingCall.{PendingCall}
use Rattle.ct_rules_cluster.specs.declared.step.Step.{Step}
use Rattle.ct_rules_cluster.specs.declared.step.Step.TheVariants as step
use Rattle.ct_register.specs.Lines.{Lines, stopped, also_had}
use Rattle.ct_register.specs.Marks.{MarksStep}
use Rattle.ct_register.specs.Register.{owner_without}
use Rattle.ct_register.specs.Words.{at}
use Rattle.ct_register.proofs.Formed.{label_formed}
use Rattle.ct_register.proofs.Places.{at_same, at_other, at_each}
use Rattle.ct_register.proofs.Small.{none_not_some}
use Rattle.ct_promise.specs.Generation.{speaks_of_records}
use Rattle.ct_promise.specs.Marked.{is_removal}
use Rattle.ct_law_record.specs.World.{View, World, unlocked}
use Rattle.ct_law_record.proofs.Invariant.{Ghost}
use Rattle.ct_law_record.proofs.MarkedRun.{marks_of}
use Rattle.ct_law_generation.specs.Shown.{mails}
use Rattle.ct_law_wishes.proofs.Wishing.{Wishful}
use Rattle.ct_law_generation.proofs.Pending.{CommitFits, DatabaseKnown, none_known}
use Rattle.ct_law_generation.proofs.Putting.{own_node, other_node}
use Rattle.ct_law_generation.proofs.Staying.{Of_records}
use Rattle.ct_law_run.proofs.Ages.{Ages, LinesLive}
use Rattle.ct_law_run.proofs.Lives.{Replied, ReplySays, MailSays, LeadSays, PhaseSays, NodeLives, Lives}
use Rattle.ct_law_run.proofs.Later.{Later, Away, Keeps, keeps_view}
use Rattle.ct_law_run.proofs.Framing.{mail_later}
use Rattle.ct_law_run.proofs.Apart.{none_fresh, each_then, empty_formed, state_none, replies_away, node_away}
use Rattle.ct_law_run.proofs.Stopping.{with_left, ages_left, each, leaves_live, idle_leaves}
use Rattle.ct_law_run.proofs.Faces.{After}
use Rattle.ct_law_record.proofs.MarkLists.{marks_stay}
use Rattle.ct_law_run.proofs.Quiet.{after_taken}

-- ---- small words

-- a line that was had is had still
pub had_stays : (n l : ℕ) (had : ℕ → ℕ → ℕ → Bool) (g m j : ℕ) → had g m j ≡ true → also_had n l had g m j ≡ true
unfolding also_had
had_stays n l had g m = at_each (λ m (row : ℕ → Bool). (j : ℕ) → had g m j ≡ true → row j ≡ true) n (at l true (had g n)) (had g)
    (at_each (λ j (b : Bool). had g n j ≡ true → b ≡ true) l true (had g n) (λ _. refl) (λ j _ e. e))
    (λ m _ j e. e) m

was_up : (bs : List Bool) (n k : ℕ) → is_true (slice_get (slice_set bs n false) k) ≡ true → is_true (slice_get bs k) ≡ true
unfolding is_true
was_up [] n k e = e
was_up (b ∷ bs) zero zero e = absurd (cc)
was_up (b ∷ bs) zero (suc k) e = e
was_up (b ∷ bs) (suc n) zero e = e
was_up (b ∷ bs) (suc n) (suc k) e = was_up bs n k e

same_without : (n : ℕ) (o : Option ℕ) → owner_without n o ≡ without_holder n o
unfolding owner_without without_holder is_this_node
same_without n None = refl
same_without n (Some m) = refl

-- a call that ends with its node is told nothing of
gone_silent : (s : Step) (calls xs : List PendingCall) → told_lines s calls (gone xs) ≡ []
unfolding told_lines told_line gone
gone_silent s calls [] = refl
gone_silent s calls (x ∷ xs) = gone_silent s calls xs

-- what a stop leaves of the cluster
abbrev pub stopped_cluster : Config → ℕ → Cluster → Cluster
stopped_cluster c n w = record (with_node n (restarted c (node_at n w)) w) { running = slice_set w.running n false; holder = without_holder n w.holder }

-- ---- the lines

-- what the worlds become: they go on as that of each line that the node leaves, and have of every node the same copy
record Left_lines (c : Config) (rules : Rules) (w : Cluster) (r : Lines) (a : Ages) (n : ℕ) (b : Ages) : Type 0 where
  lines : LinesLive c rules (stopped_cluster c n w) (stopped n r) b
  tables : b.tables ≡ a.tables
  views : (k : ℕ) → k ≢ n → (g db : ℕ) (key : List ℕ) → (b.worlds g db key).nodes k ≡ (a.worlds g db key).nodes k
  copies : (g db : ℕ) (key : List ℕ) → ((b.worlds g db key).nodes n).state.copy ≡ ((a.worlds g db key).nodes n).state.copy
  frees : (g db : ℕ) (key : List ℕ) → ((a.worlds g db key).nodes n).state.locked ≡ None → ((b.worlds g db key).nodes n).state.locked ≡ None
  marks : (g db : ℕ) (key : List ℕ) → MarksStep false (marks_of (a.ghosts g db key)) (marks_of (b.ghosts g db key))

-- who is in no line changes no world
idle_lines : (c : Config) (rules : Rules) (w : Cluster) (r : Lines) (a : Ages) (n : ℕ) → LinesLive c rules w r a → r.line n ≡ 0 → Left_lines c rules w r a n a
unfolding with_node
idle_lines c rules w r a n live out = record {
  lines = idle_leaves c rules w (stopped_cluster c n w) r a n live out (λ m db key. refl);
  tables = refl;
  views = λ k ne g db key. refl;
  copies = λ g db key. refl;
  frees = λ g db key f. f;
  marks = λ g db key. marks_stay _;
}

module _ (c : Config) (rules : Rules) (w : Cluster) (r : Lines) (a : Ages) (n g : ℕ) (live : LinesLive c rules w r a) (line : r.line n ≡ g) (born : r.born g ≡ true) (member : is_among n (r.members g) ≡ true)
    (there : (nat_eq g 1 || r.installed g n) ≡ true) (same : (m db : ℕ) (key : List ℕ) → mails m db key (stopped_cluster c n w).sent ≡ mails m db key w.sent) where
  abbrev b : Ages
  b = ages_left c rules w (stopped_cluster c n w) r a n g live line born member there same

  left_views : (k : ℕ) → k ≢ n → (m db : ℕ) (key : List ℕ) → (b.worlds m db key).nodes k ≡ (a.worlds m db key).nodes k
  left_views k ne m db key = at_each (λ m (ws : ℕ → List ℕ → World). (ws db key).nodes k ≡ (a.worlds m db key).nodes k) g (λ d j. with_left n (a.worlds g d j)) a.worlds
      (ap (λ (t : Bool). cond t (unlocked ((a.worlds g db key).nodes n)) ((a.worlds g db key).nodes k)) (ne_eqb k n ne))
      (λ m _. refl) m

  left_copies : (m db : ℕ) (key : List ℕ) → ((b.worlds m db key).nodes n).state.copy ≡ ((a.worlds m db key).nodes n).state.copy
  left_copies m db key = at_each (λ m (ws : ℕ → List ℕ → World). ((ws db key).nodes n).state.copy ≡ ((a.worlds m db key).nodes n).state.copy) g (λ d j. with_left n (a.worlds g d j)) a.worlds
      (cond_both (nat_eq n n) (unlocked ((a.worlds g db key).nodes n)) ((a.worlds g db key).nodes n) (λ (y : View). y.state.copy ≡ ((a.worlds g db key).nodes n).state.copy) (λ _. refl) (λ _. refl))
      (λ m _. refl) m

  left_frees : (m db : ℕ) (key : List ℕ) → ((a.worlds m db key).nodes n).state.locked ≡ None → ((b.worlds m db key).nodes n).state.locked ≡ None
  left_frees m db key = at_each (λ m (ws : ℕ → List ℕ → World). ((a.worlds m db key).nodes n).state.locked ≡ None → ((ws db key).nodes n).state.locked ≡ None) g (λ d j. with_left n (a.worlds g d j)) a.worlds
      (λ f. cond_both (nat_eq n n) (unlocked ((a.worlds g db key).nodes n)) ((a.worlds g db key).nodes n) (λ (y : View). y.state.locked ≡ None) (λ _. refl) (λ _. f))
      (λ m _ f. f) m

  left_marks : (m db : ℕ) (key : List ℕ) → MarksStep false (marks_of (a.ghosts m db key)) (marks_of (b.ghosts m db key))
  left_marks m db key = at_each (λ m (gs : ℕ → List ℕ → Ghost). MarksStep false (marks_of (a.ghosts m db key)) (marks_of (gs db key))) g
      (λ d j. (each c rules w (stopped_cluster c n w) r a n g live line born member there same d j).ghost) a.ghosts
      (each c rules w (stopped_cluster c n w) r a n g live line born member there same db key).marks
      (λ m _. marks_stay _) m

  left_lines : Left_lines c rules w r a n b
  left_lines = record { lines = leaves_live c rules w (stopped_cluster c n w) r a n g live line born member there same; tables = refl; views = left_views; copies = left_copies; frees = left_frees; marks = left_marks }

-- ---- the nodes

module _ (c : Config) (rules : Rules) (w : Cluster) (r : Lines) (h : Lives c rules w r) (n : ℕ) (b : Ages) (left : Left_lines c rules w r h.ages n b) where
  abbrev a : Ages
  a = h.ages

  abbrev s : Lines
  s = stopped n r

  abbrev v : Cluster
  v = stopped_cluster c n w

  abbrev x : Node
  x = node_at n w

  abbrev y : Node
  y = restarted c (node_at n w)

  later : Later r a s b
  later = record {
    last = omega arith;
    leader = λ g m e. e;
    named = λ g m e. refl;
    born = λ g e. e;
    members = λ g e. refl;
    tables = λ g e. ap (λ (t : ℕ → List TableRow). t g) left.tables;
    installed = λ g m e. e;
    had = λ g m j le e. had_stays n 0 r.had g m j e;
    phad = λ g m j le e. e;
  }

  away : (k : ℕ) → k ≢ n → Away r a s b k
  away k ne = record { line = at_other n k 0 r.line ne; pline = refl; views = λ g db key e. left.views k ne g db key }

  -- the others did nothing
  others_live : (k : ℕ) → k ≢ n → NodeLives c rules h.who w r a k (node_at k w) → NodeLives c rules h.who v s b k (node_at k v)
  unfolding with_node node_at
  others_live k ne l = subst (λ (z : Node). NodeLives c rules h.who v s b k z) (sym (other_node n k y w ne))
      (node_away c rules h.who h.who w v r a s b k (node_at k w) later (away k ne) (none_fresh c rules r s b k (node_at k w) (λ g. refl)) l.known (λ f was. was) (λ some. (l.named some).0)
      (replies_away c rules h.who h.who w v r a s b k (node_at k w) later (away k ne) w.sent l.replies) l)

  out : s.line n ≡ 0
  out = at_same n n 0 r.line refl

  -- what it told of itself it has still, as it is in no line
  replied_left : (g vbase pbase : ℕ) (table : List TableRow) → Replied r a g n vbase pbase table x → Replied s b g n vbase pbase table y
  unfolding restarted
  replied_left g vbase pbase table p = record {
    promised = p.promised;
    given = p.given;
    older = p.older;
    had = had_stays n 0 r.had g n vbase p.had;
    still = λ some. absurd (some out);
    past = λ l e. absurd (cc);
    stuck = λ some e. absurd (some (sym e ∙ out));
    some = λ ne. (let q = p.some ne in (q.0, q.1, λ db key. q.2 db key ∙ ap (λ (o : Option RecCopy). row_of n db key o) (sym (left.copies vbase db key))));
    order = p.order;
    polder = p.polder;
    phad = p.phad;
    pstill = p.pstill;
  }

  reply_left : (f : Frame) (m : Msg) → ReplySays r a n x f m → ReplySays s b n y f m
  unfolding ReplySays
  reply_left f (msg.PullReply vbase pbase table ptables addresses) p = λ own. replied_left f.generation vbase pbase table (p own)
  reply_left f m p = p

  no_records : (db : ℕ) → (db_at db y).records ≡ []
  unfolding restarted_db untouched
  no_records db = ap (λ (d : Database). d.records) (restarts_each c x db)

  no_commit : (db : ℕ) → (db_at db y).commit ≡ None
  unfolding restarted_db untouched
  no_commit db = ap (λ (d : Database). d.commit) (restarts_each c x db)

  no_floor : (db : ℕ) → (db_at db y).floor ≡ 0
  unfolding restarted_db untouched
  no_floor db = ap (λ (d : Database). d.floor) (restarts_each c x db)

  left_known : (db : ℕ) → DatabaseKnown h.who v.calls n db (db_at db y)
  unfolding restarted_db untouched CommitFits
  left_known db = subst (λ (d : Database). DatabaseKnown h.who v.calls n db d) (sym (restarts_each c x db)) (record { records = λ key. none_known h.who v.calls n db key; commit = tt })

  left_waits : (db : ℕ) (key : List ℕ) → Wishful (Of_records c db key) (state_at db key y).wish
  unfolding Wishful
  left_waits db key = subst (λ (z : RecState). Wishful (Of_records c db key) z.wish) (sym (state_none db key y (no_records db))) tt

  -- it keeps its promise, its persistent databases and their line
  own_lives : NodeLives c rules h.who w r a n x → NodeLives c rules h.who v s b n y
  unfolding restarted with_node PhaseSays LeadSays
  own_lives l = record {
    size = (restarts_in_order c x).0 ∙ l.size;
    known = record { order = (restarts_in_order c x).1; dbs = left_known };
    line = sym out;
    base = l.base;
    older = l.older;
    given = l.given;
    named = λ some. absurd (some out);
    done = λ two. absurd (let e = out in omega arith);
    promises = l.promises;
    waits = left_waits;
    formed = λ db key. empty_formed _ n 1 (db_at db y).floor (state_at db key y) (state_none db key y (no_records db)) (omega arith) (omega arith) (subst (λ (j : ℕ). j < 2 ^ 62) (sym (no_floor db)) (omega arith));
    commits = λ db k e. absurd (none_not_some (sym (no_commit db) ∙ e));
    persist = λ db k e. absurd (none_not_some (sym (no_commit db) ∙ e));
    serving = λ db k e. absurd (none_not_some (sym (no_commit db) ∙ e));
    phase = (out, no_records, no_commit);
    lead = tt;
    replies = each_then (λ q. ReplySays r a n x q.frame q.frame.msg) (λ q. ReplySays s b n y q.frame q.frame.msg) (λ q p. reply_left q.frame q.frame.msg p) w.sent l.replies;
  }

  -- ---- the cluster

  here : nat_lt n c.nodes ≡ true → node_at n v ≡ y
  unfolding with_node node_at
  here lt = own_node n y w (subst (λ (k : ℕ). n < k) (sym h.size) (ltb-true n c.nodes lt))

  all_live : nat_lt n c.nodes ≡ true → (k : ℕ) → nat_lt k c.nodes ≡ true → NodeLives c rules h.who v s b k (node_at k v)
  all_live lt k below = ⊎_elim
      (λ (is : k ≡ n). subst (λ (j : ℕ). NodeLives c rules h.who v s b j (node_at j v)) (sym is) (subst (λ (z : Node). NodeLives c rules h.who v s b n z) (sym (here lt)) (own_lives (h.nodes n lt))))
      (λ (ne : k ≢ n). others_live k ne (h.nodes k below))
      (cases_eq k n)

  lives_left : nat_lt n c.nodes ≡ true → After c rules r a (record { cluster = v; trace = Stopped n ∷ [] })
  unfolding with_node speaks_of_records is_removal is_up
  lives_left lt = record {
    lines = s;
    accepts = (s, refl, refl);
    lives = record {
      who = h.who;
      ages = b;
      formed = label_formed c rules (Stopped n) r s refl h.formed;
      last = h.last;
      holder = ap (owner_without n) h.holder ∙ same_without n w.holder;
      size = length-set w.nodes n y ∙ h.size;
      up = λ k up. h.up k (was_up w.running n k up);
      lines = left.lines;
      nodes = all_live lt;
      outside = λ k above. at_each (λ k (l : ℕ). nat_lt k c.nodes ≡ false → l ≡ 0) n 0 r.line (λ _. refl) (λ k _. h.outside k) k above;
      mail = each_then (λ q. MailSays c r a q.frame) (λ q. MailSays c s b q.frame) (λ q m. mail_later c r a s b q.frame later m) w.sent h.mail;
      bare = h.bare;
    };
    marks = λ g e db key. left.marks g db key;
    rest = λ k g db key born why. ⊎_elim
        (λ (is : k ≡ n). subst (λ (j : ℕ). Keeps ((a.worlds g db key).nodes j) ((b.worlds g db key).nodes j)) (sym is) (record { copy = left.copies g db key; free = left.frees g db key }))
        (λ (ne : k ≢ n). keeps_view _ _ (left.views k ne g db key))
        (cases_eq k n);
  }

-- ---- the step

-- who has a line has installed it, but for the first
one_or_later : (g : ℕ) (has : Bool) → g ≢ 0 → (2 ≤ g → has ≡ true) → (nat_eq g 1 || has) ≡ true
one_or_later g has ne f = ⊎_elim (λ (is : g ≡ 1). ap (λ (t : Bool). t || has) (eq-eqb g 1 is)) (λ (other : g ≢ 1). or_right (nat_eq g 1) has (f (omega arith))) (cases_eq g 1)

left_after : (c : Config) (rules : Rules) (w : Cluster) (r : Lines) (h : Lives c rules w r) (n : ℕ) → nat_lt n c.nodes ≡ true → After c rules r h.ages (record { cluster = stopped_cluster c n w; trace = Stopped n ∷ [] })
unfolding with_node
left_after c rules w r h n lt = ⊎_elim
    (λ (out : r.line n ≡ 0). lives_left c rules w r h n h.ages (idle_lines c rules w r h.ages n h.lines out) lt)
    (λ (some : r.line n ≢ 0). (let l = h.nodes n lt in let q = l.named some in
    lives_left c rules w r h n _ (left_lines c rules w r h.ages n (r.line n) h.lines refl q.0 q.2 (one_or_later (r.line n) (r.installed (r.line n) n) some l.done) (λ m db key. refl)) lt))
    (cases_eq (r.line n) 0)

stop_runs : (c : Config) (rules : Rules) (w : Cluster) (n : ℕ) → came_of w (step.Stop n) (steps c rules w (step.Stop n)) ≡ record { cluster = stopped_cluster c n w; trace = Stopped n ∷ [] }
unfolding steps done stop came_of told_step own_labels told_lines told_line
stop_runs c rules w n = ap (λ (ls : List Label). record { cluster = stopped_cluster c n w; trace = Stopped n ∷ ls }) (gone_silent (step.Stop n) (answerable w (step.Stop n)) (pending_at n w))

there_is : (c : Config) (w : Cluster) (n : ℕ) → fault_of c w (step.Stop n) ≡ None → nat_lt n c.nodes ≡ true
unfolding fault_of no_such_node
there_is c w n e = required (nat_lt n c.nodes) _ (first_none _ _ e).0

pub stop_after : (c : Config) (rules : Rules) (w : Cluster) (r : Lines) (h : Lives c rules w r) (n : ℕ) → After c rules r h.ages (outcome c rules w (step.Stop n))
stop_after c rules w r h n = after_taken c rules w r h (step.Stop n) (λ t e. subst (λ (run : Outcome). After c rules r h.ages run) (sym (stop_runs c rules w n)) (left_after c rules w r h n (there_is c w n e)))
