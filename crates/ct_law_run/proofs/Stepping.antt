-- A cluster lives on through every step, where the parts of each turn hold that a node may take.
use Rattle.std.proofs.Common.{◌≡◌, ℕ, zero, suc, ◌+◌, Bool, true, false, ◌||◌, List, [], ◌∷◌, ◌++◌, length, Option, Some, None, inl, inr, refl, sym, ap, ◌∙◌, subst}
use Rattle.std.specs.Prelude.{nat_lt, map, slice_get}
use Rattle.std.specs.List.{list_any}
use Rattle.std.proofs.lemmas.Bool.{cond_both}
use Rattle.ct_values.specs.declared.client.ClientOp.{ClientOp}
use Rattle.ct_values.specs.declared.client.ClientOp.TheVariants as op
use Rattle.ct_values.specs.declared.config.Config.{Config}
use Rattle.ct_frame.specs.declared.event.Event.{Event}
use Rattle.ct_frame.specs.declared.event.Event.TheVariants as event
use Rattle.ct_frame.specs.declared.frame.Frame.{Frame}
use Rattle.ct_call.specs.Rules.{Rules}
use Rattle.ct_merge.proofs.Among.{In}
use Rattle.ct_rules_node.specs.Coming.{is_allowed_op}
use Rattle.ct_rules_node.specs.Node.{has_records, kind_at}
use Rattle.ct_rules_node.specs.Refusals.{first_of}
use Rattle.ct_rules_node.specs.Steps.{happens}
use Rattle.ct_rules_node.specs.Turn.{Turn, begins}
use Rattle.ct_law_rules_node.proofs.Refusals.{first_none, required}
use Rattle.ct_rules_cluster.specs.Cluster.{Cluster, Sent, Delivered, is_up, node_at, sent_at, able_from, pending}
use Rattle.ct_rules_cluster.specs.Faults.{fault_of, is_allowed, no_such_node, node_down}
use Rattle.ct_rules_cluster.specs.Labels.{Label}
use Rattle.ct_rules_cluster.specs.Steps.{put, lines_of, fed, done, deliver, repeat, with_fate, steps}
use Rattle.ct_rules_cluster.specs.Traces.{begun_by, own_labels}
use Rattle.ct_law_generation.specs.Waiting.{answerable, told_lines, told_step, unchanged, came_of, outcome}
use Rattle.ct_rules_cluster.specs.Traces as traces
use Rattle.ct_rules_cluster.specs.declared.step.Line.{Line}
use Rattle.ct_rules_cluster.specs.declared.step.PendingCall.{PendingCall}
use Rattle.ct_rules_cluster.specs.declared.step.Step.{Step}
use Rattle.ct_rules_cluster.specs.declared.step.Step.TheVariants as step
use Rattle.ct_rules_cluster.specs.declared.step.StepFault.{StepFault}
use Rattle.ct_register.specs.Legal.{AcceptsLabels}
use Rattle.ct_register.specs.Lines.{Lines}
use Rattle.ct_register.specs.Marks.{MarksStep}
use Rattle.ct_promise.specs.Generation.{speaks_of_records, record_labels}
use Rattle.ct_promise.specs.Marked.{is_removal, is_removed, MarksGoOn}
use Rattle.ct_promise.specs.Promises.{IsConfig}
use Rattle.ct_promise.proofs.Follows.{filter_more}
use Rattle.ct_law_record.proofs.MarkedRun.{marks_of}
use Rattle.ct_law_generation.specs.Shown.{labels_of}
use Rattle.ct_law_generation.proofs.Hearing.{labels_are}
use Rattle.ct_law_generation.proofs.Pending.{Callers}
use Rattle.ct_law_generation.proofs.Counting.{own_caller}
use Rattle.ct_law_generation.proofs.Faulting.{vacuum_kind}
use Rattle.ct_law_run.specs.Records.{LawOfRecords}
use Rattle.ct_law_run.proofs.Ages.{Ages}
use Rattle.ct_law_run.proofs.Lives.{WasSent, Lives}
use Rattle.ct_law_run.proofs.Later.{Rest}
use Rattle.ct_law_run.proofs.Faces.{Turned, After, StepLives, marks_in_all}
use Rattle.ct_law_run.proofs.Ending.{law_of_records}
use Rattle.ct_law_run.proofs.Quiet.{Quiet, quiet_lives, quiet_after, idle_after, after_taken}
use Rattle.ct_law_run.proofs.Standing.{start_after, able_after, yield_after, drop_after, lost_after, lost_again, fate_quiet, fate_ticket, fate_holder, fate_up}
use Rattle.ct_law_run.proofs.Stopped.{stop_after}
use Rattle.ct_law_run.proofs.Turning.{turned_after}
use Rattle.ct_law_run.proofs.Recovered.{fed_either, recover_after}
use Rattle.ct_law_run.proofs.Taking.{takeover_turned}
use Rattle.ct_law_generation.proofs.Called.{counted}
use Rattle.ct_law_run.proofs.Called.{lives_called}

-- ---- what is owed

-- what the cluster makes sure of before an event comes to a node, and which calls may be answered then
unfoldable pub Comes : Config → Callers → Cluster → ℕ → List PendingCall → Event → Type 0
Comes c who w n pend (event.Client call o) = (call ≡ w.calls) × (who call ≡ (n, o)) × (is_allowed_op o ≡ true) × (pend ≡ record { call = call; node = n; op = o; seq = 0 } ∷ pending w)
Comes c who w n pend (event.Arrive f) = (f.receiver ≡ n) × WasSent w f × (pend ≡ pending w)
Comes c who w n pend event.Retry = pend ≡ pending w
Comes c who w n pend (event.Vacuum db) = (has_records (kind_at c db) ≡ true) × (pend ≡ pending w)
Comes c who w n pend (event.BeginRound g members) = ⊥
Comes c who w n pend (event.BeginTakeover able) = pend ≡ pending w

-- the parts of the turn hold
abbrev pub AllTurned : Type 0
AllTurned = (c : Config) (rules : Rules) (w : Cluster) (r : Lines) (h : Lives c rules w r) (n : ℕ) (pend : List PendingCall) (e : Event) → IsConfig c → nat_lt n c.nodes ≡ true →
    Comes c h.who w n pend e → (happens c rules n (begins (node_at n w)) e).spent ≡ false →
    Turned c rules h.who w r h.ages n pend (happens c rules n (begins (node_at n w)) e)

-- the turns that are owed still: all but the begin of a takeover run
unfoldable pub IsOwed : Event → Type 0
IsOwed (event.BeginTakeover able) = ⊥
IsOwed e = Unit {0}

abbrev pub AllOwed : Type 0
AllOwed = (c : Config) (rules : Rules) (w : Cluster) (r : Lines) (h : Lives c rules w r) (n : ℕ) (pend : List PendingCall) (e : Event) → IsConfig c → nat_lt n c.nodes ≡ true →
    Comes c h.who w n pend e → (happens c rules n (begins (node_at n w)) e).spent ≡ false → IsOwed e →
    Turned c rules h.who w r h.ages n pend (happens c rules n (begins (node_at n w)) e)

pub owed_turned : AllOwed → AllTurned
unfolding happens IsOwed
owed_turned owed c rules w r h n pend (event.BeginTakeover able) is there comes whole = takeover_turned c rules w r h n able pend (node_at n w).lead (h.nodes n there).lead there
owed_turned owed c rules w r h n pend e is there comes whole = owed c rules w r h n pend e is there comes whole tt

-- ---- a step with a turn

-- what a step tells before its turn is not of records
record Is_aside (c : Config) (r : Lines) (own : List Label) : Type 0 where
  untold : record_labels c own ≡ []
  kept : (g db : ℕ) (key : List ℕ) → is_removed r g db key own ≡ false

any_more : {X : Type 0} (f : X → Bool) (xs ys : List X) → list_any f xs ≡ false → list_any f (xs ++ ys) ≡ list_any f ys
any_more f [] ys e = refl
any_more f (x ∷ xs) ys e = first (f x) e (any_more f xs ys)
  where
    first : (b : Bool) → (b || list_any f xs) ≡ false → (list_any f xs ≡ false → list_any f (xs ++ ys) ≡ list_any f ys) → (b || list_any f (xs ++ ys)) ≡ list_any f ys
    first true k rest = absurd (cc)
    first false k rest = rest k

turn_after : AllTurned → (c : Config) (rules : Rules) (w v : Cluster) (r : Lines) (a : Ages) → After c rules r a (unchanged w) → (h : Lives c rules v r) → h.ages ≡ a → (s : Step) (n : ℕ) (e : Event) → ((ls : List Line) → Is_aside c r (own_labels w s ls)) →
    IsConfig c → nat_lt n c.nodes ≡ true → Comes c h.who v n (answerable w s) e → After c rules r a (came_of w s (fed c rules n e [] v))
unfolding came_of told_step put
turn_after all c rules w v r a refused h same s n e aside is there comes = fed_either (After c rules r a) c rules w v s n e [] refused (λ whole.
    let u : Turn = happens c rules n (begins (node_at n v)) e in
    let t = all c rules v r h n (answerable w s) e is there comes whole in
    let ls : List Line = lines_of n (length v.sent + 1) u.outs in
    let more : List Label = labels_of n (answerable w s) u.outs in
    let told : told_step w s ls ≡ own_labels w s ls ++ more = ap (λ (l : List Label). own_labels w s ls ++ l) (labels_are s n (length v.sent + 1) (answerable w s) u.outs) in
    turned_after c rules v r h n (answerable w s) u [] t there r a (told_step w s ls)
    (subst (λ (l : List Label). AcceptsLabels c rules r (record_labels c l) t.lines) (sym told)
    (subst (λ (l : List Label). AcceptsLabels c rules r l t.lines) (sym (filter_more (speaks_of_records c) (own_labels w s ls) more ∙ ap (λ (l : List Label). l ++ record_labels c more) (aside ls).untold)) t.accepts))
    (subst (λ (l : List Label). MarksGoOn r l (marks_in_all a) (marks_in_all t.ages)) (sym told)
    (subst (λ (b : Ages). MarksGoOn r (own_labels w s ls ++ more) (marks_in_all b) (marks_in_all t.ages)) same
    (λ g b db key. subst (λ (x : Bool). MarksStep x (marks_of (h.ages.ghosts g db key)) (marks_of (t.ages.ghosts g db key))) (sym (any_more (is_removal r g db key) (own_labels w s ls) more ((aside ls).kept g db key))) (t.marks g b db key))))
    (λ k p f. subst (λ (b : Ages). Rest r b t.lines t.ages k p) same f))

-- ---- why it is not refused

there_up : (c : Config) (w : Cluster) (n : ℕ) (rest : List (Option StepFault)) → first_of (no_such_node c n ∷ node_down w n ∷ rest) ≡ None → (nat_lt n c.nodes ≡ true) × (is_up n w ≡ true)
unfolding no_such_node node_down
there_up c w n rest e = (let a = first_none _ _ e in (required (nat_lt n c.nodes) _ a.0, required (is_up n w) _ (first_none _ _ a.1).0))

nothing_aside : (c : Config) (r : Lines) → Is_aside c r []
nothing_aside c r = record { untold = refl; kept = λ g db key. refl }

begun_aside : (c : Config) (r : Lines) (n call : ℕ) (o : ClientOp) (ls : List Line) → Is_aside c r (begun_by n call o ls)
unfolding begun_by speaks_of_records is_removal
begun_aside c r n call (op.Commit db writes) ls = cond_both (traces.is_refused call ls) _ _ (λ (l : List Label). Is_aside c r l) (λ _. nothing_aside c r) (λ _. record { untold = refl; kept = λ g d key. refl })
begun_aside c r n call o ls = nothing_aside c r

-- ---- each step

-- nothing came of the number
none_after : (c : Config) (rules : Rules) (w : Cluster) (r : Lines) (h : Lives c rules w r) (s : Step) → ((ls : List Line) → own_labels w s ls ≡ []) → After c rules r h.ages (came_of w s (done [] w))
unfolding came_of done told_step told_lines
none_after c rules w r h s own = subst (λ (l : List Label). After c rules r h.ages (record { cluster = w; trace = l ++ [] })) (sym (own []))
    (quiet_after c rules w r h (record { cluster = w; trace = [] }) r.holder (record { nodes = refl; frames = refl; calls = refl }) refl (sym h.holder) h.up refl (λ g db key. refl))

-- a message that was sent was sent
sent_in : (ss : List Sent) (k : ℕ) (s : Sent) → slice_get ss k ≡ Some s → In s.frame (map (λ (x : Sent). x.frame) ss)
sent_in [] k s e = absurd (cc)
sent_in (x ∷ xs) zero s e = (let same : x ≡ s = cc in inl (ap (λ (y : Sent). y.frame) same))
sent_in (x ∷ xs) (suc k) s e = inr (sent_in xs k s e)

was_sent : (w : Cluster) (k : ℕ) (s : Sent) → sent_at k w ≡ Some s → WasSent w s.frame
unfolding sent_at
was_sent w zero s e = absurd (cc)
was_sent w (suc k) s e = sent_in w.sent k s e

-- the calls that wait are those of the nodes
same_pending : (w v : Cluster) → v.nodes ≡ w.nodes → pending w ≡ pending v
unfolding pending
same_pending w v e = ap (λ ns. pending (record w { nodes = ns })) (sym e)

module _ (all : AllTurned) (c : Config) (rules : Rules) (w : Cluster) (r : Lines) (h : Lives c rules w r) (is : IsConfig c) where
  client_after : (n : ℕ) (o : ClientOp) → After c rules r h.ages (outcome c rules w (step.Client n o))
  unfolding steps is_allowed fault_of lives_called own_labels answerable Comes pending node_at is_up
  client_after n o = after_taken c rules w r h (step.Client n o) (λ allowed e.
      let ok = there_up c w n [] e in
      turn_after all c rules w (counted w) r h.ages (idle_after c rules w r h) (lives_called c rules w r h (n, o)) refl (step.Client n o) n (event.Client (w.calls + 1) o) (λ ls. begun_aside c r n (w.calls + 1) o ls) is ok.0
      (refl, own_caller (w.calls + 1) (n, o) h.who, allowed, refl))

  retry_after : (n : ℕ) → After c rules r h.ages (outcome c rules w (step.Retry n))
  unfolding steps fault_of own_labels answerable Comes
  retry_after n = after_taken c rules w r h (step.Retry n) (λ allowed e.
      let ok = there_up c w n [] e in
      turn_after all c rules w w r h.ages (idle_after c rules w r h) h refl (step.Retry n) n event.Retry (λ ls. nothing_aside c r) is ok.0 refl)

  vacuum_after : (n db : ℕ) → After c rules r h.ages (outcome c rules w (step.Vacuum n db))
  unfolding steps fault_of own_labels answerable Comes
  vacuum_after n db = after_taken c rules w r h (step.Vacuum n db) (λ allowed e.
      let ok = there_up c w n _ e in
      turn_after all c rules w w r h.ages (idle_after c rules w r h) h refl (step.Vacuum n db) n (event.Vacuum db) (λ ls. nothing_aside c r) is ok.0 (vacuum_kind c w n db e, refl))

  takeover_after : (n : ℕ) → After c rules r h.ages (outcome c rules w (step.Takeover n))
  unfolding steps fault_of own_labels answerable Comes speaks_of_records is_removal
  takeover_after n = after_taken c rules w r h (step.Takeover n) (λ allowed e.
      let ok = there_up c w n _ e in
      turn_after all c rules w w r h.ages (idle_after c rules w r h) h refl (step.Takeover n) n (event.BeginTakeover (able_from 0 w.able)) (λ ls. record { untold = refl; kept = λ g db key. refl }) is ok.0 refl)

  repeat_after : (k : ℕ) → After c rules r h.ages (outcome c rules w (step.Repeat k))
  unfolding steps own_labels repeat answerable Comes
  repeat_after k = after_taken c rules w r h (step.Repeat k) (λ allowed e. repeated (sent_at k w) refl)
    where
      repeated : (m : Option Sent) → sent_at k w ≡ m → After c rules r h.ages (came_of w (step.Repeat k) (repeat c rules k w m))
      repeated None e = none_after c rules w r h (step.Repeat k) (λ ls. refl)
      repeated (Some s) e = either (is_up s.frame.receiver w) refl
        where
          either : (b : Bool) → is_up s.frame.receiver w ≡ b → After c rules r h.ages (came_of w (step.Repeat k) (repeat c rules k w (Some s)))
          either true up = rw up (turn_after all c rules w w r h.ages (idle_after c rules w r h) h refl (step.Repeat k) s.frame.receiver (event.Arrive s.frame) (λ ls. nothing_aside c r) is (h.up s.frame.receiver up) (refl, was_sent w k s e, refl))
          either false down = lost_again c rules w r h k s down

  -- the cluster in which the message was delivered
  abbrev given : ℕ → Sent → Cluster
  given k s = with_fate k s Delivered w

  deliver_after : (k : ℕ) → After c rules r h.ages (outcome c rules w (step.Deliver k))
  unfolding steps own_labels deliver answerable Comes quiet_lives
  deliver_after k = after_taken c rules w r h (step.Deliver k) (λ allowed e. delivered (sent_at k w) refl)
    where
      delivered : (m : Option Sent) → sent_at k w ≡ m → After c rules r h.ages (came_of w (step.Deliver k) (deliver c rules k w m))
      delivered None e = none_after c rules w r h (step.Deliver k) (λ ls. refl)
      delivered (Some s) e = either (is_up s.frame.receiver w) refl
        where
          either : (b : Bool) → is_up s.frame.receiver w ≡ b → After c rules r h.ages (came_of w (step.Deliver k) (deliver c rules k w (Some s)))
          either true up = rw up (
              let v : Cluster = given k s in
              let q : Quiet w v = fate_quiet k s Delivered w e in
              let lives : Lives c rules v r = quiet_lives c rules w v r h r.holder q (fate_ticket k s Delivered w) (fate_holder k s Delivered w ∙ sym h.holder) (λ n on. h.up n (sym (fate_up k s Delivered w n) ∙ on)) in
              turn_after all c rules w v r h.ages (idle_after c rules w r h) lives refl (step.Deliver k) s.frame.receiver (event.Arrive s.frame) (λ ls. nothing_aside c r) is (h.up s.frame.receiver up)
              (refl, subst (λ (fs : List Frame). In s.frame fs) (sym q.frames) (was_sent w k s e), same_pending w v q.nodes))
          either false down = lost_after c rules w r h k s e down

pub step_lives : AllTurned → StepLives
step_lives all c rules w r h (step.Client n o) is = client_after all c rules w r h is n o
step_lives all c rules w r h (step.Deliver k) is = deliver_after all c rules w r h is k
step_lives all c rules w r h (step.Drop k) is = drop_after c rules w r h k
step_lives all c rules w r h (step.Repeat k) is = repeat_after all c rules w r h is k
step_lives all c rules w r h (step.Retry n) is = retry_after all c rules w r h is n
step_lives all c rules w r h (step.Vacuum n db) is = vacuum_after all c rules w r h is n db
step_lives all c rules w r h (step.Recover n members) is = recover_after c rules w r h n members is
step_lives all c rules w r h (step.Yield n) is = yield_after c rules w r h n
step_lives all c rules w r h (step.Stop n) is = stop_after c rules w r h n
step_lives all c rules w r h (step.Start n) is = start_after c rules w r h n
step_lives all c rules w r h (step.Takeover n) is = takeover_after all c rules w r h is n
step_lives all c rules w r h (step.Able n able) is = able_after c rules w r h n able

-- so the law of records follows from the turns that are owed
pub law_from_turns : AllOwed → LawOfRecords
law_from_turns owed = law_of_records (step_lives (owed_turned owed))
