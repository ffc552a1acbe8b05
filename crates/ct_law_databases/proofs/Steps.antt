-- Every step of the cluster: what it tells needs no more of persistent databases than what holds, and that holds after it.
use Rattle.std.proofs.Common.{◌≡◌, ◌≢◌, ℕ, zero, suc, ◌+◌, ◌<◌, Bool, true, false, cond, List, [], ◌∷◌, ◌++◌, length, map, set, append-nil, Option, None, Some, refl, sym, ap, ◌∙◌, subst, arith, ⊎_elim}
use Rattle.std.specs.Prelude.{◌⊎◌, Ok}
use Rattle.std.specs.List.{AllByRecursion}
use Rattle.std.proofs.lemmas.Bool.{cases_eq, eq-eqb}
use Rattle.ct_values.specs.declared.client.Answer.{Answer}
use Rattle.ct_values.specs.declared.client.ClientOp.{ClientOp}
use Rattle.ct_values.specs.declared.client.ClientOp.TheVariants as op
use Rattle.ct_values.specs.declared.config.Config.{Config}
use Rattle.ct_frame.specs.declared.event.Event.{Event}
use Rattle.ct_frame.specs.declared.event.Event.TheVariants as event
use Rattle.ct_frame.specs.declared.frame.Frame.{Frame}
use Rattle.ct_call.specs.Rules.{Rules}
use Rattle.ct_rules_node.specs.Clients.{refusal}
use Rattle.ct_rules_node.specs.Node.{Node, Committing, restarted, has_records, kind_at, db_at}
use Rattle.ct_rules_node.specs.Turn.{Turn, begins}
use Rattle.ct_rules_node.specs.Steps.{happens}
use Rattle.ct_rules_cluster.specs.Cluster.{Cluster, Sent, Fate, Delivered, Dropped, is_up, node_at, sent_at, pending, pending_at, able_from}
use Rattle.ct_rules_cluster.specs.Faults.{fault_of}
use Rattle.ct_rules_cluster.specs.Labels.{Label, Answered, Ticket, Yielded, Stopped, Started, Takeover}
use Rattle.ct_rules_cluster.specs.Steps.{Stepped, frames_of, lines_of, with_node, put, fed, done, with_fate, deliver, drop, repeat, without_holder, gone, stop, recover, steps, steps_or, applied}
use Rattle.ct_rules_cluster.specs.Traces.{own_labels, begun_by, members_of}
use Rattle.ct_rules_cluster.specs.declared.step.Line.{Line}
use Rattle.ct_rules_cluster.specs.declared.step.Line.TheVariants as line
use Rattle.ct_rules_cluster.specs.declared.step.PendingCall.{PendingCall}
use Rattle.ct_rules_cluster.specs.declared.step.Step.{Step}
use Rattle.ct_rules_cluster.specs.declared.step.Step.TheVariants as step
use Rattle.ct_rules_cluster.specs.declared.step.StepFault.{StepFault}
use Rattle.ct_register.proofs.Places.{at_same, at_other}
use Rattle.ct_register.specs.Lines.{Lines}
use Rattle.ct_register.specs.Words.{at}
use Rattle.ct_law_generation.proofs.Hearing.{labels_are}
use Rattle.ct_law_generation.specs.Shown.{labels_of}
use Rattle.ct_law_generation.specs.Waiting.{answerable, answered, told_line, told_lines, told_step}
use Rattle.ct_law_generation.proofs.Pending.{Callers, Fits, Known}
use Rattle.ct_law_generation.proofs.Putting.{own_node, other_node}
use Rattle.ct_law_generation.proofs.Fed.{fed_is}
use Rattle.ct_law_generation.proofs.Faulting.{runs}
use Rattle.ct_law_acts.proofs.Calling.{called, more_calls, new_known, unlock_known}
use Rattle.ct_law_acts.proofs.Known.{pending_known, commit_answered}
use Rattle.ct_law_acts.proofs.Reached.{AllKnown}
use Rattle.ct_law_registers.proofs.Facts.{Has, Gone, bases, owners}
use Rattle.ct_law_acts.proofs.Parts.{fate_frames, sent_in, sent_more}
use Rattle.ct_law_databases.proofs.Kept.{frame_list}
use Rattle.ct_law_databases.proofs.Quiet.{IsQuiet, yielded_quiet, started_quiet}
use Rattle.ct_law_databases.proofs.Kept.{calm_same}
use Rattle.ct_law_databases.proofs.Settling.{waiting_owns}
use Rattle.ct_law_databases.proofs.Read.{at_own}
use Rattle.ct_law_databases.proofs.Stop.{stop_holds}
use Rattle.ct_law_databases.proofs.Before.{Before, Goes, calm_goes, waits_in_line}
use Rattle.ct_law_databases.proofs.Arrivals.{arrives_goes}
use Rattle.ct_law_databases.proofs.Clients.{client_goes}
use Rattle.ct_law_databases.proofs.Turns.{retry_goes, vacuum_goes, takeover_goes, recover_goes}

abbrev pub nodes_of : Cluster → ℕ → Node
nodes_of w n = node_at n w

abbrev pub frames_in : Cluster → List Frame
frames_in w = map (λ (s : Sent). s.frame) w.sent

-- from this cluster a step leads to that one, tells these labels, and goes so of persistent databases
pub record StepGoes (config : Config) (w v : Cluster) (r : Lines) (has : Has) (ls : List Label) : Type 0 where
  pub fs : List Frame
  pub sent : frames_in v ≡ frames_in w ++ fs
  pub goes : Goes config (nodes_of w) (nodes_of v) r has ls fs

-- ---- what a step makes of the cluster

put_nodes : (n : ℕ) (u : Turn) (own : List Line) (w : Cluster) → n < length w.nodes → nodes_of (put n u own w).cluster ≡ at n u.node (nodes_of w)
unfolding put node_at with_node
put_nodes n u own w l = λ i k. by k i
  where
    by : (k : ℕ) → node_at k (with_node n u.node w) ≡ at n u.node (nodes_of w) k
    by k = ⊎_elim
        (λ (e : k ≡ n). ap (λ (j : ℕ). node_at j (with_node n u.node w)) e ∙ own_node n u.node w l ∙ sym (at_same n k u.node (nodes_of w) e))
        (λ (ne : k ≢ n). other_node n k u.node w ne ∙ sym (at_other n k u.node (nodes_of w) ne)) (cases_eq k n)

fate_nodes : (k : ℕ) (s : Sent) (f : Fate) (w : Cluster) → nodes_of (with_fate k s f w) ≡ nodes_of w
unfolding with_fate node_at
fate_nodes zero s f w = refl
fate_nodes (suc k) s f w = refl

fate_length : (k : ℕ) (s : Sent) (f : Fate) (w : Cluster) → length (with_fate k s f w).nodes ≡ length w.nodes
unfolding with_fate
fate_length zero s f w = refl
fate_length (suc k) s f w = refl

-- ---- what holds before

-- what the law needs of the cluster before a step, beside what it keeps
pub record ClusterBefore (config : Config) (who : Callers) (w : Cluster) (r : Lines) (has : Has) (lost : Gone) : Type 0 where
  pub before : Before config (nodes_of w) (frames_in w) r has lost
  pub known : AllKnown config who w.calls w
  -- who runs is a node, and no generation above the last ticket is a line
  pub there : (n : ℕ) → is_up n w ≡ true → n < length w.nodes
  pub lines : (g : ℕ) → w.ticket < g → r.born g ≡ false

module _ (config : Config) (rules : Rules) (who : Callers) (w : Cluster) (r : Lines) (has : Has) (lost : Gone) (b : ClusterBefore config who w r has lost) where
  -- a node's step
  put_goes : (n : ℕ) (u : Turn) (own : List Line) (v : Cluster) (ls : List Label) → nodes_of v ≡ nodes_of w → frames_in v ≡ frames_in w → n < length v.nodes → Goes config (nodes_of w) (at n u.node (nodes_of w)) r has ls (frame_list u.outs) → StepGoes config w (put n u own v).cluster r has ls
  unfolding put
  put_goes n u own v ls same frames l g = record {
    fs = frame_list u.outs;
    sent = sent_more v.sent (frames_of u.outs) ∙ ap (λ (xs : List Frame). xs ++ frame_list u.outs) frames;
    goes = subst (λ (f : ℕ → Node). Goes config (nodes_of w) f r has ls (frame_list u.outs)) (sym (put_nodes n u own v l ∙ ap (at n u.node) same)) g;
  }

  -- no node's step
  done_goes : (v : Cluster) (ls : List Label) → nodes_of v ≡ nodes_of w → frames_in v ≡ frames_in w → AllByRecursion (IsQuiet config (bases r)) ls → StepGoes config w v r has ls
  unfolding labels_of frames_of
  done_goes v ls same frames quiet = record {
    fs = [];
    sent = frames ∙ sym (append-nil (frames_in w));
    goes = subst (λ (f : ℕ → Node). Goes config (nodes_of w) f r has ls []) (at_own 0 (nodes_of w) ∙ sym same)
        (subst (λ (l : List Label). Goes config (nodes_of w) (at 0 (node_at 0 w) (nodes_of w)) r has l []) (append-nil ls)
        (calm_goes config who (nodes_of w) r has 0 (begins (node_at 0 w)) (begins (node_at 0 w)) ls [] b.before.holds refl refl quiet tt calm_same));
  }

  waiting_told : (n db : ℕ) (z : Committing) → (db_at db (node_at n w)).commit ≡ Some z → (a : Answer) → answered z.call a (pending w) ≡ Answered n (op.Commit db z.writes) a ∷ []
  waiting_told n db z e a = commit_answered config who w.calls w n db z a b.known e

  fits : AllByRecursion (Fits who) (pending w)
  fits = pending_known config who w.calls w b.known

  -- ---- each step

  client_step : (n : ℕ) (o : ClientOp) (x : Stepped) → is_up n w ≡ true → fed config rules n (event.Client (w.calls + 1) o) [] (record w { calls = w.calls + 1 }) ≡ Ok x → StepGoes config w x.cluster r has (told_step w (step.Client n o) x.lines)
  unfolding happens told_step own_labels answerable answered node_at Fits put lines_of
  client_step n o x up is =
      let v : Cluster = record w { calls = w.calls + 1 } in
      let u : Turn = happens config rules n (begins (node_at n w)) (event.Client (w.calls + 1) o) in
      let f = fed_is config rules n (event.Client (w.calls + 1) o) [] v x is in
      let s = step.Client n o in
      let call = w.calls + 1 in
      let pend = answerable w s in
      let known_as = called call (n, o) who in
      let all : AllKnown config known_as call w = λ m. more_calls config who w.calls m (n, o) (node_at m w) (b.known m) in
      let own : known_as call ≡ (n, o) = ap (λ (c : Bool). cond c (n, o) (who call)) (eq-eqb call call refl) in
      let fit : AllByRecursion (Fits known_as) pend = (own, pending_known config known_as call w all) in
      let mine : (a : Answer) → answered call a pend ≡ Answered n o a ∷ [] = λ a. ap (λ (c : Bool). cond c (Answered n o a ∷ []) (answered call a (pending w))) (eq-eqb call call refl) in
      let unlocks : (db : ℕ) (key : List ℕ) → o ≡ op.Unlock db key → refusal config rules (node_at n w) (op.Unlock db key) ≡ None → Known known_as call n db key call (op.Unlock db key) × (has_records (kind_at config db) ≡ true)
      = λ db key same e. subst (λ (a : ClientOp). Known (called call (n, a) who) call n db key call (op.Unlock db key) × (has_records (kind_at config db) ≡ true)) (sym same) (unlock_known config rules who w.calls n db key (node_at n w) e) in
      let g = client_goes config rules known_as call (nodes_of w) (frames_in w) r has lost n call (length w.sent + 1) pend b.before (all n) fit o unlocks (new_known config rules who w.calls n o (node_at n w)) mine in
      let ls : told_step w s (lines_of n (length w.sent + 1) u.outs) ≡ begun_by n call o (lines_of n (length w.sent + 1) u.outs) ++ labels_of n pend u.outs
      = ap (λ (l : List Label). begun_by n call o (lines_of n (length w.sent + 1) u.outs) ++ l) (labels_are s n (length w.sent + 1) pend u.outs) in
      subst (λ (y : Stepped). StepGoes config w y.cluster r has (told_step w s y.lines)) (sym f.1)
      (subst (λ (l : List Label). StepGoes config w (put n u [] v).cluster r has l) (sym ls)
      (put_goes n u [] v _ refl refl (b.there n up) g))

  -- an event of a step that prints nothing before the lines of its node
  fed_goes : (n : ℕ) (e : Event) (own : List Line) (v : Cluster) (s : Step) (first : List Label) (x : Stepped) → nodes_of v ≡ nodes_of w → frames_in v ≡ frames_in w → length v.nodes ≡ length w.nodes → is_up n w ≡ true → fed config rules n e own v ≡ Ok x →
      ((k : ℕ) (u : Turn) → told_step w s (own ++ lines_of n k u.outs) ≡ first ++ labels_of n (pending w) u.outs) →
      (let u = happens config rules n (begins (node_at n w)) e in Goes config (nodes_of w) (at n u.node (nodes_of w)) r has (first ++ labels_of n (pending w) u.outs) (frame_list u.outs)) → StepGoes config w x.cluster r has (told_step w s x.lines)
  unfolding put
  fed_goes n e own v s first x same frames count up is ls g =
      let f = fed_is config rules n e own v x is in
      let u : Turn = happens config rules n (begins (node_at n v)) e in
      let node : node_at n v ≡ node_at n w = ap (λ (z : ℕ → Node). z n) same in
      let there : n < length v.nodes = (let l = b.there n up in omega arith) in
      subst (λ (y : Stepped). StepGoes config w y.cluster r has (told_step w s y.lines)) (sym f.1)
      (subst (λ (l : List Label). StepGoes config w (put n u own v).cluster r has l) (sym (ls (length v.sent + 1) u))
      (put_goes n u own v _ same frames there
      (subst (λ (y : Node). (let z = happens config rules n (begins y) e in Goes config (nodes_of w) (at n z.node (nodes_of w)) r has (first ++ labels_of n (pending w) z.outs) (frame_list z.outs))) (sym node) g)))

  arrive_goes : (k : ℕ) (s : Sent) (st : Step) (v : Cluster) (x : Stepped) → sent_at k w ≡ Some s → nodes_of v ≡ nodes_of w → frames_in v ≡ frames_in w → length v.nodes ≡ length w.nodes → is_up s.frame.receiver w ≡ true → fed config rules s.frame.receiver (event.Arrive s.frame) [] v ≡ Ok x →
      ((j : ℕ) (u : Turn) → told_step w st (lines_of s.frame.receiver j u.outs) ≡ labels_of s.frame.receiver (pending w) u.outs) → StepGoes config w x.cluster r has (told_step w st x.lines)
  unfolding happens
  arrive_goes k s st v x is same frames count up ok ls = fed_goes s.frame.receiver (event.Arrive s.frame) [] v st [] x same frames count up ok ls
      (arrives_goes config rules who w.calls (nodes_of w) (frames_in w) r has lost s.frame.receiver s.frame (pending w) b.before (sent_in k s w is) refl (b.known s.frame.receiver) fits (waiting_told s.frame.receiver) s.frame.msg refl)

  ok_is : (v : Cluster) (ls : List Line) (x : Stepped) → done ls v ≡ Ok x → record { cluster = v; lines = ls } ≡ x
  unfolding done
  ok_is v ls x e = cc

  -- a step without an event, which tells these labels
  plain_goes : (v : Cluster) (st : Step) (ls : List Line) (labels : List Label) (x : Stepped) → done ls v ≡ Ok x → nodes_of v ≡ nodes_of w → frames_in v ≡ frames_in w → told_step w st ls ≡ labels → AllByRecursion (IsQuiet config (bases r)) labels → StepGoes config w x.cluster r has (told_step w st x.lines)
  plain_goes v st ls labels x ok same frames told quiet = subst (λ (y : Stepped). StepGoes config w y.cluster r has (told_step w st y.lines)) (ok_is v ls x ok)
      (subst (λ (l : List Label). StepGoes config w v r has l) (sym told) (done_goes v labels same frames quiet))

  deliver_goes : (k : ℕ) (o : Option Sent) (x : Stepped) → sent_at k w ≡ o → deliver config rules k w o ≡ Ok x → StepGoes config w x.cluster r has (told_step w (step.Deliver k) x.lines)
  unfolding deliver told_step own_labels answerable told_lines told_line
  deliver_goes k None x is ok = plain_goes w (step.Deliver k) [] [] x ok refl refl refl tt
  deliver_goes k (Some s) x is ok = by (is_up s.frame.receiver w) refl ok
    where
      by : (c : Bool) → is_up s.frame.receiver w ≡ c → cond c (fed config rules s.frame.receiver (event.Arrive s.frame) [] (with_fate k s Delivered w)) (done (line.Lost k ∷ []) (with_fate k s Dropped w)) ≡ Ok x → StepGoes config w x.cluster r has (told_step w (step.Deliver k) x.lines)
      by true up ok = arrive_goes k s (step.Deliver k) (with_fate k s Delivered w) x is (fate_nodes k s Delivered w) (fate_frames k s Delivered w is) (fate_length k s Delivered w) up ok (λ j u. labels_are (step.Deliver k) s.frame.receiver j (pending w) u.outs)
      by false up ok = plain_goes (with_fate k s Dropped w) (step.Deliver k) (line.Lost k ∷ []) [] x ok (fate_nodes k s Dropped w) (fate_frames k s Dropped w is) refl tt

  drop_goes : (k : ℕ) (o : Option Sent) (x : Stepped) → sent_at k w ≡ o → drop k w o ≡ Ok x → StepGoes config w x.cluster r has (told_step w (step.Drop k) x.lines)
  unfolding drop told_step own_labels answerable told_lines
  drop_goes k None x is ok = plain_goes w (step.Drop k) [] [] x ok refl refl refl tt
  drop_goes k (Some s) x is ok = plain_goes (with_fate k s Dropped w) (step.Drop k) [] [] x ok (fate_nodes k s Dropped w) (fate_frames k s Dropped w is) refl tt

  repeat_goes : (k : ℕ) (o : Option Sent) (x : Stepped) → sent_at k w ≡ o → repeat config rules k w o ≡ Ok x → StepGoes config w x.cluster r has (told_step w (step.Repeat k) x.lines)
  unfolding repeat told_step own_labels answerable told_lines told_line
  repeat_goes k None x is ok = plain_goes w (step.Repeat k) [] [] x ok refl refl refl tt
  repeat_goes k (Some s) x is ok = by (is_up s.frame.receiver w) refl ok
    where
      by : (c : Bool) → is_up s.frame.receiver w ≡ c → cond c (fed config rules s.frame.receiver (event.Arrive s.frame) [] w) (done (line.Lost k ∷ []) w) ≡ Ok x → StepGoes config w x.cluster r has (told_step w (step.Repeat k) x.lines)
      by true up ok = arrive_goes k s (step.Repeat k) w x is refl refl refl up ok (λ j u. labels_are (step.Repeat k) s.frame.receiver j (pending w) u.outs)
      by false up ok = plain_goes w (step.Repeat k) (line.Lost k ∷ []) [] x ok refl refl refl tt

  gone_told : (s : Step) (calls xs : List PendingCall) → told_lines s calls (gone xs) ≡ []
  unfolding gone told_lines told_line
  gone_told s calls [] = refl
  gone_told s calls (p ∷ xs) = gone_told s calls xs

  stopped_goes : (n : ℕ) (v : Cluster) → v.nodes ≡ set w.nodes n (restarted config (node_at n w)) → v.sent ≡ w.sent → n < length w.nodes → Goes config (nodes_of w) (at n (restarted config (node_at n w)) (nodes_of w)) r has (Stopped n ∷ []) [] → StepGoes config w v r has (Stopped n ∷ [])
  unfolding put node_at with_node
  stopped_goes n v nodes sent l g = record {
    fs = [];
    sent = ap (map (λ (s : Sent). s.frame)) sent ∙ sym (append-nil (frames_in w));
    goes = subst (λ (f : ℕ → Node). Goes config (nodes_of w) f r has (Stopped n ∷ []) [])
        (sym (put_nodes n (record { node = restarted config (node_at n w); outs = []; spent = false }) [] w l) ∙ (λ i k. node_at k (record w { nodes = sym nodes i }))) g;
  }

  stop_goes : (n : ℕ) (x : Stepped) → is_up n w ≡ true → stop config n w ≡ Ok x → StepGoes config w x.cluster r has (told_step w (step.Stop n) x.lines)
  unfolding stop told_step own_labels answerable told_lines told_line with_node
  stop_goes n x up ok =
      let owns : (db : ℕ) (z : Committing) → (db_at db (node_at n w)).commit ≡ Some z → owners config r (r.line n) db ≡ Some n
      = λ db z e. (let i = waits_in_line config (nodes_of w) (frames_in w) r b.before.rounds b.before.locked n db z e in waiting_owns config (nodes_of w) (bases r) lost (owners config r) b.before.locked b.before.locks (r.line n) db i.kind (n, refl, z, e)) in
      let g : Goes config (nodes_of w) (at n (restarted config (node_at n w)) (nodes_of w)) r has (Stopped n ∷ []) []
      = record { kept = λ db. 0; seen = 0; more = has; goes = λ counts. stop_holds config _ (nodes_of w) r has n b.before.holds owns } in
      let v : Cluster = record (with_node n (restarted config (node_at n w)) w) { running = set w.running n false; holder = without_holder n w.holder } in
      subst (λ (y : Stepped). StepGoes config w y.cluster r has (told_step w (step.Stop n) y.lines)) (ok_is v (line.Stopped n ∷ gone (pending_at n w)) x ok)
      (subst (λ (l : List Label). StepGoes config w v r has (Stopped n ∷ l)) (sym (gone_told (step.Stop n) (pending w) (pending_at n w))) (stopped_goes n v refl refl (b.there n up) g))

  -- ---- every step

  abbrev Step_goes : Step → Stepped → Type 0
  Step_goes s x = StepGoes config w x.cluster r has (told_step w s x.lines)

  taken_goes : (s : Step) (x : Stepped) → fault_of config w s ≡ None → steps config rules w s ≡ Ok x → Step_goes s x
  unfolding fault_of steps recover told_step own_labels answerable told_lines told_line members_of happens node_at
  taken_goes (step.Client n o) x e ok = client_step n o x (runs w n _ _ e) ok
  taken_goes (step.Deliver k) x e ok = deliver_goes k (sent_at k w) x refl ok
  taken_goes (step.Drop k) x e ok = drop_goes k (sent_at k w) x refl ok
  taken_goes (step.Repeat k) x e ok = repeat_goes k (sent_at k w) x refl ok
  taken_goes (step.Retry n) x e ok = fed_goes n event.Retry [] w (step.Retry n) [] x refl refl refl (runs w n _ _ e) ok (λ k u. labels_are (step.Retry n) n k (pending w) u.outs)
      (retry_goes config rules who w.calls (nodes_of w) (frames_in w) r has lost n (pending w) b.before (b.known n) fits)
  taken_goes (step.Vacuum n db) x e ok = fed_goes n (event.Vacuum db) [] w (step.Vacuum n db) [] x refl refl refl (runs w n _ _ e) ok (λ k u. labels_are (step.Vacuum n db) n k (pending w) u.outs)
      (vacuum_goes config rules who w.calls (nodes_of w) (frames_in w) r has lost n (pending w) b.before (b.known n) fits db)
  taken_goes (step.Recover n members) x e ok = fed_goes n (event.BeginRound (w.ticket + 1) members) (line.Ticket (w.ticket + 1) n ∷ []) (record w { holder = Some n; ticket = w.ticket + 1 }) (step.Recover n members) (Ticket (w.ticket + 1) n members ∷ []) x refl refl refl (runs w n _ _ e) ok
      (λ k u. ap (λ (l : List Label). Ticket (w.ticket + 1) n members ∷ l) (labels_are (step.Recover n members) n k (pending w) u.outs))
      (recover_goes config rules who w.calls (nodes_of w) (frames_in w) r has lost n (pending w) b.before (b.known n) fits (w.ticket + 1) members members (b.lines (w.ticket + 1) (omega arith)))
  taken_goes (step.Yield n) x e ok = plain_goes (record w { holder = None }) (step.Yield n) (line.Yielded n ∷ []) (Yielded n ∷ []) x ok refl refl refl (yielded_quiet config (bases r) n, tt)
  taken_goes (step.Stop n) x e ok = stop_goes n x (runs w n _ _ e) ok
  taken_goes (step.Start n) x e ok = plain_goes (record w { running = set w.running n true }) (step.Start n) (line.Started n ∷ []) (Started n ∷ []) x ok refl refl refl (started_quiet config (bases r) n, tt)
  taken_goes (step.Takeover n) x e ok = fed_goes n (event.BeginTakeover (able_from 0 w.able)) [] w (step.Takeover n) (Takeover n (able_from 0 w.able) ∷ []) x refl refl refl (runs w n _ _ e) ok
      (λ k u. ap (λ (l : List Label). Takeover n (able_from 0 w.able) ∷ l) (labels_are (step.Takeover n) n k (pending w) u.outs))
      (takeover_goes config rules who w.calls (nodes_of w) (frames_in w) r has lost n (pending w) b.before (b.known n) fits (able_from 0 w.able) (able_from 0 w.able))
  taken_goes (step.Able n able) x e ok = plain_goes (record w { able = set w.able n able }) (step.Able n able) [] [] x ok refl refl refl tt

  or_taken : (s : Step) (f : Option StepFault) (x : Stepped) → fault_of config w s ≡ f → steps_or config rules w s f ≡ Ok x → Step_goes s x
  unfolding steps_or
  or_taken s (Some f) x e ok = absurd (cc)
  or_taken s None x e ok = taken_goes s x e ok

  pub step_goes : (s : Step) (x : Stepped) → applied config rules w s ≡ Ok x → Step_goes s x
  unfolding applied
  step_goes s x ok = or_taken s (fault_of config w s) x refl ok
