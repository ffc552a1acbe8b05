-- What every step of the cluster does: one node takes a turn, or one stops, or nothing happens to any.
use Rattle.std.proofs.Common.{◌≡◌, ◌≢◌, ℕ, ◌+◌, ◌<◌, Bool, true, false, cond, List, [], ◌∷◌, ◌++◌, length, map, set, Option, None, Some, refl, sym, ap, ◌∙◌, subst, arith, inl, inr}
use Rattle.std.specs.Prelude.{◌⊎◌, Ok, slice_get}
use Rattle.std.specs.List.{list_any}
use Rattle.ct_values.specs.declared.client.ClientOp.{ClientOp}
use Rattle.ct_values.specs.declared.client.ClientOp.TheVariants as op
use Rattle.ct_values.specs.declared.config.Config.{Config}
use Rattle.ct_frame.specs.declared.event.Event.{Event}
use Rattle.ct_frame.specs.declared.event.Event.TheVariants as event
use Rattle.ct_frame.specs.declared.frame.Frame.{Frame}
use Rattle.ct_call.specs.Rules.{Rules}
use Rattle.ct_rules_node.specs.Node.{Node, restarted}
use Rattle.ct_rules_node.specs.Turn.{Turn, begins}
use Rattle.ct_rules_node.specs.Steps.{happens}
use Rattle.ct_rules_cluster.specs.Cluster.{Cluster, Sent, Delivered, Dropped, is_up, node_at, or_absent, sent_at, pending, pending_at, able_from}
use Rattle.ct_rules_cluster.specs.Faults.{fault_of}
use Rattle.ct_rules_cluster.specs.Labels.{Label, Begun, Noted, Ticket, Yielded, Stopped, Started, Takeover}
use Rattle.ct_rules_cluster.specs.Steps.{Stepped, frames_of, lines_of, with_node, put, fed, done, with_fate, deliver, drop, repeat, without_holder, gone, stop, recover, steps, steps_or, applied}
use Rattle.ct_rules_cluster.specs.Traces.{own_labels, begun_by, is_refused, members_of}
use Rattle.ct_rules_cluster.specs.declared.step.Line.{Line}
use Rattle.ct_rules_cluster.specs.declared.step.Line.TheVariants as line
use Rattle.ct_rules_cluster.specs.declared.step.PendingCall.{PendingCall}
use Rattle.ct_rules_cluster.specs.declared.step.Step.{Step}
use Rattle.ct_rules_cluster.specs.declared.step.Step.TheVariants as step
use Rattle.ct_rules_cluster.specs.declared.step.StepFault.{StepFault}
use Rattle.ct_law_generation.specs.Shown.{labels_of}
use Rattle.ct_law_generation.specs.Waiting.{answerable, told_line, told_lines, told_step}
use Rattle.ct_law_generation.proofs.Hearing.{labels_are}
use Rattle.ct_law_generation.proofs.Putting.{own_node, other_node}
use Rattle.ct_law_generation.proofs.Fed.{fed_is}
use Rattle.ct_law_generation.proofs.Faulting.{runs}
use Rattle.ct_law_acts.proofs.Parts.{fate_frames, fate_nodes, sent_more}

-- is the label a node's note, or that it stopped?
unfoldable pub is_note : Label → Bool
is_note (Noted n x) = true
is_note (Stopped n) = true
is_note label = false

-- the messages that were sent, without what became of them
abbrev pub frames_in : Cluster → List Frame
frames_in w = map (λ s. s.frame) w.sent

-- a node took a turn: with the labels of that, and perhaps one before them that is no note
pub record Took_turn (c : Config) (rules : Rules) (w v : Cluster) (ls : List Label) : Type 0 where
  pub node : ℕ
  pub event : Event
  pub first : List Label
  pub pend : List PendingCall
  pub up : is_up node w ≡ true
  pub others : (k : ℕ) → k ≢ node → node_at k v ≡ node_at k w
  pub here : node_at node v ≡ (happens c rules node (begins (node_at node w)) event).node
  pub frames : frames_in v ≡ frames_in w ++ map (λ s. s.frame) (frames_of (happens c rules node (begins (node_at node w)) event).outs)
  pub labels : ls ≡ first ++ labels_of node pend (happens c rules node (begins (node_at node w)) event).outs
  pub aside : list_any is_note first ≡ false

-- a node stopped
pub record Only_stopped (c : Config) (w v : Cluster) (ls : List Label) : Type 0 where
  pub node : ℕ
  pub up : is_up node w ≡ true
  pub others : (k : ℕ) → k ≢ node → node_at k v ≡ node_at k w
  pub here : node_at node v ≡ restarted c (node_at node w)
  pub frames : frames_in v ≡ frames_in w
  pub labels : ls ≡ Stopped node ∷ []

-- no node did anything
pub record Stood_still (w v : Cluster) (ls : List Label) : Type 0 where
  pub nodes : (k : ℕ) → node_at k v ≡ node_at k w
  pub frames : frames_in v ≡ frames_in w
  pub aside : list_any is_note ls ≡ false

abbrev pub Acts : Config → Rules → Cluster → Cluster → List Label → Type 0
Acts c rules w v ls = Took_turn c rules w v ls ⊎ Only_stopped c w v ls ⊎ Stood_still w v ls

-- ---- small words

same_at : (w v : Cluster) → v.nodes ≡ w.nodes → (k : ℕ) → node_at k v ≡ node_at k w
unfolding node_at
same_at w v e k = ap (λ (ns : List Node). or_absent (slice_get ns k)) e

begun_aside : (n call : ℕ) (o : ClientOp) (ls : List Line) → list_any is_note (begun_by n call o ls) ≡ false
unfolding begun_by is_note
begun_aside n call (op.Commit db ws) ls = by (is_refused call ls)
  where
    by : (b : Bool) → list_any is_note (cond b [] (Begun n db ws ∷ [])) ≡ false
    by true = refl
    by false = refl
begun_aside n call o ls = refl

-- ---- each step

module _ (c : Config) (rules : Rules) (w : Cluster) (there : (n : ℕ) → is_up n w ≡ true → n < length w.nodes) where
  abbrev turn : ℕ → Event → Turn
  turn n e = happens c rules n (begins (node_at n w)) e

  fed_acts : (n : ℕ) (e : Event) (own : List Line) (v : Cluster) (s : Step) (first : List Line → List Label) (pend : List PendingCall) (x : Stepped) → v.nodes ≡ w.nodes → frames_in v ≡ frames_in w → is_up n w ≡ true → fed c rules n e own v ≡ Ok x →
      ((k : ℕ) (u : Turn) → told_step w s (own ++ lines_of n k u.outs) ≡ first (lines_of n k u.outs) ++ labels_of n pend u.outs) → ((ls : List Line) → list_any is_note (first ls) ≡ false) → Acts c rules w x.cluster (told_step w s x.lines)
  unfolding put with_node node_at
  fed_acts n e own v s first pend x same frames up is told aside =
      let f = fed_is c rules n e own v x is in
      let node : node_at n v ≡ node_at n w = same_at w v same n in
      let k = length v.sent + 1 in
      let u : Turn = turn n e in
      subst (λ (y : Stepped). Acts c rules w y.cluster (told_step w s y.lines)) (sym f.1)
      (subst (λ (z : Node). (let t = happens c rules n (begins z) e in Acts c rules w (put n t own v).cluster (told_step w s (own ++ lines_of n k t.outs)))) (sym node)
      (inl (record {
        node = n;
        event = e;
        first = first (lines_of n k u.outs);
        pend = pend;
        up = up;
        others = λ j ne. other_node n j u.node v ne ∙ same_at w v same j;
        here = own_node n u.node v (subst (λ (ns : List Node). n < length ns) (sym same) (there n up));
        frames = sent_more v.sent (frames_of u.outs) ∙ ap (λ (xs : List Frame). xs ++ map (λ (s : Sent). s.frame) (frames_of u.outs)) frames;
        labels = told k u;
        aside = aside (lines_of n k u.outs);
      })))

  ok_is : (v : Cluster) (ls : List Line) (x : Stepped) → done ls v ≡ Ok x → record { cluster = v; lines = ls } ≡ x
  unfolding done
  ok_is v ls x e = cc

  -- a step without a turn, which tells these labels
  still_acts : (v : Cluster) (st : Step) (ls : List Line) (labels : List Label) (x : Stepped) → done ls v ≡ Ok x → v.nodes ≡ w.nodes → frames_in v ≡ frames_in w → told_step w st ls ≡ labels → list_any is_note labels ≡ false → Acts c rules w x.cluster (told_step w st x.lines)
  still_acts v st ls labels x ok same frames told aside = subst (λ (y : Stepped). Acts c rules w y.cluster (told_step w st y.lines)) (ok_is v ls x ok)
      (subst (λ (l : List Label). Acts c rules w v l) (sym told) (inr (inr (record { nodes = same_at w v same; frames = frames; aside = aside }))))

  arrive_acts : (k : ℕ) (s : Sent) (st : Step) (v : Cluster) (x : Stepped) → v.nodes ≡ w.nodes → frames_in v ≡ frames_in w → is_up s.frame.receiver w ≡ true → fed c rules s.frame.receiver (event.Arrive s.frame) [] v ≡ Ok x →
      ((j : ℕ) (u : Turn) → told_step w st (lines_of s.frame.receiver j u.outs) ≡ labels_of s.frame.receiver (pending w) u.outs) → Acts c rules w x.cluster (told_step w st x.lines)
  arrive_acts k s st v x same frames up ok told = fed_acts s.frame.receiver (event.Arrive s.frame) [] v st (λ ls. []) (pending w) x same frames up ok told (λ ls. refl)

  deliver_acts : (k : ℕ) (o : Option Sent) (x : Stepped) → sent_at k w ≡ o → deliver c rules k w o ≡ Ok x → Acts c rules w x.cluster (told_step w (step.Deliver k) x.lines)
  unfolding deliver told_step own_labels answerable told_lines told_line
  deliver_acts k None x is ok = still_acts w (step.Deliver k) [] [] x ok refl refl refl refl
  deliver_acts k (Some s) x is ok = by (is_up s.frame.receiver w) refl ok
    where
      by : (b : Bool) → is_up s.frame.receiver w ≡ b → cond b (fed c rules s.frame.receiver (event.Arrive s.frame) [] (with_fate k s Delivered w)) (done (line.Lost k ∷ []) (with_fate k s Dropped w)) ≡ Ok x → Acts c rules w x.cluster (told_step w (step.Deliver k) x.lines)
      by true up ok = arrive_acts k s (step.Deliver k) (with_fate k s Delivered w) x (fate_nodes k s Delivered w) (fate_frames k s Delivered w is) up ok (λ j u. labels_are (step.Deliver k) s.frame.receiver j (pending w) u.outs)
      by false up ok = still_acts (with_fate k s Dropped w) (step.Deliver k) (line.Lost k ∷ []) [] x ok (fate_nodes k s Dropped w) (fate_frames k s Dropped w is) refl refl

  drop_acts : (k : ℕ) (o : Option Sent) (x : Stepped) → sent_at k w ≡ o → drop k w o ≡ Ok x → Acts c rules w x.cluster (told_step w (step.Drop k) x.lines)
  unfolding drop told_step own_labels answerable told_lines
  drop_acts k None x is ok = still_acts w (step.Drop k) [] [] x ok refl refl refl refl
  drop_acts k (Some s) x is ok = still_acts (with_fate k s Dropped w) (step.Drop k) [] [] x ok (fate_nodes k s Dropped w) (fate_frames k s Dropped w is) refl refl

  repeat_acts : (k : ℕ) (o : Option Sent) (x : Stepped) → sent_at k w ≡ o → repeat c rules k w o ≡ Ok x → Acts c rules w x.cluster (told_step w (step.Repeat k) x.lines)
  unfolding repeat told_step own_labels answerable told_lines told_line
  repeat_acts k None x is ok = still_acts w (step.Repeat k) [] [] x ok refl refl refl refl
  repeat_acts k (Some s) x is ok = by (is_up s.frame.receiver w) refl ok
    where
      by : (b : Bool) → is_up s.frame.receiver w ≡ b → cond b (fed c rules s.frame.receiver (event.Arrive s.frame) [] w) (done (line.Lost k ∷ []) w) ≡ Ok x → Acts c rules w x.cluster (told_step w (step.Repeat k) x.lines)
      by true up ok = arrive_acts k s (step.Repeat k) w x refl refl up ok (λ j u. labels_are (step.Repeat k) s.frame.receiver j (pending w) u.outs)
      by false up ok = still_acts w (step.Repeat k) (line.Lost k ∷ []) [] x ok refl refl refl refl

  gone_told : (s : Step) (calls xs : List PendingCall) → told_lines s calls (gone xs) ≡ []
  unfolding gone told_lines told_line
  gone_told s calls [] = refl
  gone_told s calls (p ∷ xs) = gone_told s calls xs

  stop_acts : (n : ℕ) (x : Stepped) → is_up n w ≡ true → stop c n w ≡ Ok x → Acts c rules w x.cluster (told_step w (step.Stop n) x.lines)
  unfolding stop told_step own_labels answerable told_lines told_line with_node
  stop_acts n x up ok =
      let y : Node = restarted c (node_at n w) in
      let v : Cluster = record (with_node n y w) { running = set w.running n false; holder = without_holder n w.holder } in
      subst (λ (z : Stepped). Acts c rules w z.cluster (told_step w (step.Stop n) z.lines)) (ok_is v (line.Stopped n ∷ gone (pending_at n w)) x ok)
      (subst (λ (l : List Label). Acts c rules w v (Stopped n ∷ l)) (sym (gone_told (step.Stop n) (pending w) (pending_at n w))) (inr (inl (record {
        node = n;
        up = up;
        others = λ k ne. same_at (with_node n y w) v refl k ∙ other_node n k y w ne;
        here = same_at (with_node n y w) v refl n ∙ own_node n y w (there n up);
        frames = refl;
        labels = refl;
      }))))

  taken_acts : (s : Step) (x : Stepped) → fault_of c w s ≡ None → steps c rules w s ≡ Ok x → Acts c rules w x.cluster (told_step w s x.lines)
  unfolding fault_of steps recover told_step own_labels answerable told_lines told_line members_of is_note
  taken_acts (step.Client n o) x e ok = fed_acts n (event.Client (w.calls + 1) o) [] (record w { calls = w.calls + 1 }) (step.Client n o) (λ ls. begun_by n (w.calls + 1) o ls) (answerable w (step.Client n o)) x refl refl (runs w n _ _ e) ok
      (λ k u. ap (λ (l : List Label). begun_by n (w.calls + 1) o (lines_of n k u.outs) ++ l) (labels_are (step.Client n o) n k (answerable w (step.Client n o)) u.outs)) (λ ls. begun_aside n (w.calls + 1) o ls)
  taken_acts (step.Deliver k) x e ok = deliver_acts k (sent_at k w) x refl ok
  taken_acts (step.Drop k) x e ok = drop_acts k (sent_at k w) x refl ok
  taken_acts (step.Repeat k) x e ok = repeat_acts k (sent_at k w) x refl ok
  taken_acts (step.Retry n) x e ok = fed_acts n event.Retry [] w (step.Retry n) (λ ls. []) (pending w) x refl refl (runs w n _ _ e) ok (λ k u. labels_are (step.Retry n) n k (pending w) u.outs) (λ ls. refl)
  taken_acts (step.Vacuum n db) x e ok = fed_acts n (event.Vacuum db) [] w (step.Vacuum n db) (λ ls. []) (pending w) x refl refl (runs w n _ _ e) ok (λ k u. labels_are (step.Vacuum n db) n k (pending w) u.outs) (λ ls. refl)
  taken_acts (step.Recover n members) x e ok = fed_acts n (event.BeginRound (w.ticket + 1) members) (line.Ticket (w.ticket + 1) n ∷ []) (record w { holder = Some n; ticket = w.ticket + 1 }) (step.Recover n members) (λ ls. Ticket (w.ticket + 1) n members ∷ []) (pending w) x refl refl (runs w n _ _ e) ok
      (λ k u. ap (λ (l : List Label). Ticket (w.ticket + 1) n members ∷ l) (labels_are (step.Recover n members) n k (pending w) u.outs)) (λ ls. refl)
  taken_acts (step.Yield n) x e ok = still_acts (record w { holder = None }) (step.Yield n) (line.Yielded n ∷ []) (Yielded n ∷ []) x ok refl refl refl refl
  taken_acts (step.Stop n) x e ok = stop_acts n x (runs w n _ _ e) ok
  taken_acts (step.Start n) x e ok = still_acts (record w { running = set w.running n true }) (step.Start n) (line.Started n ∷ []) (Started n ∷ []) x ok refl refl refl refl
  taken_acts (step.Takeover n) x e ok = fed_acts n (event.BeginTakeover (able_from 0 w.able)) [] w (step.Takeover n) (λ ls. Takeover n (able_from 0 w.able) ∷ []) (pending w) x refl refl (runs w n _ _ e) ok
      (λ k u. ap (λ (l : List Label). Takeover n (able_from 0 w.able) ∷ l) (labels_are (step.Takeover n) n k (pending w) u.outs)) (λ ls. refl)
  taken_acts (step.Able n able) x e ok = still_acts (record w { able = set w.able n able }) (step.Able n able) [] [] x ok refl refl refl refl

  or_taken : (s : Step) (f : Option StepFault) (x : Stepped) → fault_of c w s ≡ f → steps_or c rules w s f ≡ Ok x → Acts c rules w x.cluster (told_step w s x.lines)
  unfolding steps_or
  or_taken s (Some f) x e ok = absurd (cc)
  or_taken s None x e ok = taken_acts s x e ok

  -- whatever step is taken
  pub step_acts : (s : Step) (x : Stepped) → applied c rules w s ≡ Ok x → Acts c rules w x.cluster (told_step w s x.lines)
  unfolding applied
  step_acts s x ok = or_taken s (fault_of c w s) x refl ok
