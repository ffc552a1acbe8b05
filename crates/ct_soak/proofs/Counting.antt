-- What the lines of a step tell of its cluster's numbers.
use Rattle.std.proofs.Common.{◌≡◌, ◌∙◌, ◌+◌, ◌<◌, ◌^◌, ◌++◌, ℕ, zero, suc, Bool, true, false, cond, List, [], ◌∷◌, length, Option, None, Some, Ok, Err, refl, sym, ap, subst, arith, length-append, length-set}
use Rattle.std.specs.Prelude.{nat_lt, slice_set, ◌&&◌}
use Rattle.std.proofs.lemmas.Bool.{and_parts, ltb-true}
use Rattle.ct_call.specs.Rules.{Rules}
use Rattle.ct_values.specs.declared.config.Config.{Config}
use Rattle.ct_frame.specs.declared.event.Event.{Event}
use Rattle.ct_frame.specs.declared.event.Event.TheVariants as event
use Rattle.ct_frame.specs.declared.event.Out.{Out}
use Rattle.ct_frame.specs.declared.event.Out.TheVariants as out
use Rattle.ct_rules_node.specs.Turn.{Turn}
use Rattle.ct_rules_node.specs.Steps.{stepped}
use Rattle.ct_rules_cluster.specs.Cluster.{Cluster, Delivered, Dropped, Fate, Sent, able_from, is_up, node_at, pending_at, sent_at, World}
use Rattle.ct_rules_cluster.specs.Faults.{fault_of}
use Rattle.ct_rules_cluster.specs.Steps.{Stepped, applied, deliver, done, drop, fed, fed_of, frames_of, gone, if_counted, is_counted, lines_of, put, recover, repeat, steps, steps_or, stop, with_fate, with_node}
use Rattle.ct_rules_cluster.specs.declared.step.Line.{Line}
use Rattle.ct_rules_cluster.specs.declared.step.Line.TheVariants as line
use Rattle.ct_rules_cluster.specs.declared.step.PendingCall.{PendingCall}
use Rattle.ct_rules_cluster.specs.declared.step.Step.{Step}
use Rattle.ct_rules_cluster.specs.declared.step.Step.TheVariants as step
use Rattle.ct_rules_cluster.specs.declared.step.StepFault.{StepFault}
use Rattle.ct_rules_cluster.specs.declared.step.StepFault.TheVariants as fault
use Rattle.ct_soak.specs.Counts.{IsCounted, calls_after, last_sent, last_ticket}

-- ---- lines

sent_on : (n : ℕ) (xs ys : List Line) → last_sent n (xs ++ ys) ≡ last_sent (last_sent n xs) ys
sent_on n [] ys = refl
sent_on n (x ∷ xs) ys = sent_on _ xs ys

ticket_on : (t : ℕ) (xs ys : List Line) → last_ticket t (xs ++ ys) ≡ last_ticket (last_ticket t xs) ys
ticket_on t [] ys = refl
ticket_on t (x ∷ xs) ys = ticket_on _ xs ys

-- those of a node number its messages one after the other
lines_sent : (n k : ℕ) (outs : List Out) → last_sent k (lines_of n (k + 1) outs) ≡ k + length (frames_of outs)
unfolding lines_of frames_of
lines_sent n k [] = omega arith
lines_sent n k (out.Send f ∷ xs) = omega (arith, lines_sent n (k + 1) xs)
lines_sent n k (out.Answer call a ∷ xs) = lines_sent n k xs
lines_sent n k (out.Note x ∷ xs) = lines_sent n k xs

-- and tell of no ticket
lines_ticket : (n k t : ℕ) (outs : List Out) → last_ticket t (lines_of n k outs) ≡ t
unfolding lines_of
lines_ticket n k t [] = refl
lines_ticket n k t (out.Send f ∷ xs) = lines_ticket n (k + 1) t xs
lines_ticket n k t (out.Answer call a ∷ xs) = lines_ticket n k t xs
lines_ticket n k t (out.Note x ∷ xs) = lines_ticket n k t xs

gone_sent : (k : ℕ) (xs : List PendingCall) → last_sent k (gone xs) ≡ k
unfolding gone
gone_sent k [] = refl
gone_sent k (x ∷ xs) = gone_sent k xs

gone_ticket : (t : ℕ) (xs : List PendingCall) → last_ticket t (gone xs) ≡ t
unfolding gone
gone_ticket t [] = refl
gone_ticket t (x ∷ xs) = gone_ticket t xs

-- ---- steps

-- from these numbers, the lines of the step lead to those of its cluster
record Told (sent ticket calls running : ℕ) (x : Stepped) : Type 0 where
  sent_told : last_sent sent x.lines ≡ length x.cluster.sent
  ticket_told : last_ticket ticket x.lines ≡ x.cluster.ticket
  calls_told : calls ≡ x.cluster.calls
  as_many : length x.cluster.running ≡ running
  below : is_counted x.cluster ≡ true

-- the same, of a cluster and these lines
record Stands (sent ticket calls running : ℕ) (lines : List Line) (w : Cluster) : Type 0 where
  sent_told : last_sent sent lines ≡ length w.sent
  ticket_told : last_ticket ticket lines ≡ w.ticket
  calls_told : calls ≡ w.calls
  as_many : length w.running ≡ running

module _ (sent ticket calls running : ℕ) where
  done_told : (lines : List Line) (w : Cluster) (x : Stepped) → Stands sent ticket calls running lines w → is_counted w ≡ true → done lines w ≡ Ok x → Told sent ticket calls running x
  unfolding done
  done_told lines w x h b e = let same : record { cluster = w; lines = lines } ≡ x = cc in
      subst (Told sent ticket calls running) same (record { sent_told = h.sent_told; ticket_told = h.ticket_told; calls_told = h.calls_told; as_many = h.as_many; below = b })

  counted_told : (s x : Stepped) (b : Bool) → is_counted s.cluster ≡ b → Stands sent ticket calls running s.lines s.cluster → cond b (Ok s) (Err fault.Exhausted) ≡ Ok x → Told sent ticket calls running x
  counted_told s x true b h e = let same : s ≡ x = cc in
      subst (Told sent ticket calls running) same (record { sent_told = h.sent_told; ticket_told = h.ticket_told; calls_told = h.calls_told; as_many = h.as_many; below = b })
  counted_told s x false b h e = absurd (cc)

  put_stands : (n : ℕ) (t : Turn) (own : List Line) (w : Cluster) → Stands sent ticket calls running own w → Stands sent ticket calls running (put n t own w).lines (put n t own w).cluster
  unfolding put with_node
  put_stands n t own w h = record {
    sent_told = sent_on sent own _ ∙ ap (λ (k : ℕ). last_sent k (lines_of n (length w.sent + 1) t.outs)) h.sent_told ∙ lines_sent n (length w.sent) t.outs ∙ sym (length-append w.sent (frames_of t.outs));
    ticket_told = ticket_on ticket own _ ∙ lines_ticket n (length w.sent + 1) (last_ticket ticket own) t.outs ∙ h.ticket_told;
    calls_told = h.calls_told;
    as_many = h.as_many;
  }

  fed_told : (c : Config) (rules : Rules) (n : ℕ) (e : Event) (own : List Line) (w : Cluster) (x : Stepped) → Stands sent ticket calls running own w → fed c rules n e own w ≡ Ok x → Told sent ticket calls running x
  unfolding fed fed_of if_counted
  fed_told c rules n ev own w x h e = go (stepped c rules n ev (node_at n w)) e
    where
      go : (o : Option Turn) → fed_of n own w o ≡ Ok x → Told sent ticket calls running x
      go None q = absurd (cc)
      go (Some t) q = counted_told (put n t own w) x (is_counted (put n t own w).cluster) refl (put_stands n t own w h) q

-- ---- every step, from a cluster whose numbers are below 2^62

-- what became of a message is no matter
fated : (k : ℕ) (s : Sent) (f : Fate) (w : Cluster) → length (with_fate k s f w).sent ≡ length w.sent
unfolding with_fate
fated zero s f w = refl
fated (suc k) s f w = length-set w.sent k (record s { fate = f })

fate_stands : (k : ℕ) (s : Sent) (f : Fate) (lines : List Line) (w : Cluster) → last_sent (length w.sent) lines ≡ length w.sent → last_ticket w.ticket lines ≡ w.ticket
    → Stands (length w.sent) w.ticket w.calls (length w.running) lines (with_fate k s f w)
unfolding with_fate
fate_stands zero s f lines w a b = record { sent_told = a; ticket_told = b; calls_told = refl; as_many = refl }
fate_stands (suc k) s f lines w a b = record { sent_told = a ∙ sym (length-set w.sent k (record s { fate = f })); ticket_told = b; calls_told = refl; as_many = refl }

fate_counted : (k : ℕ) (s : Sent) (f : Fate) (w : Cluster) → is_counted w ≡ true → is_counted (with_fate k s f w) ≡ true
unfolding with_fate is_counted
fate_counted zero s f w h = h
fate_counted (suc k) s f w h = ap (λ (n : ℕ). nat_lt n (2 ^ 62) && nat_lt w.ticket (2 ^ 62) && nat_lt w.calls (2 ^ 62)) (length-set w.sent k (record s { fate = f })) ∙ h

module _ (c : Config) (rules : Rules) (w : Cluster) (x : Stepped) (below : is_counted w ≡ true) where
  abbrev AllTold : ℕ → Type 0
  AllTold calls = Told (length w.sent) w.ticket calls (length w.running) x

  -- nothing but marks and the recovery lock changes
  stays : (lines : List Line) → last_sent (length w.sent) lines ≡ length w.sent → last_ticket w.ticket lines ≡ w.ticket → Stands (length w.sent) w.ticket w.calls (length w.running) lines w
  stays lines a b = record { sent_told = a; ticket_told = b; calls_told = refl; as_many = refl }

  fate_told : (k : ℕ) (s : Sent) (f : Fate) (lines : List Line) → last_sent (length w.sent) lines ≡ length w.sent → last_ticket w.ticket lines ≡ w.ticket
      → done lines (with_fate k s f w) ≡ Ok x → AllTold w.calls
  fate_told k s f lines a b e = done_told _ _ _ _ lines (with_fate k s f w) x (fate_stands k s f lines w a b) (fate_counted k s f w below) e

  deliver_told : (k : ℕ) (o : Option Sent) → deliver c rules k w o ≡ Ok x → AllTold w.calls
  unfolding deliver
  deliver_told k None e = done_told _ _ _ _ [] w x (stays [] refl refl) below e
  deliver_told k (Some s) e = go (is_up s.frame.receiver w) e
    where
      go : (b : Bool) → cond b (fed c rules s.frame.receiver (event.Arrive s.frame) [] (with_fate k s Delivered w)) (done (line.Lost k ∷ []) (with_fate k s Dropped w)) ≡ Ok x → AllTold w.calls
      go true q = fed_told _ _ _ _ c rules s.frame.receiver (event.Arrive s.frame) [] (with_fate k s Delivered w) x (fate_stands k s Delivered [] w refl refl) q
      go false q = fate_told k s Dropped (line.Lost k ∷ []) refl refl q

  drop_told : (k : ℕ) (o : Option Sent) → drop k w o ≡ Ok x → AllTold w.calls
  unfolding drop
  drop_told k None e = done_told _ _ _ _ [] w x (stays [] refl refl) below e
  drop_told k (Some s) e = fate_told k s Dropped [] refl refl e

  repeat_told : (k : ℕ) (o : Option Sent) → repeat c rules k w o ≡ Ok x → AllTold w.calls
  unfolding repeat
  repeat_told k None e = done_told _ _ _ _ [] w x (stays [] refl refl) below e
  repeat_told k (Some s) e = go (is_up s.frame.receiver w) e
    where
      go : (b : Bool) → cond b (fed c rules s.frame.receiver (event.Arrive s.frame) [] w) (done (line.Lost k ∷ []) w) ≡ Ok x → AllTold w.calls
      go true q = fed_told _ _ _ _ c rules s.frame.receiver (event.Arrive s.frame) [] w x (stays [] refl refl) q
      go false q = done_told _ _ _ _ (line.Lost k ∷ []) w x (stays (line.Lost k ∷ []) refl refl) below q

  stop_told : (n : ℕ) → stop c n w ≡ Ok x → AllTold w.calls
  unfolding stop with_node is_counted
  stop_told n e = done_told _ _ _ _ (line.Stopped n ∷ gone (pending_at n w)) _ x (record {
    sent_told = gone_sent (length w.sent) (pending_at n w);
    ticket_told = gone_ticket w.ticket (pending_at n w);
    calls_told = refl;
    as_many = length-set w.running n false;
  }) below e

  start_told : (n : ℕ) → done (line.Started n ∷ []) (record w { running = slice_set w.running n true }) ≡ Ok x → AllTold w.calls
  unfolding is_counted
  start_told n e = done_told _ _ _ _ (line.Started n ∷ []) (record w { running = slice_set w.running n true }) x (record { sent_told = refl; ticket_told = refl; calls_told = refl; as_many = length-set w.running n true }) below e

  yield_told : (n : ℕ) → done (line.Yielded n ∷ []) (record w { holder = None }) ≡ Ok x → AllTold w.calls
  unfolding is_counted
  yield_told n e = done_told _ _ _ _ (line.Yielded n ∷ []) (record w { holder = None }) x (record { sent_told = refl; ticket_told = refl; calls_told = refl; as_many = refl }) below e

  able_told : (n : ℕ) (able : Bool) → done [] (record w { able = slice_set w.able n able }) ≡ Ok x → AllTold w.calls
  unfolding is_counted
  able_told n able e = done_told _ _ _ _ [] (record w { able = slice_set w.able n able }) x (record { sent_told = refl; ticket_told = refl; calls_told = refl; as_many = refl }) below e

  recover_told : (n : ℕ) (members : List ℕ) → recover c rules n members w ≡ Ok x → AllTold w.calls
  unfolding recover
  recover_told n members e = fed_told _ _ _ _ c rules n (event.BeginRound (w.ticket + 1) members) (line.Ticket (w.ticket + 1) n ∷ []) (record w { holder = Some n; ticket = w.ticket + 1 }) x
      (record { sent_told = refl; ticket_told = refl; calls_told = refl; as_many = refl }) e

  steps_told : (s : Step) → steps c rules w s ≡ Ok x → AllTold (calls_after w.calls s)
  unfolding steps
  steps_told (step.Client n o) e = fed_told _ _ _ _ c rules n (event.Client (w.calls + 1) o) [] (record w { calls = w.calls + 1 }) x
      (record { sent_told = refl; ticket_told = refl; calls_told = refl; as_many = refl }) e
  steps_told (step.Deliver k) e = deliver_told k (sent_at k w) e
  steps_told (step.Drop k) e = drop_told k (sent_at k w) e
  steps_told (step.Repeat k) e = repeat_told k (sent_at k w) e
  steps_told (step.Retry n) e = fed_told _ _ _ _ c rules n event.Retry [] w x (stays [] refl refl) e
  steps_told (step.Vacuum n db) e = fed_told _ _ _ _ c rules n (event.Vacuum db) [] w x (stays [] refl refl) e
  steps_told (step.Recover n members) e = recover_told n members e
  steps_told (step.Yield n) e = yield_told n e
  steps_told (step.Stop n) e = stop_told n e
  steps_told (step.Start n) e = start_told n e
  steps_told (step.Takeover n) e = fed_told _ _ _ _ c rules n (event.BeginTakeover (able_from 0 w.able)) [] w x (stays [] refl refl) e
  steps_told (step.Able n able) e = able_told n able e

  applied_told : (s : Step) → applied c rules w s ≡ Ok x → AllTold (calls_after w.calls s)
  unfolding applied steps_or
  applied_told s e = go (fault_of c w s) e
    where
      go : (o : Option StepFault) → steps_or c rules w s o ≡ Ok x → AllTold (calls_after w.calls s)
      go None q = steps_told s q
      go (Some f) q = absurd (cc)

-- ---- the numbers that are kept

-- a step that is taken keeps them
pub kept : (rules : Rules) (w v : World) (s : Step) (lines : List Line) (sent calls ticket : ℕ) → IsCounted w sent calls ticket
    → applied w.config rules w.cluster s ≡ Ok (record { cluster = v.cluster; lines = lines }) → v ≡ record w { cluster = v.cluster }
    → IsCounted v (last_sent sent lines) (calls_after calls s) (last_ticket ticket lines)
kept rules w v s lines sent calls ticket h e same =
    let t = applied_told w.config rules w.cluster (record { cluster = v.cluster; lines = lines }) h.below s e in
    record {
      config_is = ap (λ (x : World). x.config) same ∙ h.config_is;
      sent_is = ap (λ (n : ℕ). last_sent n lines) h.sent_is ∙ t.sent_told;
      calls_is = ap (λ (n : ℕ). calls_after n s) h.calls_is ∙ t.calls_told;
      ticket_is = ap (λ (n : ℕ). last_ticket n lines) h.ticket_is ∙ t.ticket_told;
      four_nodes = t.as_many ∙ h.four_nodes;
      below = t.below;
    }

parts_below : (w : Cluster) → is_counted w ≡ true → (length w.sent < 2 ^ 62) × (w.calls < 2 ^ 62)
unfolding is_counted
parts_below w h =
    let a = and_parts (nat_lt (length w.sent) (2 ^ 62) && nat_lt w.ticket (2 ^ 62)) (nat_lt w.calls (2 ^ 62)) h in
    let b = and_parts (nat_lt (length w.sent) (2 ^ 62)) (nat_lt w.ticket (2 ^ 62)) a.0 in
    (ltb-true _ _ b.0, ltb-true _ _ a.1)

pub few_sent : (w : World) (sent calls ticket : ℕ) → IsCounted w sent calls ticket → sent < 2 ^ 62
few_sent w sent calls ticket h = let p = parts_below w.cluster h.below in omega (arith, h.sent_is, p.0)

pub few_calls : (w : World) (sent calls ticket : ℕ) → IsCounted w sent calls ticket → calls + 1 < 2 ^ 64
few_calls w sent calls ticket h = let p = parts_below w.cluster h.below in omega (arith, h.calls_is, p.1)
