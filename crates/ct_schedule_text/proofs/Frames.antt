-- The last message that the lines of steps tell of is the last one that was sent.
use Rattle.std.proofs.Common.{◌≡◌, ◌∙◌, ◌+◌, ◌++◌, ℕ, zero, suc, Bool, true, false, cond, List, [], ◌∷◌, length, Option, None, Some, Result, Ok, Err, refl, sym, ap, subst, arith, length-append, length-set}
use Rattle.std.specs.Prelude.{slice_set}
use Rattle.ct_call.specs.Rules.{Rules}
use Rattle.ct_values.specs.declared.config.Config.{Config}
use Rattle.ct_frame.specs.declared.event.Event.{Event}
use Rattle.ct_frame.specs.declared.event.Event.TheVariants as event
use Rattle.ct_frame.specs.declared.event.Out.{Out}
use Rattle.ct_frame.specs.declared.event.Out.TheVariants as out
use Rattle.ct_rules_node.specs.Turn.{Turn}
use Rattle.ct_rules_node.specs.Steps.{stepped}
use Rattle.ct_rules_cluster.specs.Cluster.{Cluster, Delivered, Dropped, Fate, Sent, able_from, is_up, node_at, pending_at, sent_at}
use Rattle.ct_rules_cluster.specs.Faults.{fault_of}
use Rattle.ct_rules_cluster.specs.Steps.{Stepped, applied, deliver, done, drop, fed, fed_of, frames_of, gone, if_counted, is_counted, lines_of, put, recover, repeat, steps, steps_or, stop, with_fate, with_node}
use Rattle.ct_rules_cluster.specs.declared.step.Line.{Line}
use Rattle.ct_rules_cluster.specs.declared.step.Line.TheVariants as line
use Rattle.ct_rules_cluster.specs.declared.step.PendingCall.{PendingCall}
use Rattle.ct_rules_cluster.specs.declared.step.Step.{Step}
use Rattle.ct_rules_cluster.specs.declared.step.Step.TheVariants as step
use Rattle.ct_rules_cluster.specs.declared.step.StepFault.{StepFault}
use Rattle.ct_rules_cluster.specs.declared.step.StepFault.TheVariants as fault
use Rattle.ct_schedule_text.specs.Counted.{if_taken, last_frame, step_done, steps_done}

-- ---- lines

pub frame_on : (n : ℕ) (xs ys : List Line) → last_frame n (xs ++ ys) ≡ last_frame (last_frame n xs) ys
frame_on n [] ys = refl
frame_on n (x ∷ xs) ys = frame_on _ xs ys

-- those of a node number its messages one after the other
lines_frame : (n k : ℕ) (outs : List Out) → last_frame k (lines_of n (k + 1) outs) ≡ k + length (frames_of outs)
unfolding lines_of frames_of
lines_frame n k [] = omega arith
lines_frame n k (out.Send f ∷ xs) = omega (arith, lines_frame n (k + 1) xs)
lines_frame n k (out.Answer call a ∷ xs) = lines_frame n k xs
lines_frame n k (out.Note x ∷ xs) = lines_frame n k xs

gone_frame : (k : ℕ) (xs : List PendingCall) → last_frame k (gone xs) ≡ k
unfolding gone
gone_frame k [] = refl
gone_frame k (x ∷ xs) = gone_frame k xs

-- ---- steps

-- from this number, lines lead to that of the messages of a cluster
abbrev Leads : ℕ → List Line → Cluster → Type 0
Leads sent lines w = last_frame sent lines ≡ length w.sent

module _ (sent : ℕ) where
  done_leads : (lines : List Line) (w : Cluster) (x : Stepped) → Leads sent lines w → done lines w ≡ Ok x → Leads sent x.lines x.cluster
  unfolding done
  done_leads lines w x h e = let same : record { cluster = w; lines = lines } ≡ x = cc in
      subst (λ (y : Stepped). Leads sent y.lines y.cluster) same h

  counted_leads : (s x : Stepped) (b : Bool) → Leads sent s.lines s.cluster → cond b (Ok s) (Err fault.Exhausted) ≡ Ok x → Leads sent x.lines x.cluster
  counted_leads s x true h e = let same : s ≡ x = cc in subst (λ (y : Stepped). Leads sent y.lines y.cluster) same h
  counted_leads s x false h e = absurd (cc)

  put_leads : (n : ℕ) (t : Turn) (own : List Line) (w : Cluster) → Leads sent own w → Leads sent (put n t own w).lines (put n t own w).cluster
  unfolding put with_node
  put_leads n t own w h =
      frame_on sent own _ ∙ ap (λ (k : ℕ). last_frame k (lines_of n (length w.sent + 1) t.outs)) h ∙ lines_frame n (length w.sent) t.outs ∙ sym (length-append w.sent (frames_of t.outs))

  fed_leads : (c : Config) (rules : Rules) (n : ℕ) (e : Event) (own : List Line) (w : Cluster) (x : Stepped) → Leads sent own w → fed c rules n e own w ≡ Ok x → Leads sent x.lines x.cluster
  unfolding fed fed_of if_counted
  fed_leads c rules n ev own w x h e = go (stepped c rules n ev (node_at n w)) e
    where
      go : (o : Option Turn) → fed_of n own w o ≡ Ok x → Leads sent x.lines x.cluster
      go None q = absurd (cc)
      go (Some t) q = counted_leads (put n t own w) x (is_counted (put n t own w).cluster) (put_leads n t own w h) q

-- what became of a message is no matter
fated : (k : ℕ) (s : Sent) (f : Fate) (w : Cluster) → length w.sent ≡ length (with_fate k s f w).sent
unfolding with_fate
fated zero s f w = refl
fated (suc k) s f w = sym (length-set w.sent k (record s { fate = f }))

module _ (c : Config) (rules : Rules) (w : Cluster) (x : Stepped) where
  abbrev AllLead : Type 0
  AllLead = Leads (length w.sent) x.lines x.cluster

  deliver_leads : (k : ℕ) (o : Option Sent) → deliver c rules k w o ≡ Ok x → AllLead
  unfolding deliver
  deliver_leads k None e = done_leads (length w.sent) [] w x refl e
  deliver_leads k (Some s) e = go (is_up s.frame.receiver w) e
    where
      go : (b : Bool) → cond b (fed c rules s.frame.receiver (event.Arrive s.frame) [] (with_fate k s Delivered w)) (done (line.Lost k ∷ []) (with_fate k s Dropped w)) ≡ Ok x → AllLead
      go true q = fed_leads (length w.sent) c rules s.frame.receiver (event.Arrive s.frame) [] (with_fate k s Delivered w) x (fated k s Delivered w) q
      go false q = done_leads (length w.sent) (line.Lost k ∷ []) (with_fate k s Dropped w) x (fated k s Dropped w) q

  drop_leads : (k : ℕ) (o : Option Sent) → drop k w o ≡ Ok x → AllLead
  unfolding drop
  drop_leads k None e = done_leads (length w.sent) [] w x refl e
  drop_leads k (Some s) e = done_leads (length w.sent) [] (with_fate k s Dropped w) x (fated k s Dropped w) e

  repeat_leads : (k : ℕ) (o : Option Sent) → repeat c rules k w o ≡ Ok x → AllLead
  unfolding repeat
  repeat_leads k None e = done_leads (length w.sent) [] w x refl e
  repeat_leads k (Some s) e = go (is_up s.frame.receiver w) e
    where
      go : (b : Bool) → cond b (fed c rules s.frame.receiver (event.Arrive s.frame) [] w) (done (line.Lost k ∷ []) w) ≡ Ok x → AllLead
      go true q = fed_leads (length w.sent) c rules s.frame.receiver (event.Arrive s.frame) [] w x refl q
      go false q = done_leads (length w.sent) (line.Lost k ∷ []) w x refl q

  stop_leads : (n : ℕ) → stop c n w ≡ Ok x → AllLead
  unfolding stop with_node
  stop_leads n e = done_leads (length w.sent) (line.Stopped n ∷ gone (pending_at n w)) _ x (gone_frame (length w.sent) (pending_at n w)) e

  recover_leads : (n : ℕ) (members : List ℕ) → recover c rules n members w ≡ Ok x → AllLead
  unfolding recover
  recover_leads n members e =
      fed_leads (length w.sent) c rules n (event.BeginRound (w.ticket + 1) members) (line.Ticket (w.ticket + 1) n ∷ []) (record w { holder = Some n; ticket = w.ticket + 1 }) x refl e

  steps_lead : (s : Step) → steps c rules w s ≡ Ok x → AllLead
  unfolding steps
  steps_lead (step.Client n o) e = fed_leads (length w.sent) c rules n (event.Client (w.calls + 1) o) [] (record w { calls = w.calls + 1 }) x refl e
  steps_lead (step.Deliver k) e = deliver_leads k (sent_at k w) e
  steps_lead (step.Drop k) e = drop_leads k (sent_at k w) e
  steps_lead (step.Repeat k) e = repeat_leads k (sent_at k w) e
  steps_lead (step.Retry n) e = fed_leads (length w.sent) c rules n event.Retry [] w x refl e
  steps_lead (step.Vacuum n db) e = fed_leads (length w.sent) c rules n (event.Vacuum db) [] w x refl e
  steps_lead (step.Recover n members) e = recover_leads n members e
  steps_lead (step.Yield n) e = done_leads (length w.sent) (line.Yielded n ∷ []) (record w { holder = None }) x refl e
  steps_lead (step.Stop n) e = stop_leads n e
  steps_lead (step.Start n) e = done_leads (length w.sent) (line.Started n ∷ []) (record w { running = slice_set w.running n true }) x refl e
  steps_lead (step.Takeover n) e = fed_leads (length w.sent) c rules n (event.BeginTakeover (able_from 0 w.able)) [] w x refl e
  steps_lead (step.Able n able) e = done_leads (length w.sent) [] (record w { able = slice_set w.able n able }) x refl e

  applied_leads : (s : Step) → applied c rules w s ≡ Ok x → AllLead
  unfolding applied steps_or
  applied_leads s e = go (fault_of c w s) e
    where
      go : (o : Option StepFault) → steps_or c rules w s o ≡ Ok x → AllLead
      go None q = steps_lead s q
      go (Some f) q = absurd (cc)

-- a step, and steps one after the other
one_leads : (c : Config) (rules : Rules) (w : Cluster) (s : Step) → Leads (length w.sent) (step_done c rules w s).lines (step_done c rules w s).cluster
one_leads c rules w s = go (applied c rules w s) refl
  where
    go : (r : Result Stepped StepFault) → applied c rules w s ≡ r → Leads (length w.sent) (if_taken w r).lines (if_taken w r).cluster
    go (Ok x) e = applied_leads c rules w x s e
    go (Err f) e = refl

pub all_lead : (c : Config) (rules : Rules) (w : Cluster) (ss : List Step) → Leads (length w.sent) (steps_done c rules w ss).lines (steps_done c rules w ss).cluster
all_lead c rules w [] = refl
all_lead c rules w (s ∷ ss) =
    let x = step_done c rules w s in
    frame_on (length w.sent) x.lines (steps_done c rules x.cluster ss).lines ∙ ap (λ (k : ℕ). last_frame k (steps_done c rules x.cluster ss).lines) (one_leads c rules w s) ∙ all_lead c rules x.cluster ss
