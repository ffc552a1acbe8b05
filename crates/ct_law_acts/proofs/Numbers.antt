-- A step counts a client's call, and no other.
use Rattle.std.proofs.Common.{◌≡◌, ℕ, zero, suc, ◌+◌, true, false, cond, Bool, List, [], ◌∷◌, set, Option, None, Some, refl, sym, ap, ◌∙◌, subst}
use Rattle.std.specs.Prelude.{Ok}
use Rattle.ct_values.specs.declared.config.Config.{Config}
use Rattle.ct_frame.specs.declared.event.Event.{Event}
use Rattle.ct_frame.specs.declared.event.Event.TheVariants as event
use Rattle.ct_call.specs.Rules.{Rules}
use Rattle.ct_rules_cluster.specs.Cluster.{Cluster, Sent, Fate, Delivered, Dropped, is_up, node_at, sent_at, able_from}
use Rattle.ct_rules_cluster.specs.Faults.{fault_of}
use Rattle.ct_rules_cluster.specs.Steps.{Stepped, with_node, put, fed, done, with_fate, deliver, drop, repeat, stop, recover, steps, steps_or, applied}
use Rattle.ct_rules_cluster.specs.declared.step.Line.{Line}
use Rattle.ct_rules_cluster.specs.declared.step.Line.TheVariants as line
use Rattle.ct_rules_cluster.specs.declared.step.Step.{Step}
use Rattle.ct_rules_cluster.specs.declared.step.Step.TheVariants as step
use Rattle.ct_rules_cluster.specs.declared.step.StepFault.{StepFault}
use Rattle.ct_law_generation.proofs.Fed.{fed_is}
use Rattle.ct_law_acts.proofs.CallerSteps.{is_client}

fed_calls : (c : Config) (rules : Rules) (n : ℕ) (e : Event) (own : List Line) (v : Cluster) (x : Stepped) → fed c rules n e own v ≡ Ok x → x.cluster.calls ≡ v.calls
unfolding put with_node
fed_calls c rules n e own v x is = ap (λ (y : Stepped). y.cluster.calls) (fed_is c rules n e own v x is).1

done_calls : (ls : List Line) (v : Cluster) (x : Stepped) → done ls v ≡ Ok x → x.cluster.calls ≡ v.calls
unfolding done
done_calls ls v x e = (let same : record { cluster = v; lines = ls } ≡ x = cc in ap (λ (y : Stepped). y.cluster.calls) (sym same))

fate_calls : (k : ℕ) (s : Sent) (f : Fate) (w : Cluster) → (with_fate k s f w).calls ≡ w.calls
unfolding with_fate
fate_calls zero s f w = refl
fate_calls (suc k) s f w = refl

module _ (c : Config) (rules : Rules) (w : Cluster) where
  deliver_calls : (k : ℕ) (o : Option Sent) (x : Stepped) → deliver c rules k w o ≡ Ok x → x.cluster.calls ≡ w.calls
  unfolding deliver
  deliver_calls k None x ok = done_calls [] w x ok
  deliver_calls k (Some s) x ok = by (is_up s.frame.receiver w) ok
    where
      by : (b : Bool) → cond b (fed c rules s.frame.receiver (event.Arrive s.frame) [] (with_fate k s Delivered w)) (done (line.Lost k ∷ []) (with_fate k s Dropped w)) ≡ Ok x → x.cluster.calls ≡ w.calls
      by true ok = fed_calls c rules s.frame.receiver (event.Arrive s.frame) [] (with_fate k s Delivered w) x ok ∙ fate_calls k s Delivered w
      by false ok = done_calls (line.Lost k ∷ []) (with_fate k s Dropped w) x ok ∙ fate_calls k s Dropped w

  drop_calls : (k : ℕ) (o : Option Sent) (x : Stepped) → drop k w o ≡ Ok x → x.cluster.calls ≡ w.calls
  unfolding drop
  drop_calls k None x ok = done_calls [] w x ok
  drop_calls k (Some s) x ok = done_calls [] (with_fate k s Dropped w) x ok ∙ fate_calls k s Dropped w

  repeat_calls : (k : ℕ) (o : Option Sent) (x : Stepped) → repeat c rules k w o ≡ Ok x → x.cluster.calls ≡ w.calls
  unfolding repeat
  repeat_calls k None x ok = done_calls [] w x ok
  repeat_calls k (Some s) x ok = by (is_up s.frame.receiver w) ok
    where
      by : (b : Bool) → cond b (fed c rules s.frame.receiver (event.Arrive s.frame) [] w) (done (line.Lost k ∷ []) w) ≡ Ok x → x.cluster.calls ≡ w.calls
      by true ok = fed_calls c rules s.frame.receiver (event.Arrive s.frame) [] w x ok
      by false ok = done_calls (line.Lost k ∷ []) w x ok

  stop_calls : (n : ℕ) (x : Stepped) → stop c n w ≡ Ok x → x.cluster.calls ≡ w.calls
  unfolding stop with_node
  stop_calls n x ok = done_calls _ _ x ok

  -- how many calls there are after it
  abbrev pub counted_by : Step → ℕ
  counted_by s = cond (is_client s) (w.calls + 1) w.calls

  taken_calls : (s : Step) (x : Stepped) → steps c rules w s ≡ Ok x → x.cluster.calls ≡ counted_by s
  unfolding steps recover is_client
  taken_calls (step.Client n o) x ok = fed_calls c rules n (event.Client (w.calls + 1) o) [] (record w { calls = w.calls + 1 }) x ok
  taken_calls (step.Deliver k) x ok = deliver_calls k (sent_at k w) x ok
  taken_calls (step.Drop k) x ok = drop_calls k (sent_at k w) x ok
  taken_calls (step.Repeat k) x ok = repeat_calls k (sent_at k w) x ok
  taken_calls (step.Retry n) x ok = fed_calls c rules n event.Retry [] w x ok
  taken_calls (step.Vacuum n db) x ok = fed_calls c rules n (event.Vacuum db) [] w x ok
  taken_calls (step.Recover n members) x ok = fed_calls c rules n (event.BeginRound (w.ticket + 1) members) (line.Ticket (w.ticket + 1) n ∷ []) (record w { holder = Some n; ticket = w.ticket + 1 }) x ok
  taken_calls (step.Yield n) x ok = done_calls _ (record w { holder = None }) x ok
  taken_calls (step.Stop n) x ok = stop_calls n x ok
  taken_calls (step.Start n) x ok = done_calls _ (record w { running = set w.running n true }) x ok
  taken_calls (step.Takeover n) x ok = fed_calls c rules n (event.BeginTakeover (able_from 0 w.able)) [] w x ok
  taken_calls (step.Able n able) x ok = done_calls _ (record w { able = set w.able n able }) x ok

  or_taken : (s : Step) (f : Option StepFault) (x : Stepped) → steps_or c rules w s f ≡ Ok x → x.cluster.calls ≡ counted_by s
  unfolding steps_or
  or_taken s (Some f) x ok = absurd (cc)
  or_taken s None x ok = taken_calls s x ok

  pub step_calls : (s : Step) (x : Stepped) → applied c rules w s ≡ Ok x → x.cluster.calls ≡ counted_by s
  unfolding applied
  step_calls s x ok = or_taken s (fault_of c w s) x ok
