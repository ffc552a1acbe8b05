-- After a step that is not refused the parts are in form.
use Rattle.std.proofs.Common.{◌≡◌, ◌∙◌, ℕ, zero, suc, ◌+◌, Bool, true, false, cond, ◌&&◌, List, length, Option, Some, None, Ok, Err, refl, sym, ap, subst}
use Rattle.std.specs.Prelude.{◌^◌, Result, nat_lt, slice_set}
use Rattle.std.proofs.lemmas.Bool.{cond_both}
use Rattle.std.proofs.lemmas.List.{length-set}
use Rattle.ct_values.specs.declared.config.Config.{Config}
use Rattle.ct_frame.specs.declared.event.Event.{Event}
use Rattle.ct_frame.specs.declared.event.Event.TheVariants as event
use Rattle.ct_call.specs.Rules.{Rules}
use Rattle.ct_rules_cluster.specs.Cluster.{Cluster, Dropped, Delivered, Fate, Sent, able_from, is_up, node_at, sent_at, World}
use Rattle.ct_rules_cluster.specs.Faults.{fault_of}
use Rattle.ct_rules_cluster.specs.Steps.{Stepped, applied, deliver, done, drop, fed, fed_of, if_counted, is_counted, put, recover, repeat, steps, steps_or, stop, with_fate, with_node}
use Rattle.ct_rules_cluster.specs.declared.step.Line.{Line}
use Rattle.ct_rules_cluster.specs.declared.step.Step.{Step}
use Rattle.ct_rules_cluster.specs.declared.step.Step.TheVariants as step
use Rattle.ct_rules_cluster.specs.declared.step.StepFault.{StepFault}
use Rattle.ct_rules_cluster.specs.declared.step.StepFault.TheVariants as fault
use Rattle.ct_law_form_cluster.specs.Form.{ClusterInForm}
use Rattle.ct_law_form_cluster.proofs.WholeCluster.{stays_in_form}
use Rattle.ct_rules_node.specs.Steps.{stepped}
use Rattle.ct_rules_node.specs.Turn.{Turn}
use Rattle.ct_world.specs.Feeding.{MayTake, Takes}
use Rattle.ct_world.specs.World.{Applies, AreSeated, PartsInForm, cluster_of, world_of}
use Rattle.ct_world.specs.declared.parts.Parts.{Parts}

-- as many marks as before, and no number that reaches its limit where none did
record Sized (w v : Cluster) : Type 0 where
  running : length v.running ≡ length w.running
  able : length v.able ≡ length w.able
  counted : is_counted w ≡ true → is_counted v ≡ true

-- ---- parts of a rule

counted_sized : (w : Cluster) (s x : Stepped) → length s.cluster.running ≡ length w.running → length s.cluster.able ≡ length w.able → if_counted s ≡ Ok x → Sized w x.cluster
unfolding if_counted
counted_sized w s x a b ok = by (is_counted s.cluster) refl ok
  where
    by : (k : Bool) → is_counted s.cluster ≡ k → cond k (Ok s) (Err fault.Exhausted) ≡ Ok x → Sized w x.cluster
    by true t e = (let same : s ≡ x = cc in subst (λ (y : Stepped). Sized w y.cluster) same (record { running = a; able = b; counted = λ _. t }))
    by false t e = absurd (cc)

fed_of_sized : (w v : Cluster) (n : ℕ) (own : List Line) (o : Option Turn) (x : Stepped) → v.running ≡ w.running → v.able ≡ w.able → fed_of n own v o ≡ Ok x → Sized w x.cluster
unfolding fed_of put with_node
fed_of_sized w v n own None x a b ok = absurd (cc)
fed_of_sized w v n own (Some t) x a b ok = counted_sized w (put n t own v) x (ap length a) (ap length b) ok

fed_sized : (c : Config) (rules : Rules) (n : ℕ) (e : Event) (own : List Line) (w v : Cluster) (x : Stepped) → v.running ≡ w.running → v.able ≡ w.able → fed c rules n e own v ≡ Ok x → Sized w x.cluster
unfolding fed
fed_sized c rules n e own w v x a b ok = fed_of_sized w v n own (stepped c rules n e (node_at n v)) x a b ok

done_sized : (w v : Cluster) (lines : List Line) (x : Stepped) → Sized w v → done lines v ≡ Ok x → Sized w x.cluster
unfolding done
done_sized w v lines x h ok = (let same : record { cluster = v; lines = lines } ≡ x = cc in subst (λ (y : Stepped). Sized w y.cluster) same h)

sized : (w : Cluster) → Sized w w
sized w = record { running = refl; able = refl; counted = λ t. t }

fate_sized : (w : Cluster) (k : ℕ) (s : Sent) (f : Fate) → Sized w (with_fate k s f w)
unfolding with_fate is_counted
fate_sized w zero s f = sized w
fate_sized w (suc k) s f = record { running = refl; able = refl; counted = λ t. subst (λ (l : ℕ). (nat_lt l (2 ^ 62) && nat_lt w.ticket (2 ^ 62) && nat_lt w.calls (2 ^ 62)) ≡ true) (sym (length-set w.sent k (record s { fate = f }))) t }

fate_running : (w : Cluster) (k : ℕ) (s : Sent) (f : Fate) → (with_fate k s f w).running ≡ w.running
unfolding with_fate
fate_running w zero s f = refl
fate_running w (suc k) s f = refl

fate_able : (w : Cluster) (k : ℕ) (s : Sent) (f : Fate) → (with_fate k s f w).able ≡ w.able
unfolding with_fate
fate_able w zero s f = refl
fate_able w (suc k) s f = refl

deliver_sized : (c : Config) (rules : Rules) (k : ℕ) (w : Cluster) (o : Option Sent) (x : Stepped) → deliver c rules k w o ≡ Ok x → Sized w x.cluster
unfolding deliver
deliver_sized c rules k w None x ok = done_sized w w _ x (sized w) ok
deliver_sized c rules k w (Some s) x ok = cond_both (is_up s.frame.receiver w) _ _ (λ (r : Result Stepped StepFault). r ≡ Ok x → Sized w x.cluster)
    (λ _ e. fed_sized c rules s.frame.receiver (event.Arrive s.frame) _ w (with_fate k s Delivered w) x (fate_running w k s Delivered) (fate_able w k s Delivered) e)
    (λ _ e. done_sized w (with_fate k s Dropped w) _ x (fate_sized w k s Dropped) e) ok

drop_sized : (k : ℕ) (w : Cluster) (o : Option Sent) (x : Stepped) → drop k w o ≡ Ok x → Sized w x.cluster
unfolding drop
drop_sized k w None x ok = done_sized w w _ x (sized w) ok
drop_sized k w (Some s) x ok = done_sized w (with_fate k s Dropped w) _ x (fate_sized w k s Dropped) ok

repeat_sized : (c : Config) (rules : Rules) (k : ℕ) (w : Cluster) (o : Option Sent) (x : Stepped) → repeat c rules k w o ≡ Ok x → Sized w x.cluster
unfolding repeat
repeat_sized c rules k w None x ok = done_sized w w _ x (sized w) ok
repeat_sized c rules k w (Some s) x ok = cond_both (is_up s.frame.receiver w) _ _ (λ (r : Result Stepped StepFault). r ≡ Ok x → Sized w x.cluster)
    (λ _ e. fed_sized c rules s.frame.receiver (event.Arrive s.frame) _ w w x refl refl e) (λ _ e. done_sized w w _ x (sized w) e) ok

-- marks and the holder of the recovery lock are not counted
marked_sized : (w : Cluster) (running able : List Bool) (holder : Option ℕ) → length running ≡ length w.running → length able ≡ length w.able → Sized w (record w { running = running; able = able; holder = holder })
unfolding is_counted
marked_sized w running able holder a b = record { running = a; able = b; counted = λ t. t }

stop_sized : (c : Config) (n : ℕ) (w : Cluster) (x : Stepped) → stop c n w ≡ Ok x → Sized w x.cluster
unfolding stop with_node is_counted
stop_sized c n w x ok = done_sized w _ _ x (record { running = length-set w.running n false; able = refl; counted = λ t. t }) ok

recover_sized : (c : Config) (rules : Rules) (n : ℕ) (members : List ℕ) (w : Cluster) (x : Stepped) → recover c rules n members w ≡ Ok x → Sized w x.cluster
unfolding recover
recover_sized c rules n members w x ok = fed_sized c rules n (event.BeginRound (w.ticket + 1) members) _ w (record w { holder = Some n; ticket = w.ticket + 1 }) x refl refl ok

-- ---- every step

steps_sized : (c : Config) (rules : Rules) (w : Cluster) (s : Step) (x : Stepped) → steps c rules w s ≡ Ok x → Sized w x.cluster
unfolding steps
steps_sized c rules w (step.Client n o) x ok = fed_sized c rules n (event.Client (w.calls + 1) o) _ w (record w { calls = w.calls + 1 }) x refl refl ok
steps_sized c rules w (step.Deliver k) x ok = deliver_sized c rules k w (sent_at k w) x ok
steps_sized c rules w (step.Drop k) x ok = drop_sized k w (sent_at k w) x ok
steps_sized c rules w (step.Repeat k) x ok = repeat_sized c rules k w (sent_at k w) x ok
steps_sized c rules w (step.Retry n) x ok = fed_sized c rules n event.Retry _ w w x refl refl ok
steps_sized c rules w (step.Vacuum n db) x ok = fed_sized c rules n (event.Vacuum db) _ w w x refl refl ok
steps_sized c rules w (step.Recover n members) x ok = recover_sized c rules n members w x ok
steps_sized c rules w (step.Yield n) x ok = done_sized w _ _ x (marked_sized w w.running w.able None refl refl) ok
steps_sized c rules w (step.Stop n) x ok = stop_sized c n w x ok
steps_sized c rules w (step.Start n) x ok = done_sized w _ _ x (marked_sized w (slice_set w.running n true) w.able w.holder (length-set w.running n true) refl) ok
steps_sized c rules w (step.Takeover n) x ok = fed_sized c rules n (event.BeginTakeover (able_from 0 w.able)) _ w w x refl refl ok
steps_sized c rules w (step.Able n able) x ok = done_sized w _ _ x (marked_sized w w.running (slice_set w.able n able) w.holder refl (length-set w.able n able)) ok

-- ---- a step and its rule

-- a step that is not refused is that of the whole rule
pub not_refused : (c : Config) (rules : Rules) (w : Cluster) (s : Step) → fault_of c w s ≡ None → applied c rules w s ≡ steps c rules w s
unfolding applied steps_or
not_refused c rules w s e = ap (steps_or c rules w s) e

-- one that is refused changes nothing
refuses_by : {X : Type 0} (lines : X → List Line) (f : StepFault) (rule : Result Stepped StepFault) (v : World) → rule ≡ Err f → Applies lines (Err f) rule v v
refuses_by lines fault.NoMemory rule v e = refl
refuses_by lines _ rule v e = (e, refl)

pub is_refused : {X : Type 0} (lines : X → List Line) (c : Config) (rules : Rules) (w : Cluster) (s : Step) (f : StepFault) (v : World) → fault_of c w s ≡ Some f → Applies lines (Err f) (applied c rules w s) v v
unfolding applied steps_or
is_refused lines c rules w s f v e = refuses_by lines f (applied c rules w s) v (ap (steps_or c rules w s) e)

-- ---- in form

grown : (rules : Rules) (s : Step) (old new : Parts) (x : Stepped) → MayTake s old → steps old.config rules (cluster_of old) s ≡ Ok x → x.cluster ≡ cluster_of new → world_of new ≡ record (world_of old) { cluster = cluster_of new } → AreSeated new.config new.cores → PartsInForm new
grown rules s old new x may ok is same seats =
    let h = steps_sized old.config rules (cluster_of old) s x ok in
    let c : old.config ≡ new.config = sym (ap (λ (v : World). v.config) same) in
    let inform = stays_in_form old.config rules (cluster_of old) s x may.form.cluster may.allowed (not_refused old.config rules (cluster_of old) s may.free ∙ ok) in
    record {
      cluster = subst (λ (w : Cluster). ClusterInForm new.config w) is (subst (λ (k : Config). ClusterInForm k x.cluster) c inform);
      seats = seats;
      running = subst (λ (w : Cluster). length w.running ≡ new.config.nodes) is (h.running ∙ may.form.running ∙ ap (λ (k : Config). k.nodes) c);
      able = subst (λ (w : Cluster). length w.able ≡ new.config.nodes) is (h.able ∙ may.form.able ∙ ap (λ (k : Config). k.nodes) c);
      counted = subst (λ (w : Cluster). is_counted w ≡ true) is (h.counted may.form.counted);
    }

unchanged : (old new : Parts) → PartsInForm old → world_of new ≡ world_of old → AreSeated new.config new.cores → PartsInForm new
unchanged old new f same seats = record {
  cluster = subst (λ (v : World). ClusterInForm v.config v.cluster) (sym same) f.cluster;
  seats = seats;
  running = subst (λ (v : World). length v.cluster.running ≡ v.config.nodes) (sym same) f.running;
  able = subst (λ (v : World). length v.cluster.able ≡ v.config.nodes) (sym same) f.able;
  counted = subst (λ (v : World). is_counted v.cluster ≡ true) (sym same) f.counted;
}

refused : {X : Type 0} (lines : X → List Line) (f : StepFault) (rule : Result Stepped StepFault) (v w : World) → Applies lines (Err f) rule v w → w ≡ v
refused lines fault.NoMemory rule v w h = h
refused lines _ rule v w h = h.1

-- whatever comes of a step
pub stays : {X : Type 0} (lines : X → List Line) (r : Result X StepFault) (rules : Rules) (s : Step) (old new : Parts) → MayTake s old → Takes lines r rules s old new → AreSeated new.config new.cores → PartsInForm new
stays lines (Ok x) rules s old new may h seats = grown rules s old new (record { cluster = cluster_of new; lines = lines x }) may h.0 refl h.1 seats
stays lines (Err f) rules s old new may h seats = unchanged old new may.form (refused lines f _ (world_of old) (world_of new) h) seats
