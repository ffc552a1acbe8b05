-- Every step of a cluster leaves it in form.
use Rattle.std.proofs.Common.{◌≡◌, ◌≢◌, ℕ, zero, suc, ◌+◌, ◌<◌, Bool, true, false, cond, ◌&&◌, List, [], ◌∷◌, length, set, Option, Some, None, Ok, Err, refl, sym, ◌∙◌, ap, subst, arith}
use Rattle.std.proofs.lemmas.Bool.{and_from, and_parts, cond_both, eqb-false, eqb-true, lt-ltb, ltb-true}
use Rattle.std.proofs.lemmas.List.{length-set}
use Rattle.std.proofs.lemmas.List.Folds.{list_all-append}
use Rattle.std.specs.Prelude.{Result, nat_eq, replicate, slice_get}
use Rattle.std.specs.List.{list_all}
use Rattle.ct_values.specs.declared.client.ClientOp.{ClientOp}
use Rattle.ct_values.specs.declared.config.Config.{Config}
use Rattle.ct_frame.specs.Fields.{well_formed}
use Rattle.ct_frame.specs.declared.event.Event.{Event}
use Rattle.ct_frame.specs.declared.event.Event.TheVariants as event
use Rattle.ct_frame.specs.declared.event.Out.{Out}
use Rattle.ct_frame.specs.declared.event.Out.TheVariants as out
use Rattle.ct_frame.specs.declared.frame.Frame.{Frame}
use Rattle.ct_call.specs.Rules.{Rules}
use Rattle.ct_rules_cluster.specs.Cluster.{Cluster, Dropped, Delivered, Fate, Sent, Waiting, able_from, everyone, is_up, node_at, opening, or_absent, sent_at}
use Rattle.ct_rules_cluster.specs.Faults.{fault_of, is_allowed, no_such_node}
use Rattle.ct_rules_cluster.specs.Steps.{Stepped, applied, deliver, done, drop, fed, fed_of, frames_of, if_counted, is_counted, put, recover, repeat, steps, steps_or, stop, with_fate, with_node}
use Rattle.ct_rules_cluster.specs.declared.step.Line.{Line}
use Rattle.ct_rules_cluster.specs.declared.step.Step.{Step}
use Rattle.ct_rules_cluster.specs.declared.step.Step.TheVariants as step
use Rattle.ct_rules_cluster.specs.declared.step.StepFault.{StepFault}
use Rattle.ct_rules_cluster.specs.declared.step.StepFault.TheVariants as fault
use Rattle.ct_rules_node.specs.Coming.{is_after_pending, may_come}
use Rattle.ct_rules_node.specs.Node.{Node, restarted}
use Rattle.ct_rules_node.specs.Node as node
use Rattle.ct_rules_node.specs.Steps.{happens, stepped, unless_spent}
use Rattle.ct_rules_node.specs.Turn.{Turn, begins}
use Rattle.ct_rules_node.specs.Refusals.{first_of}
use Rattle.ct_law_rules_node.proofs.Refusals.{first_none}
use Rattle.ct_law_form_cluster.specs.Laws.{asks_below}
use Rattle.ct_law_form_cluster.proofs.WholeCalls.{calls_stay_below, more_below, opens_below, restarts_below}
use Rattle.ct_law_form.specs.Whole.{NodeInForm, is_node_of, is_sound_out}
use Rattle.ct_law_form.proofs.Whole.{restarts_in_form}
use Rattle.ct_law_form_steps.proofs.Opening.{everyone_opens_in_form}
use Rattle.ct_law_form_steps.proofs.WholeSteps.{steps_keep_form}
use Rattle.ct_law_form_cluster.specs.Form.{ClusterInForm, ClusterOpensInForm, ClusterStaysInForm, is_sound_sent}
use Rattle.ct_law_form_cluster.proofs.Coming.{events_may_come, node_is, recover_nodes, sent_sound}

-- ---- lists

got_set : {X : Type 0} (xs : List X) (n : ℕ) (x : X) → n < length xs → slice_get (set xs n x) n ≡ Some x
got_set [] n x l = absurd (omega arith)
got_set (y ∷ ys) zero x l = refl
got_set (y ∷ ys) (suc n) x l = got_set ys n x (omega arith)

got_other : {X : Type 0} (xs : List X) (n m : ℕ) (x : X) → m ≢ n → slice_get (set xs n x) m ≡ slice_get xs m
got_other [] n m x ne = refl
got_other (y ∷ ys) zero zero x ne = absurd (ne refl)
got_other (y ∷ ys) zero (suc m) x ne = refl
got_other (y ∷ ys) (suc n) zero x ne = refl
got_other (y ∷ ys) (suc n) (suc m) x ne = got_other ys n m x (λ e. ne (ap suc e))

got_replicate : {X : Type 0} (k n : ℕ) (x : X) → n < k → slice_get (replicate k x) n ≡ Some x
got_replicate zero n x l = absurd (omega arith)
got_replicate (suc k) zero x l = refl
got_replicate (suc k) (suc n) x l = got_replicate k n x (omega arith)

replicated : {X : Type 0} (k : ℕ) (x : X) → length (replicate k x) ≡ k
replicated zero x = refl
replicated (suc k) x = ap suc (replicated k x)

set_all : {X : Type 0} (p : X → Bool) (xs : List X) (k : ℕ) (x : X) → p x ≡ true → list_all p xs ≡ true → list_all p (set xs k x) ≡ true
set_all p [] k x e all = refl
set_all p (y ∷ ys) zero x e all = and_from _ _ e (and_parts (p y) (list_all p ys) all).1
set_all p (y ∷ ys) (suc k) x e all = (let a = and_parts (p y) (list_all p ys) all in and_from _ _ a.0 (set_all p ys k x e a.1))

-- ---- another state of a node

-- what holds of the new state of a node, and of all other nodes, holds of each
each_node : (P : ℕ → Node → Type 0) (n : ℕ) (x : Node) (w : Cluster) → n < length w.nodes → P n x → ((m : ℕ) → P m (node_at m w)) → (m : ℕ) → P m (node_at m (with_node n x w))
unfolding node_at with_node or_absent
each_node P n x w l here all m = cond_both (nat_eq m n) true false (λ (_ : Bool). P m (or_absent (slice_get (set w.nodes n x) m)))
    (λ t. subst (λ (k : ℕ). P k (or_absent (slice_get (set w.nodes n x) k))) (sym (eqb-true m n t)) (subst (λ (o : Option Node). P n (or_absent o)) (sym (got_set w.nodes n x l)) here))
    (λ f. subst (λ (o : Option Node). P m (or_absent o)) (sym (got_other w.nodes n m x (eqb-false m n f))) (all m))

is_there : (c : Config) (n : ℕ) (w : Cluster) → ClusterInForm c w → is_node_of c n ≡ true → n < length w.nodes
unfolding is_node_of
is_there c n w h e = (let l = ltb-true n c.nodes e in let s = h.size in omega arith)

with_node_in_form : (c : Config) (n : ℕ) (x : Node) (w : Cluster) → ClusterInForm c w → is_node_of c n ≡ true → NodeInForm c n x → is_after_pending (w.calls + 1) x ≡ true → ClusterInForm c (with_node n x w)
unfolding with_node
with_node_in_form c n x w h real f after = record {
  size = length-set w.nodes n x ∙ h.size;
  nodes = each_node (λ (m : ℕ) (y : Node). is_node_of c m ≡ true → NodeInForm c m y) n x w (is_there c n w h real) (λ _. f) h.nodes;
  counted = each_node (λ (m : ℕ) (y : Node). is_node_of c m ≡ true → is_after_pending (w.calls + 1) y ≡ true) n x w (is_there c n w h real) (λ _. after) h.counted;
  sent = h.sent;
}

-- ---- an event at a node

sent_of : (c : Config) (me : ℕ) (f : Frame) → is_sound_out c me (out.Send f) ≡ true → is_sound_sent c (record { frame = f; fate = Waiting }) ≡ true
unfolding is_sound_out is_sound_sent
sent_of c me f e = (let p = and_parts (well_formed f && nat_eq f.sender me) (is_node_of c f.receiver) e in and_from _ _ (and_parts (well_formed f) (nat_eq f.sender me) p.0).0 p.1)

frames_sound : (c : Config) (me : ℕ) (xs : List Out) → list_all (is_sound_out c me) xs ≡ true → list_all (is_sound_sent c) (frames_of xs) ≡ true
unfolding frames_of
frames_sound c me [] all = refl
frames_sound c me (out.Send f ∷ xs) all = (let p = and_parts (is_sound_out c me (out.Send f)) (list_all (is_sound_out c me) xs) all in and_from _ _ (sent_of c me f p.0) (frames_sound c me xs p.1))
frames_sound c me (out.Answer call a ∷ xs) all = frames_sound c me xs (and_parts (is_sound_out c me (out.Answer call a)) (list_all (is_sound_out c me) xs) all).1
frames_sound c me (out.Note x ∷ xs) all = frames_sound c me xs (and_parts (is_sound_out c me (out.Note x)) (list_all (is_sound_out c me) xs) all).1

put_in_form : (c : Config) (n : ℕ) (t : Turn) (own : List Line) (w : Cluster) → ClusterInForm c w → is_node_of c n ≡ true → NodeInForm c n t.node → list_all (is_sound_out c n) t.outs ≡ true → is_after_pending (w.calls + 1) t.node ≡ true → ClusterInForm c (put n t own w).cluster
unfolding put with_node node_at
put_in_form c n t own w h real f sound after =
    let k = with_node_in_form c n t.node w h real f after in
    record { size = k.size; nodes = k.nodes; counted = k.counted; sent = list_all-append (is_sound_sent c) w.sent (frames_of t.outs) ∙ and_from _ _ h.sent (frames_sound c n t.outs sound) }

counted_is : (s x : Stepped) → if_counted s ≡ Ok x → s ≡ x
unfolding if_counted
counted_is s x e = by (is_counted s.cluster) e
  where
    by : (b : Bool) → cond b (Ok s) (Err fault.Exhausted) ≡ Ok x → s ≡ x
    by true k = cc
    by false k = absurd (cc)

step_is : (u t : Turn) → unless_spent u ≡ Some t → u ≡ t
step_is u t e = by u.spent e
  where
    by : (b : Bool) → cond b None (Some u) ≡ Some t → u ≡ t
    by true k = absurd (cc)
    by false k = cc

fed_of_in_form : (c : Config) (rules : Rules) (n : ℕ) (e : Event) (own : List Line) (w : Cluster) (x : Stepped) (o : Option Turn) → stepped c rules n e (node_at n w) ≡ o → ClusterInForm c w → is_node_of c n ≡ true → may_come c n (node_at n w) e ≡ true → asks_below (w.calls + 1) e ≡ true →
    fed_of n own w o ≡ Ok x → ClusterInForm c x.cluster
unfolding fed_of
fed_of_in_form c rules n e own w x None is h real may below ok = absurd (cc)
fed_of_in_form c rules n e own w x (Some t) is h real may below ok =
    let k = steps_keep_form c rules n e (node_at n w) t (h.nodes n real) may is in
    let after = calls_stay_below c rules n (w.calls + 1) (begins (node_at n w)) e below (h.counted n real) in
    subst (λ (y : Stepped). ClusterInForm c y.cluster) (counted_is (put n t own w) x ok)
    (put_in_form c n t own w h real k.0 k.1 (subst (λ (u : Turn). is_after_pending (w.calls + 1) u.node ≡ true) (step_is (happens c rules n (begins (node_at n w)) e) t is) after))

fed_in_form : (c : Config) (rules : Rules) (n : ℕ) (e : Event) (own : List Line) (w : Cluster) (x : Stepped) → ClusterInForm c w → is_node_of c n ≡ true → may_come c n (node_at n w) e ≡ true → asks_below (w.calls + 1) e ≡ true → fed c rules n e own w ≡ Ok x → ClusterInForm c x.cluster
unfolding fed
fed_in_form c rules n e own w x h real may below ok = fed_of_in_form c rules n e own w x (stepped c rules n e (node_at n w)) refl h real may below ok

done_is : (lines : List Line) (w : Cluster) (x : Stepped) → done lines w ≡ Ok x → w ≡ x.cluster
unfolding done
done_is lines w x e = (let same : record { cluster = w; lines = lines } ≡ x = cc in ap (λ (y : Stepped). y.cluster) same)

done_in_form : (c : Config) (lines : List Line) (w : Cluster) (x : Stepped) → ClusterInForm c w → done lines w ≡ Ok x → ClusterInForm c x.cluster
done_in_form c lines w x h e = subst (ClusterInForm c) (done_is lines w x e) h

-- ---- messages

fate_in_form : (c : Config) (k : ℕ) (s : Sent) (f : Fate) (w : Cluster) → ClusterInForm c w → is_sound_sent c s ≡ true → ClusterInForm c (with_fate k s f w)
unfolding with_fate is_sound_sent node_at
fate_in_form c zero s f w h e = h
fate_in_form c (suc k) s f w h e = record { size = h.size; nodes = h.nodes; counted = h.counted; sent = set_all (is_sound_sent c) w.sent k (record s { fate = f }) e h.sent }

fate_node : (n k : ℕ) (s : Sent) (f : Fate) (w : Cluster) → node_at n (with_fate k s f w) ≡ node_at n w
unfolding with_fate node_at
fate_node n zero s f w = refl
fate_node n (suc k) s f w = refl

fate_calls : (k : ℕ) (s : Sent) (f : Fate) (w : Cluster) → (with_fate k s f w).calls ≡ w.calls
unfolding with_fate
fate_calls zero s f w = refl
fate_calls (suc k) s f w = refl

asks_none : (b : ℕ) (f : Frame) → asks_below b (event.Arrive f) ≡ true
unfolding asks_below
asks_none b f = refl

deliver_in_form : (c : Config) (rules : Rules) (k : ℕ) (w : Cluster) (o : Option Sent) (x : Stepped) → sent_at k w ≡ o → ClusterInForm c w → deliver c rules k w o ≡ Ok x → ClusterInForm c x.cluster
unfolding deliver
deliver_in_form c rules k w None x is h ok = done_in_form c _ w x h ok
deliver_in_form c rules k w (Some s) x is h ok =
    let sound = sent_sound c w k s h is in
    let m = events_may_come.message c w k s h is in
    cond_both (is_up s.frame.receiver w) _ _ (λ (r : Result Stepped StepFault). r ≡ Ok x → ClusterInForm c x.cluster)
    (λ _ e. fed_in_form c rules s.frame.receiver (event.Arrive s.frame) [] (with_fate k s Delivered w) x (fate_in_form c k s Delivered w h sound) m.0
    (subst (λ (y : Node). may_come c s.frame.receiver y (event.Arrive s.frame) ≡ true) (sym (fate_node s.frame.receiver k s Delivered w)) m.1) (asks_none _ s.frame) e)
    (λ _ e. done_in_form c _ (with_fate k s Dropped w) x (fate_in_form c k s Dropped w h sound) e) ok

drop_in_form : (c : Config) (k : ℕ) (w : Cluster) (o : Option Sent) (x : Stepped) → sent_at k w ≡ o → ClusterInForm c w → drop k w o ≡ Ok x → ClusterInForm c x.cluster
unfolding drop
drop_in_form c k w None x is h ok = done_in_form c _ w x h ok
drop_in_form c k w (Some s) x is h ok = done_in_form c _ (with_fate k s Dropped w) x (fate_in_form c k s Dropped w h (sent_sound c w k s h is)) ok

repeat_in_form : (c : Config) (rules : Rules) (k : ℕ) (w : Cluster) (o : Option Sent) (x : Stepped) → sent_at k w ≡ o → ClusterInForm c w → repeat c rules k w o ≡ Ok x → ClusterInForm c x.cluster
unfolding repeat
repeat_in_form c rules k w None x is h ok = done_in_form c _ w x h ok
repeat_in_form c rules k w (Some s) x is h ok =
    let m = events_may_come.message c w k s h is in
    cond_both (is_up s.frame.receiver w) _ _ (λ (r : Result Stepped StepFault). r ≡ Ok x → ClusterInForm c x.cluster)
    (λ _ e. fed_in_form c rules s.frame.receiver (event.Arrive s.frame) [] w x h m.0 m.1 (asks_none _ s.frame) e) (λ _ e. done_in_form c _ w x h e) ok

-- ---- calls, stops and the recovery lock

calls_in_form : (c : Config) (w : Cluster) → ClusterInForm c w → ClusterInForm c (record w { calls = w.calls + 1 })
unfolding node_at
calls_in_form c w h = record { size = h.size; nodes = h.nodes; counted = λ n real. more_below (w.calls + 1) (w.calls + 1 + 1) (node_at n w) (omega arith) (h.counted n real); sent = h.sent }

holder_in_form : (c : Config) (w : Cluster) (running able : List Bool) (holder : Option ℕ) (ticket : ℕ) → ClusterInForm c w → ClusterInForm c (record w { running = running; able = able; holder = holder; ticket = ticket })
unfolding node_at
holder_in_form c w running able holder ticket h = record { size = h.size; nodes = h.nodes; counted = h.counted; sent = h.sent }

stop_in_form : (c : Config) (n : ℕ) (w : Cluster) (x : Stepped) → ClusterInForm c w → is_node_of c n ≡ true → stop c n w ≡ Ok x → ClusterInForm c x.cluster
unfolding stop
stop_in_form c n w x h real ok =
    done_in_form c _ _ x (holder_in_form c (with_node n (restarted c (node_at n w)) w) _ _ _ _ (with_node_in_form c n (restarted c (node_at n w)) w h real (restarts_in_form c n (node_at n w) (h.nodes n real)) (restarts_below c (node_at n w) (w.calls + 1)))) ok

asks_own : (call : ℕ) (o : ClientOp) → asks_below (call + 1) (event.Client call o) ≡ true
unfolding asks_below
asks_own call o = lt-ltb call (call + 1) (omega arith)

client_in_form : (c : Config) (rules : Rules) (n : ℕ) (o : ClientOp) (w : Cluster) (x : Stepped) → ClusterInForm c w → is_allowed (step.Client n o) ≡ true → is_node_of c n ≡ true → fed c rules n (event.Client (w.calls + 1) o) [] (record w { calls = w.calls + 1 }) ≡ Ok x → ClusterInForm c x.cluster
unfolding node_at
client_in_form c rules n o w x h may real ok =
    fed_in_form c rules n (event.Client (w.calls + 1) o) [] (record w { calls = w.calls + 1 }) x (calls_in_form c w h) real (events_may_come.client c w n o h may real) (asks_own (w.calls + 1) o) ok

recover_in_form : (c : Config) (rules : Rules) (n : ℕ) (members : List ℕ) (w : Cluster) (x : Stepped) → ClusterInForm c w → is_allowed (step.Recover n members) ≡ true → fault_of c w (step.Recover n members) ≡ None → recover c rules n members w ≡ Ok x → ClusterInForm c x.cluster
unfolding recover node_at asks_below
recover_in_form c rules n members w x h may free ok =
    fed_in_form c rules n (event.BeginRound (w.ticket + 1) members) _ (record w { holder = Some n; ticket = w.ticket + 1 }) x (holder_in_form c w w.running w.able (Some n) (w.ticket + 1) h) (recover_nodes c w n members free).0 (events_may_come.round c w n (w.ticket + 1) members may free) refl ok

-- ---- every step

first_node : (c : Config) (w : Cluster) (n : ℕ) (xs : List (Option StepFault)) → first_of (no_such_node c n ∷ xs) ≡ None → is_node_of c n ≡ true
first_node c w n xs e = node_is c n (first_none (no_such_node c n) xs e).0

steps_in_form : (c : Config) (rules : Rules) (w : Cluster) (s : Step) (x : Stepped) → ClusterInForm c w → is_allowed s ≡ true → fault_of c w s ≡ None → steps c rules w s ≡ Ok x → ClusterInForm c x.cluster
unfolding steps fault_of asks_below may_come
steps_in_form c rules w (step.Client n o) x h may free ok = client_in_form c rules n o w x h may (first_node c w n _ free) ok
steps_in_form c rules w (step.Deliver k) x h may free ok = deliver_in_form c rules k w (sent_at k w) x refl h ok
steps_in_form c rules w (step.Drop k) x h may free ok = drop_in_form c k w (sent_at k w) x refl h ok
steps_in_form c rules w (step.Repeat k) x h may free ok = repeat_in_form c rules k w (sent_at k w) x refl h ok
steps_in_form c rules w (step.Retry n) x h may free ok = fed_in_form c rules n event.Retry [] w x h (first_node c w n _ free) refl refl ok
steps_in_form c rules w (step.Vacuum n db) x h may free ok = fed_in_form c rules n (event.Vacuum db) [] w x h (first_node c w n _ free) refl refl ok
steps_in_form c rules w (step.Recover n members) x h may free ok = recover_in_form c rules n members w x h may free ok
steps_in_form c rules w (step.Yield n) x h may free ok = done_in_form c _ _ x (holder_in_form c w w.running w.able None w.ticket h) ok
steps_in_form c rules w (step.Stop n) x h may free ok = stop_in_form c n w x h (first_node c w n _ free) ok
steps_in_form c rules w (step.Start n) x h may free ok = done_in_form c _ _ x (holder_in_form c w _ w.able w.holder w.ticket h) ok
steps_in_form c rules w (step.Takeover n) x h may free ok = fed_in_form c rules n (event.BeginTakeover (able_from 0 w.able)) [] w x h (first_node c w n _ free) (events_may_come.takeover c w n) refl ok
steps_in_form c rules w (step.Able n able) x h may free ok = done_in_form c _ _ x (holder_in_form c w w.running _ w.holder w.ticket h) ok

steps_or_in_form : (c : Config) (rules : Rules) (w : Cluster) (s : Step) (x : Stepped) (f : Option StepFault) → fault_of c w s ≡ f → ClusterInForm c w → is_allowed s ≡ true → steps_or c rules w s f ≡ Ok x → ClusterInForm c x.cluster
unfolding steps_or
steps_or_in_form c rules w s x (Some f) is h may ok = absurd (cc)
steps_or_in_form c rules w s x None is h may ok = steps_in_form c rules w s x h may is ok

pub stays_in_form : ClusterStaysInForm
unfolding applied
stays_in_form c rules w s x h may ok = steps_or_in_form c rules w s x (fault_of c w s) refl h may ok

-- ---- the opening

opened_node : (c : Config) (n : ℕ) → is_node_of c n ≡ true → node_at n (opening c) ≡ node.opening c (everyone c)
unfolding node_at opening is_node_of or_absent
opened_node c n e = ap or_absent (got_replicate c.nodes n (node.opening c (everyone c)) (ltb-true n c.nodes e))

opened_size : (c : Config) → length (opening c).nodes ≡ c.nodes
unfolding opening
opened_size c = replicated c.nodes (node.opening c (everyone c))

nothing_sent : (c : Config) → list_all (is_sound_sent c) (opening c).sent ≡ true
unfolding opening
nothing_sent c = refl

pub opens_in_form : ClusterOpensInForm
opens_in_form c dbs addresses h = record {
  size = opened_size c;
  nodes = λ n real. subst (NodeInForm c n) (sym (opened_node c n real)) (everyone_opens_in_form c dbs addresses n h real);
  counted = λ n real. subst (λ (x : Node). is_after_pending ((opening c).calls + 1) x ≡ true) (sym (opened_node c n real)) (opens_below c (everyone c) ((opening c).calls + 1));
  sent = nothing_sent c;
}
