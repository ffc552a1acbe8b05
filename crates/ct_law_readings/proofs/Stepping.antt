-- What a step tells of one record: one label at most adds a version.
use Rattle.std.proofs.Common.{◌≡◌, ℕ, zero, suc, Bool, true, false, cond, List, [], ◌∷◌, ◌++◌, length, Option, None, Some, refl, sym, ap, ◌∙◌, subst, arith, inl, inr, ⊎_elim}
use Rattle.std.specs.Prelude.{◌⊎◌, ◌+◌, ◌||◌, Result, Ok, Err}
use Rattle.std.specs.List.{list_any}
use Rattle.std.proofs.lemmas.Bool.{cases_Bool}
use Rattle.std.proofs.lemmas.List.{append-nil}
use Rattle.std.proofs.lemmas.List.Folds.{list_any-append}
use Rattle.ct_values.specs.declared.client.ClientOp.{ClientOp}
use Rattle.ct_values.specs.declared.client.ClientOp.TheVariants as op
use Rattle.ct_values.specs.declared.config.Config.{Config}
use Rattle.ct_frame.specs.declared.event.Event.{Event}
use Rattle.ct_frame.specs.declared.event.Event.TheVariants as event
use Rattle.ct_call.specs.Rules.{Rules}
use Rattle.ct_rules_node.specs.Turn.{begins}
use Rattle.ct_rules_cluster.specs.Cluster.{Cluster, Sent, Fate, Delivered, Dropped, is_up, node_at, sent_at, able_from, pending_at}
use Rattle.ct_rules_cluster.specs.Faults.{fault_of, is_allowed}
use Rattle.ct_rules_cluster.specs.Labels.{Label, Begun, Ticket, Yielded, Stopped, Started}
use Rattle.ct_rules_cluster.specs.Steps.{Stepped, put, fed, done, with_fate, deliver, drop, repeat, gone, stop, recover, steps, steps_or, applied}
use Rattle.ct_rules_cluster.specs.Traces.{OpenCall, asked_in, opened, closed_by, is_refused, begun_by, own_labels, label_of, line_labels, labels, taken, idle, ran_one}
use Rattle.ct_rules_cluster.specs.declared.step.Line.{Line}
use Rattle.ct_rules_cluster.specs.declared.step.Line.TheVariants as line
use Rattle.ct_rules_cluster.specs.declared.step.PendingCall.{PendingCall}
use Rattle.ct_rules_cluster.specs.declared.step.Step.{Step}
use Rattle.ct_rules_cluster.specs.declared.step.Step.TheVariants as step
use Rattle.ct_rules_cluster.specs.declared.step.StepFault.{StepFault}
use Rattle.ct_law_generation.proofs.Opened.{Opened}
use Rattle.ct_law_generation.proofs.Accounts.{Stands}
use Rattle.ct_law_generation.proofs.BirthEvents.{open_at, IsNew}
use Rattle.ct_law_generation.proofs.CallsOpen.{Calls, fresh_call}
use Rattle.ct_law_generation.proofs.CallsTold.{by_log}
use Rattle.ct_law_generation.proofs.Fed.{fed_is}
use Rattle.ct_law_generation.proofs.Faulting.{runs}
use Rattle.ct_law_readings.proofs.Versions.{adds, clears, moves, additions}
use Rattle.ct_law_readings.proofs.Telling.{InLog, additions_more, one_label}
use Rattle.ct_law_readings.proofs.Turning.{Tells, turn_tells}

-- ---- labels that say nothing of versions

pub record Quiet (db : ℕ) (key : List ℕ) (labels : List Label) : Type 0 where
  pub none : additions db key labels ≡ 0
  pub kept : list_any (clears db key) labels ≡ false
  pub still : list_any moves labels ≡ false

quiet_front : (db : ℕ) (key : List ℕ) (xs ys : List Label) → Quiet db key xs → Tells db key ys → Tells db key (xs ++ ys)
quiet_front db key xs ys q h = record {
  once = (let a = additions_more db key xs ys in let b = q.none in let c = h.once in omega arith);
  steady = ⊎_elim
      (λ (e : list_any (clears db key) ys ≡ false). inl (list_any-append (clears db key) xs ys ∙ (λ i. q.kept i || e i)))
      (λ (e : list_any moves ys ≡ false). inr (list_any-append moves xs ys ∙ (λ i. q.still i || e i)))
      h.steady;
}

-- where nothing is told, nothing is added
nothing_tells : (db : ℕ) (key : List ℕ) → Tells db key []
unfolding additions
nothing_tells db key = record { once = omega arith; steady = inl refl }

-- one label that says of no record that it was removed
label_tells : (db : ℕ) (key : List ℕ) (x : Label) → clears db key x ≡ false → Tells db key (x ∷ [])
unfolding additions
label_tells db key x e = record { once = one_label (adds db key x); steady = inl (λ i. e i || false) }

begun_quiet : (db : ℕ) (key : List ℕ) (n call : ℕ) (o : ClientOp) (ls : List Line) → Quiet db key (begun_by n call o ls)
unfolding begun_by additions adds clears moves
begun_quiet db key n call (op.Commit d writes) ls = commit_quiet (is_refused call ls)
  where
    commit_quiet : (b : Bool) → Quiet db key (cond b [] (Begun n d writes ∷ []))
    commit_quiet true = record { none = refl; kept = refl; still = refl }
    commit_quiet false = record { none = refl; kept = refl; still = refl }
begun_quiet db key n call _ ls = record { none = refl; kept = refl; still = refl }

own_quiet : (db : ℕ) (key : List ℕ) (w : Cluster) (s : Step) (ls : List Line) → Quiet db key (own_labels w s ls)
unfolding own_labels additions adds clears moves
own_quiet db key w (step.Client n o) ls = begun_quiet db key n (w.calls + 1) o ls
own_quiet db key w (step.Takeover n) ls = record { none = refl; kept = refl; still = refl }
own_quiet db key w _ ls = record { none = refl; kept = refl; still = refl }

-- ---- a step of a node

-- what the step tells after its own labels
abbrev Told : ℕ → List ℕ → Step → List OpenCall → Stepped → Type 0
Told db key s log x = Tells db key (line_labels s log x.lines)

fed_tells : (db : ℕ) (key : List ℕ) (s : Step) (c : Config) (rules : Rules) (n : ℕ) (e : Event) (own : List Line) (v : Cluster) (x : Stepped) (who : Opened) (log : List OpenCall) → Stands n who (node_at n v) → IsNew c e who (begins (node_at n v)) → InLog (open_at n e who) log →
    ((xs : List Line) → Tells db key (line_labels s log xs) → Tells db key (line_labels s log (own ++ xs))) → fed c rules n e own v ≡ Ok x → Told db key s log x
unfolding put
fed_tells db key s c rules n e own v x who log h new like front ok =
    subst (λ (y : Stepped). Told db key s log y) (sym (fed_is c rules n e own v x ok).1) (front _ (turn_tells s db key c rules n (length v.sent + 1) (node_at n v) who log e h new like))

-- an event that opens no call
arrives_tells : (db : ℕ) (key : List ℕ) (s : Step) (c : Config) (rules : Rules) (n : ℕ) (e : Event) (v : Cluster) (x : Stepped) (log : List OpenCall) → Stands n (by_log log) (node_at n v) → IsNew c e (by_log log) (begins (node_at n v)) → open_at n e (by_log log) ≡ by_log log →
    fed c rules n e [] v ≡ Ok x → Told db key s log x
arrives_tells db key s c rules n e v x log h new same ok =
    fed_tells db key s c rules n e [] v x (by_log log) log h new (subst (λ (f : Opened). InLog f log) (sym same) (λ k y is. is)) (λ xs t. t) ok

-- no event
done_tells : (db : ℕ) (key : List ℕ) (s : Step) (lines : List Line) (v : Cluster) (x : Stepped) (log : List OpenCall) → Tells db key (line_labels s log lines) → done lines v ≡ Ok x → Told db key s log x
unfolding done
done_tells db key s lines v x log h ok = (let same : record { cluster = v; lines = lines } ≡ x = cc in subst (λ (y : Stepped). Told db key s log y) same h)

one_quiet : (db : ℕ) (key : List ℕ) (s : Step) (log : List OpenCall) (x : Line) (rest : List Line) → Tells db key (label_of s log x) → line_labels s (closed_by x log) rest ≡ [] → Tells db key (line_labels s log (x ∷ rest))
unfolding line_labels
one_quiet db key s log x rest h none = subst (λ (l : List Label). Tells db key l) (sym (ap (λ (l : List Label). label_of s log x ++ l) none ∙ append-nil (label_of s log x))) h

-- the calls that end with their node have no label
gone_quiet : (s : Step) (xs : List PendingCall) (log : List OpenCall) → line_labels s log (gone xs) ≡ []
unfolding line_labels label_of closed_by gone
gone_quiet s [] log = refl
gone_quiet s (x ∷ xs) log = gone_quiet s xs _

-- ---- each step

fate_stands : (k : ℕ) (m : Sent) (f : Fate) (w : Cluster) (n : ℕ) (who : Opened) → Stands n who (node_at n w) → Stands n who (node_at n (with_fate k m f w))
unfolding with_fate node_at
fate_stands zero m f w n who h = h
fate_stands (suc k) m f w n who h = h

lost_tells : (db : ℕ) (key : List ℕ) (s : Step) (log : List OpenCall) (k : ℕ) → Tells db key (line_labels s log (line.Lost k ∷ []))
unfolding line_labels label_of
lost_tells db key s log k = nothing_tells db key

deliver_tells : (db : ℕ) (key : List ℕ) (s : Step) (c : Config) (rules : Rules) (k : ℕ) (w : Cluster) (m : Option Sent) (x : Stepped) (log : List OpenCall) → Calls c w (by_log log) → deliver c rules k w m ≡ Ok x → Told db key s log x
unfolding deliver open_at IsNew line_labels
deliver_tells db key s c rules k w None x log h ok = done_tells db key s [] w x log (nothing_tells db key) ok
deliver_tells db key s c rules k w (Some m) x log h ok = ⊎_elim
    (λ (t : is_up m.frame.receiver w ≡ true). arrives_tells db key s c rules m.frame.receiver (event.Arrive m.frame) (with_fate k m Delivered w) x log (fate_stands k m Delivered w m.frame.receiver (by_log log) (h.nodes m.frame.receiver)) tt refl
    (subst (λ (b : Bool). cond b (fed c rules m.frame.receiver (event.Arrive m.frame) [] (with_fate k m Delivered w)) (done (line.Lost k ∷ []) (with_fate k m Dropped w)) ≡ Ok x) t ok))
    (λ (f : is_up m.frame.receiver w ≡ false). done_tells db key s (line.Lost k ∷ []) (with_fate k m Dropped w) x log (lost_tells db key s log k)
    (subst (λ (b : Bool). cond b (fed c rules m.frame.receiver (event.Arrive m.frame) [] (with_fate k m Delivered w)) (done (line.Lost k ∷ []) (with_fate k m Dropped w)) ≡ Ok x) f ok))
    (cases_Bool (is_up m.frame.receiver w))

repeat_tells : (db : ℕ) (key : List ℕ) (s : Step) (c : Config) (rules : Rules) (k : ℕ) (w : Cluster) (m : Option Sent) (x : Stepped) (log : List OpenCall) → Calls c w (by_log log) → repeat c rules k w m ≡ Ok x → Told db key s log x
unfolding repeat open_at IsNew line_labels
repeat_tells db key s c rules k w None x log h ok = done_tells db key s [] w x log (nothing_tells db key) ok
repeat_tells db key s c rules k w (Some m) x log h ok = ⊎_elim
    (λ (t : is_up m.frame.receiver w ≡ true). arrives_tells db key s c rules m.frame.receiver (event.Arrive m.frame) w x log (h.nodes m.frame.receiver) tt refl
    (subst (λ (b : Bool). cond b (fed c rules m.frame.receiver (event.Arrive m.frame) [] w) (done (line.Lost k ∷ []) w) ≡ Ok x) t ok))
    (λ (f : is_up m.frame.receiver w ≡ false). done_tells db key s (line.Lost k ∷ []) w x log (lost_tells db key s log k)
    (subst (λ (b : Bool). cond b (fed c rules m.frame.receiver (event.Arrive m.frame) [] w) (done (line.Lost k ∷ []) w) ≡ Ok x) f ok))
    (cases_Bool (is_up m.frame.receiver w))

drop_tells : (db : ℕ) (key : List ℕ) (s : Step) (k : ℕ) (w : Cluster) (m : Option Sent) (x : Stepped) (log : List OpenCall) → drop k w m ≡ Ok x → Told db key s log x
unfolding drop line_labels
drop_tells db key s k w None x log ok = done_tells db key s [] w x log (nothing_tells db key) ok
drop_tells db key s k w (Some m) x log ok = done_tells db key s [] _ x log (nothing_tells db key) ok

client_tells : (db : ℕ) (key : List ℕ) (c : Config) (rules : Rules) (n : ℕ) (o : ClientOp) (w : Cluster) (x : Stepped) (log : List OpenCall) → Calls c w (by_log log) → is_up n w ≡ true → fed c rules n (event.Client (w.calls + 1) o) [] (record w { calls = w.calls + 1 }) ≡ Ok x →
    Told db key (step.Client n o) (opened w (step.Client n o) log) x
unfolding node_at is_up IsNew open_at opened asked_in
client_tells db key c rules n o w x log h up ok =
    fed_tells db key (step.Client n o) c rules n (event.Client (w.calls + 1) o) [] (record w { calls = w.calls + 1 }) x (by_log log) (opened w (step.Client n o) log) (h.nodes n)
    (fresh_call c w (by_log log) h, h.sized n (h.there n up)) (λ k v e. e) (λ xs t. t) ok

recover_tells : (db : ℕ) (key : List ℕ) (c : Config) (rules : Rules) (n : ℕ) (members : List ℕ) (w : Cluster) (x : Stepped) (log : List OpenCall) → Calls c w (by_log log) → recover c rules n members w ≡ Ok x → Told db key (step.Recover n members) log x
unfolding recover node_at IsNew open_at line_labels label_of closed_by additions adds clears moves
recover_tells db key c rules n members w x log h ok =
    fed_tells db key (step.Recover n members) c rules n (event.BeginRound (w.ticket + 1) members) (line.Ticket (w.ticket + 1) n ∷ []) (record w { holder = Some n; ticket = w.ticket + 1 }) x (by_log log) log (h.nodes n) tt (λ k v e. e)
    (λ xs t. quiet_front db key (Ticket (w.ticket + 1) n _ ∷ []) (line_labels (step.Recover n members) log xs) (record { none = refl; kept = refl; still = refl }) t) ok

stop_tells : (db : ℕ) (key : List ℕ) (c : Config) (n : ℕ) (w : Cluster) (x : Stepped) (log : List OpenCall) → stop c n w ≡ Ok x → Told db key (step.Stop n) log x
unfolding stop label_of clears closed_by
stop_tells db key c n w x log ok =
    done_tells db key (step.Stop n) (line.Stopped n ∷ gone (pending_at n w)) _ x log
    (one_quiet db key (step.Stop n) log (line.Stopped n) (gone (pending_at n w)) (label_tells db key (Stopped n) refl) (gone_quiet (step.Stop n) (pending_at n w) log)) ok

yield_tells : (db : ℕ) (key : List ℕ) (n : ℕ) (log : List OpenCall) → Tells db key (line_labels (step.Yield n) log (line.Yielded n ∷ []))
unfolding line_labels label_of clears
yield_tells db key n log = label_tells db key (Yielded n) refl

start_tells : (db : ℕ) (key : List ℕ) (n : ℕ) (log : List OpenCall) → Tells db key (line_labels (step.Start n) log (line.Started n ∷ []))
unfolding line_labels label_of clears
start_tells db key n log = label_tells db key (Started n) refl

steps_tell : (db : ℕ) (key : List ℕ) (c : Config) (rules : Rules) (w : Cluster) (s : Step) (x : Stepped) (log : List OpenCall) → Calls c w (by_log log) → fault_of c w s ≡ None → steps c rules w s ≡ Ok x → Told db key s (opened w s log) x
unfolding steps fault_of opened IsNew open_at line_labels
steps_tell db key c rules w (step.Client n o) x log h e ok = client_tells db key c rules n o w x log h (runs w n _ _ e) ok
steps_tell db key c rules w (step.Deliver k) x log h e ok = deliver_tells db key (step.Deliver k) c rules k w (sent_at k w) x log h ok
steps_tell db key c rules w (step.Drop k) x log h e ok = drop_tells db key (step.Drop k) k w (sent_at k w) x log ok
steps_tell db key c rules w (step.Repeat k) x log h e ok = repeat_tells db key (step.Repeat k) c rules k w (sent_at k w) x log h ok
steps_tell db key c rules w (step.Retry n) x log h e ok = arrives_tells db key (step.Retry n) c rules n event.Retry w x log (h.nodes n) tt refl ok
steps_tell db key c rules w (step.Vacuum n d) x log h e ok = arrives_tells db key (step.Vacuum n d) c rules n (event.Vacuum d) w x log (h.nodes n) tt refl ok
steps_tell db key c rules w (step.Recover n members) x log h e ok = recover_tells db key c rules n members w x log h ok
steps_tell db key c rules w (step.Yield n) x log h e ok = done_tells db key (step.Yield n) (line.Yielded n ∷ []) _ x log (yield_tells db key n log) ok
steps_tell db key c rules w (step.Stop n) x log h e ok = stop_tells db key c n w x log ok
steps_tell db key c rules w (step.Start n) x log h e ok = done_tells db key (step.Start n) (line.Started n ∷ []) _ x log (start_tells db key n log) ok
steps_tell db key c rules w (step.Takeover n) x log h e ok = arrives_tells db key (step.Takeover n) c rules n (event.BeginTakeover (able_from 0 w.able)) w x log (h.nodes n) tt refl ok
steps_tell db key c rules w (step.Able n able) x log h e ok = done_tells db key (step.Able n able) [] _ x log (nothing_tells db key) ok

-- ---- a step of a run

result_tells : (db : ℕ) (key : List ℕ) (c : Config) (rules : Rules) (w : Cluster) (log : List OpenCall) (s : Step) (f : Option StepFault) (r : Result Stepped StepFault) → Calls c w (by_log log) → fault_of c w s ≡ f → steps_or c rules w s f ≡ r →
    Tells db key (taken w log s r).trace
unfolding taken idle steps_or labels
result_tells db key c rules w log s (Some f) (Ok x) h e is = absurd (cc)
result_tells db key c rules w log s None (Ok x) h e is = quiet_front db key (own_labels w s x.lines) (line_labels s (opened w s log) x.lines) (own_quiet db key w s x.lines) (steps_tell db key c rules w s x log h e is)
result_tells db key c rules w log s f (Err g) h e is = nothing_tells db key

pub ran_tells : (db : ℕ) (key : List ℕ) (c : Config) (rules : Rules) (w : Cluster) (log : List OpenCall) (s : Step) → Calls c w (by_log log) → Tells db key (ran_one c rules w log s).trace
unfolding ran_one applied idle
ran_tells db key c rules w log s h = ⊎_elim
    (λ (t : is_allowed s ≡ true). rw t (result_tells db key c rules w log s (fault_of c w s) (steps_or c rules w s (fault_of c w s)) h refl refl))
    (λ (f : is_allowed s ≡ false). rw f (nothing_tells db key))
    (cases_Bool (is_allowed s))
