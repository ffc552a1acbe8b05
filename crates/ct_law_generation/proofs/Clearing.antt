-- Where a step of the cluster tells that a record was removed, its location master did it, and has no entry of it.
use Rattle.std.proofs.Common.{◌≡◌, ℕ, zero, suc, ◌+◌, ◌≤◌, Bool, true, false, ◌||◌, List, [], ◌∷◌, ◌++◌, length, set, Option, Some, None, refl, sym, ap, ◌∙◌, arith, subst, ⊎_elim}
use Rattle.std.specs.Prelude.{nat_lt, slice_get, Result, Ok, Err}
use Rattle.std.proofs.lemmas.Bool.{cond_both, ltb-true, ltb-false, cases_Bool}
use Rattle.std.proofs.lemmas.List.Folds.{list_any-append}
use Rattle.ct_values.specs.declared.client.ClientOp.{ClientOp}
use Rattle.ct_values.specs.declared.client.ClientOp.TheVariants as op
use Rattle.ct_values.specs.declared.config.Config.{Config}
use Rattle.ct_frame.specs.declared.event.Event.{Event}
use Rattle.ct_frame.specs.declared.event.Event.TheVariants as event
use Rattle.ct_call.specs.Rules.{Rules}
use Rattle.ct_rules_node.specs.Node.{Node, master_of, state_at, db_at, or_nothing, or_untouched, untouched}
use Rattle.ct_rules_node.specs.Turn.{Turn, begins}
use Rattle.ct_rules_node.specs.Steps as node_steps
use Rattle.ct_law_rules_node.specs.NodeLaws.{NodeAscends}
use Rattle.ct_rules_cluster.specs.Cluster.{Cluster, Sent, Fate, Delivered, absent, or_absent, is_up, node_at, sent_at, able_from, pending_at}
use Rattle.ct_rules_cluster.specs.Faults.{fault_of, is_allowed}
use Rattle.ct_rules_cluster.specs.Labels.{Label}
use Rattle.ct_rules_cluster.specs.Steps.{Stepped, lines_of, with_node, put, fed, done, with_fate, deliver, drop, repeat, gone, stop, recover, steps, steps_or, applied}
use Rattle.ct_rules_cluster.specs.Traces.{is_refused as refuses, begun_by, own_labels}
use Rattle.ct_law_generation.specs.Waiting.{answerable, told_line, told_lines, told_step, unchanged, came_of, outcome}
use Rattle.ct_rules_cluster.specs.declared.step.Line.{Line}
use Rattle.ct_rules_cluster.specs.declared.step.Line.TheVariants as line
use Rattle.ct_rules_cluster.specs.declared.step.PendingCall.{PendingCall}
use Rattle.ct_rules_cluster.specs.declared.step.Step.{Step}
use Rattle.ct_rules_cluster.specs.declared.step.Step.TheVariants as step
use Rattle.ct_rules_cluster.specs.declared.step.StepFault.{StepFault}
use Rattle.ct_register.specs.Lines.{Lines}
use Rattle.ct_promise.specs.Marked.{is_removal, is_removed}
use Rattle.ct_law_generation.specs.Shown.{labels_of}
use Rattle.ct_law_generation.proofs.Hearing.{labels_are}
use Rattle.ct_law_generation.proofs.Handed.{own_node}
use Rattle.ct_law_generation.proofs.Fed.{fed_is}
use Rattle.ct_law_generation.proofs.Faulting.{runs}
use Rattle.ct_law_generation.proofs.Removing.{told_in_line}
use Rattle.ct_law_generation.proofs.Removed.{starts_silent, happens_remove, told_removal}

-- a node of the line, which runs before the step and is the record's location master, has no entry of it after the step
pub record IsCleared (r : Lines) (g db : ℕ) (key : List ℕ) (w v : Cluster) : Type 0 where
  pub node : ℕ
  pub up : is_up node w ≡ true
  pub line : r.line node ≡ g
  pub master : node ≡ master_of (node_at node w).members key
  pub entry : (state_at db key (node_at node v)).entry ≡ None

-- the records of all nodes are in order
abbrev pub AllAscend : Cluster → Type 0
AllAscend w = (n : ℕ) → NodeAscends (node_at n w)

-- where these labels tell the removal, it is so
abbrev pub Clears : Lines → ℕ → ℕ → List ℕ → Cluster → Cluster → List Label → Type 0
Clears r g db key w v told = is_removed r g db key told ≡ true → IsCleared r g db key w v

-- ---- the node's step becomes the cluster's

pub past_node : (ns : List Node) (n : ℕ) (x : Node) → length ns ≤ n → or_absent (slice_get (set ns n x) n) ≡ absent
unfolding or_absent
past_node [] n x l = refl
past_node (y ∷ ys) zero x l = absurd (omega arith)
past_node (y ∷ ys) (suc n) x l = past_node ys n x (omega arith)

pub absent_entry : (db : ℕ) (key : List ℕ) → (state_at db key absent).entry ≡ None
unfolding state_at db_at absent or_untouched untouched or_nothing
absent_entry db key = refl

put_entry : (n : ℕ) (u : Turn) (own : List Line) (w : Cluster) (db : ℕ) (key : List ℕ) → (state_at db key u.node).entry ≡ None → (state_at db key (node_at n (put n u own w).cluster)).entry ≡ None
unfolding put with_node node_at
put_entry n u own w db key e = cond_both (nat_lt n (length w.nodes)) true false (λ (_ : Bool). (state_at db key (node_at n (with_node n u.node w))).entry ≡ None)
    (λ t. ap (λ (x : Node). (state_at db key x).entry) (own_node n u.node w (ltb-true n (length w.nodes) t)) ∙ e)
    (λ f. ap (λ (x : Node). (state_at db key x).entry) (past_node w.nodes n u.node (ltb-false n (length w.nodes) f)) ∙ absent_entry db key)

-- the event is given to a node, whose lines come after some that tell no removal
fed_clears : (c : Config) (rules : Rules) (r : Lines) (g db : ℕ) (key : List ℕ) (s : Step) (calls : List PendingCall) (n : ℕ) (e : Event) (own : List Line) (w v : Cluster) (x : Stepped) → AllAscend w → is_up n w ≡ true → node_at n v ≡ node_at n w →
    ((xs : List Line) → is_removed r g db key (told_lines s calls (own ++ xs)) ≡ is_removed r g db key (told_lines s calls xs)) → fed c rules n e own v ≡ Ok x → Clears r g db key w x.cluster (told_lines s calls x.lines)
unfolding put
fed_clears c rules r g db key s calls n e own w v x order up same quiet ok told =
    let u = node_steps.happens c rules n (begins (node_at n v)) e in
    let f = fed_is c rules n e own v x ok in
    let of_node : is_removed r g db key (labels_of n calls u.outs) ≡ true
    = sym (ap (is_removed r g db key) (labels_are s n (length v.sent + 1) calls u.outs)) ∙ sym (quiet (lines_of n (length v.sent + 1) u.outs)) ∙ sym (ap (λ (y : Stepped). is_removed r g db key (told_lines s calls y.lines)) f.1) ∙ told in
    let mine = told_removal r g db key n calls (begins (node_at n v)) u (happens_remove c rules n (begins (node_at n v)) e db key (subst NodeAscends (sym same) (order n)) (starts_silent db key (begins (node_at n v)) refl)) of_node in
    record {
      node = n;
      up = up;
      line = told_in_line r g db key n calls u.outs of_node;
      master = mine.0 ∙ ap (λ (y : Node). master_of y.members key) same;
      entry = ap (λ (y : Stepped). (state_at db key (node_at n y.cluster)).entry) f.1 ∙ put_entry n u own v db key mine.1;
    }

-- no event: these lines tell no removal
done_clears : (r : Lines) (g db : ℕ) (key : List ℕ) (s : Step) (calls : List PendingCall) (lines : List Line) (w v : Cluster) (x : Stepped) → is_removed r g db key (told_lines s calls lines) ≡ false → done lines v ≡ Ok x → Clears r g db key w x.cluster (told_lines s calls x.lines)
unfolding done
done_clears r g db key s calls lines w v x none ok told = absurd (let same : record { cluster = v; lines = lines } ≡ x = cc in let k = sym none ∙ ap (λ (y : Stepped). is_removed r g db key (told_lines s calls y.lines)) same ∙ told in cc)

-- ---- every step

pub same_node : (k n : ℕ) (m : Sent) (f : Fate) (w : Cluster) → node_at n (with_fate k m f w) ≡ node_at n w
unfolding with_fate node_at
same_node zero n m f w = refl
same_node (suc k) n m f w = refl

deliver_clears : (c : Config) (rules : Rules) (r : Lines) (g db : ℕ) (key : List ℕ) (s : Step) (calls : List PendingCall) (k : ℕ) (w : Cluster) (m : Option Sent) (x : Stepped) → AllAscend w → deliver c rules k w m ≡ Ok x → Clears r g db key w x.cluster (told_lines s calls x.lines)
unfolding deliver told_lines told_line
deliver_clears c rules r g db key s calls k w None x order ok = done_clears r g db key s calls [] w w x refl ok
deliver_clears c rules r g db key s calls k w (Some m) x order ok =
    cond_both (is_up m.frame.receiver w) (fed c rules m.frame.receiver (event.Arrive m.frame) [] (with_fate k m Delivered w)) _ (λ (y : Result Stepped StepFault). y ≡ Ok x → Clears r g db key w x.cluster (told_lines s calls x.lines))
    (λ up is. fed_clears c rules r g db key s calls m.frame.receiver (event.Arrive m.frame) [] w (with_fate k m Delivered w) x order up (same_node k m.frame.receiver m Delivered w) (λ xs. refl) is)
    (λ _ is. done_clears r g db key s calls (line.Lost k ∷ []) w _ x refl is) ok

repeat_clears : (c : Config) (rules : Rules) (r : Lines) (g db : ℕ) (key : List ℕ) (s : Step) (calls : List PendingCall) (k : ℕ) (w : Cluster) (m : Option Sent) (x : Stepped) → AllAscend w → repeat c rules k w m ≡ Ok x → Clears r g db key w x.cluster (told_lines s calls x.lines)
unfolding repeat told_lines told_line
repeat_clears c rules r g db key s calls k w None x order ok = done_clears r g db key s calls [] w w x refl ok
repeat_clears c rules r g db key s calls k w (Some m) x order ok =
    cond_both (is_up m.frame.receiver w) (fed c rules m.frame.receiver (event.Arrive m.frame) [] w) _ (λ (y : Result Stepped StepFault). y ≡ Ok x → Clears r g db key w x.cluster (told_lines s calls x.lines))
    (λ up is. fed_clears c rules r g db key s calls m.frame.receiver (event.Arrive m.frame) [] w w x order up refl (λ xs. refl) is)
    (λ _ is. done_clears r g db key s calls (line.Lost k ∷ []) w _ x refl is) ok

drop_clears : (r : Lines) (g db : ℕ) (key : List ℕ) (s : Step) (calls : List PendingCall) (k : ℕ) (w : Cluster) (m : Option Sent) (x : Stepped) → drop k w m ≡ Ok x → Clears r g db key w x.cluster (told_lines s calls x.lines)
unfolding drop told_lines
drop_clears r g db key s calls k w None x ok = done_clears r g db key s calls [] w w x refl ok
drop_clears r g db key s calls k w (Some m) x ok = done_clears r g db key s calls [] w _ x refl ok

gone_none : (r : Lines) (g db : ℕ) (key : List ℕ) (s : Step) (calls ended : List PendingCall) → is_removed r g db key (told_lines s calls (gone ended)) ≡ false
unfolding gone told_lines told_line
gone_none r g db key s calls [] = refl
gone_none r g db key s calls (x ∷ xs) = gone_none r g db key s calls xs

-- the lines of a step that is not refused
lines_clear : (c : Config) (rules : Rules) (r : Lines) (g db : ℕ) (key : List ℕ) (w : Cluster) (s : Step) (calls : List PendingCall) (x : Stepped) → AllAscend w → fault_of c w s ≡ None → steps c rules w s ≡ Ok x → Clears r g db key w x.cluster (told_lines s calls x.lines)
unfolding steps fault_of stop recover node_at told_lines told_line is_removal
lines_clear c rules r g db key w (step.Client n o) calls x order may ok = fed_clears c rules r g db key (step.Client n o) calls n (event.Client (w.calls + 1) o) [] w (record w { calls = w.calls + 1 }) x order (runs w n _ _ may) refl (λ xs. refl) ok
lines_clear c rules r g db key w (step.Deliver k) calls x order may ok = deliver_clears c rules r g db key (step.Deliver k) calls k w (sent_at k w) x order ok
lines_clear c rules r g db key w (step.Drop k) calls x order may ok = drop_clears r g db key (step.Drop k) calls k w (sent_at k w) x ok
lines_clear c rules r g db key w (step.Repeat k) calls x order may ok = repeat_clears c rules r g db key (step.Repeat k) calls k w (sent_at k w) x order ok
lines_clear c rules r g db key w (step.Retry n) calls x order may ok = fed_clears c rules r g db key (step.Retry n) calls n event.Retry [] w w x order (runs w n _ _ may) refl (λ xs. refl) ok
lines_clear c rules r g db key w (step.Vacuum n d) calls x order may ok = fed_clears c rules r g db key (step.Vacuum n d) calls n (event.Vacuum d) [] w w x order (runs w n _ _ may) refl (λ xs. refl) ok
lines_clear c rules r g db key w (step.Recover n members) calls x order may ok =
    fed_clears c rules r g db key (step.Recover n members) calls n (event.BeginRound (w.ticket + 1) members) (line.Ticket (w.ticket + 1) n ∷ []) w (record w { holder = Some n; ticket = w.ticket + 1 }) x order (runs w n _ _ may) refl (λ xs. refl) ok
lines_clear c rules r g db key w (step.Yield n) calls x order may ok = done_clears r g db key (step.Yield n) calls (line.Yielded n ∷ []) w _ x refl ok
lines_clear c rules r g db key w (step.Stop n) calls x order may ok = done_clears r g db key (step.Stop n) calls (line.Stopped n ∷ gone (pending_at n w)) w _ x (gone_none r g db key (step.Stop n) calls (pending_at n w)) ok
lines_clear c rules r g db key w (step.Start n) calls x order may ok = done_clears r g db key (step.Start n) calls (line.Started n ∷ []) w _ x refl ok
lines_clear c rules r g db key w (step.Takeover n) calls x order may ok = fed_clears c rules r g db key (step.Takeover n) calls n (event.BeginTakeover (able_from 0 w.able)) [] w w x order (runs w n _ _ may) refl (λ xs. refl) ok
lines_clear c rules r g db key w (step.Able n able) calls x order may ok = done_clears r g db key (step.Able n able) calls [] w _ x refl ok

-- ---- what a step tells before its lines

begun_none : (r : Lines) (g db : ℕ) (key : List ℕ) (n call : ℕ) (asked : ClientOp) (lines : List Line) → is_removed r g db key (begun_by n call asked lines) ≡ false
unfolding begun_by is_removal
begun_none r g db key n call (op.Commit d writes) lines = cond_both (refuses call lines) _ _ (λ (l : List Label). is_removed r g db key l ≡ false) (λ _. refl) (λ _. refl)
begun_none r g db key n call _ lines = refl

own_none : (r : Lines) (g db : ℕ) (key : List ℕ) (w : Cluster) (s : Step) (lines : List Line) → is_removed r g db key (own_labels w s lines) ≡ false
unfolding own_labels is_removal
own_none r g db key w (step.Client n o) lines = begun_none r g db key n (w.calls + 1) o lines
own_none r g db key w (step.Takeover n) lines = refl
own_none r g db key w _ lines = refl

-- ---- one step of the cluster

applied_clears : (c : Config) (rules : Rules) (r : Lines) (g db : ℕ) (key : List ℕ) (w : Cluster) (s : Step) (x : Stepped) (f : Option StepFault) → AllAscend w → fault_of c w s ≡ f → steps_or c rules w s f ≡ Ok x → Clears r g db key w x.cluster (told_step w s x.lines)
unfolding steps_or told_step
applied_clears c rules r g db key w s x (Some f) order may ok told = absurd (cc)
applied_clears c rules r g db key w s x None order may ok told = lines_clear c rules r g db key w s (answerable w s) x order may ok
    (sym (list_any-append (is_removal r g db key) (own_labels w s x.lines) (told_lines s (answerable w s) x.lines) ∙ (λ i. own_none r g db key w s x.lines i || is_removed r g db key (told_lines s (answerable w s) x.lines))) ∙ told)

taken_clears : (c : Config) (rules : Rules) (r : Lines) (g db : ℕ) (key : List ℕ) (w : Cluster) (s : Step) (y : Result Stepped StepFault) → AllAscend w → applied c rules w s ≡ y → Clears r g db key w (came_of w s y).cluster (came_of w s y).trace
unfolding came_of unchanged applied
taken_clears c rules r g db key w s (Ok x) order is told = applied_clears c rules r g db key w s x (fault_of c w s) order refl is told
taken_clears c rules r g db key w s (Err f) order is told = absurd (cc)

-- where a step tells the removal of a record of a line, its location master at a node of the line has no entry of it
pub step_clears : (c : Config) (rules : Rules) (r : Lines) (g db : ℕ) (key : List ℕ) (w : Cluster) (s : Step) → AllAscend w → Clears r g db key w (outcome c rules w s).cluster (outcome c rules w s).trace
unfolding outcome unchanged
step_clears c rules r g db key w s order = ⊎_elim
    (λ (t : is_allowed s ≡ true). rw t (taken_clears c rules r g db key w s (applied c rules w s) order refl))
    (λ (f : is_allowed s ≡ false). rw f (λ told. absurd (cc)))
    (cases_Bool (is_allowed s))
