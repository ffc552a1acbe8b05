-- What a run tells with its log is what it tells with the calls that wait: no answer is unasked.
use Rattle.std.proofs.Common.{◌≡◌, ◌≢◌, ℕ, zero, suc, ◌+◌, Bool, true, false, cond, ◌||◌, List, [], ◌∷◌, ◌++◌, Option, Some, None, refl, sym, ◌∙◌, ap, subst, arith, ⊎_elim}
use Rattle.std.specs.Prelude.{slice_get, nat_eq, Ok}
use Rattle.std.specs.List.{AllByRecursion, list_any}
use Rattle.std.proofs.lemmas.Bool.{cases_eq, eqb-true, eq-eqb, ne_eqb, or_left, or_right, cases_Bool}
use Rattle.ct_values.specs.declared.client.Answer.{Answer}
use Rattle.ct_values.specs.declared.client.ClientOp.{ClientOp}
use Rattle.ct_values.specs.declared.config.Config.{Config}
use Rattle.ct_call.specs.Rules.{Rules}
use Rattle.ct_rules_node.specs.Node.{Node}
use Rattle.ct_law_rules_node.proofs.Numbered.{numbered_all, numbered_any}
use Rattle.ct_rules_cluster.specs.Cluster.{Cluster, absent, or_absent, node_at, pending_in, pending_from, pending}
use Rattle.ct_rules_cluster.specs.Faults.{fault_of}
use Rattle.ct_rules_cluster.specs.Labels.{Label, Answered}
use Rattle.ct_rules_cluster.specs.Steps.{Stepped, steps}
use Rattle.ct_rules_cluster.specs.Traces.{OpenCall, asked_in, closed, opened, closed_by, closed_by_all, answer_label, label_of, line_labels, own_labels, labels}
use Rattle.ct_rules_cluster.specs.declared.step.Line.{Line}
use Rattle.ct_rules_cluster.specs.declared.step.Line.TheVariants as line
use Rattle.ct_rules_cluster.specs.declared.step.PendingCall.{PendingCall}
use Rattle.ct_rules_cluster.specs.declared.step.Step.{Step}
use Rattle.ct_rules_cluster.specs.declared.step.Step.TheVariants as step
use Rattle.ct_law_generation.proofs.Pending.{is_call, next_index, zero_more}
use Rattle.ct_lcp2.proofs.Choices.{all_append}
use Rattle.ct_promise.specs.Promises.{CallsStand}
use Rattle.ct_law_generation.specs.Waiting.{answerable, answered, told_line, told_lines, told_step}
use Rattle.ct_law_generation.proofs.Opened.{Opened, without, case_open, some_none}
use Rattle.ct_law_generation.proofs.Accounts.{Stands, with_call, own_call, other_call, like_stands}
use Rattle.ct_law_generation.proofs.Waiting.{Fits, stands_fit, stands_any}
use Rattle.ct_law_generation.proofs.CallsOpen.{closes, AllAnswered, opened_by, Calls, Calls_after}
use Rattle.ct_law_generation.proofs.Stops.{every_step}

-- the open calls of a log, by number
abbrev pub by_log : List OpenCall → Opened
by_log log k = asked_in k log

-- ---- a log and what is open by number

none_case : (b : Bool) (x : Option (ℕ × ClientOp)) → x ≡ cond b x x
none_case true x = refl
none_case false x = refl

same_end : (k call : ℕ) (x : OpenCall) (y : Option (ℕ × ClientOp)) → call ≡ x.call → cond (nat_eq k call) None y ≡ cond (nat_eq k call) None (cond (nat_eq k x.call) (Some (x.node, x.asked)) y)
same_end k call x y e = subst (λ (i : ℕ). cond (nat_eq k call) None y ≡ cond (nat_eq k call) None (cond (nat_eq k i) (Some (x.node, x.asked)) y)) e (twice (nat_eq k call) (Some (x.node, x.asked)) y)
  where
    twice : (b : Bool) (z y : Option (ℕ × ClientOp)) → cond b None y ≡ cond b None (cond b z y)
    twice true z y = refl
    twice false z y = refl

other_end : (k call : ℕ) (x : OpenCall) (y : Option (ℕ × ClientOp)) → nat_eq call x.call ≡ false → cond (nat_eq k x.call) (Some (x.node, x.asked)) (cond (nat_eq k call) None y) ≡ cond (nat_eq k call) None (cond (nat_eq k x.call) (Some (x.node, x.asked)) y)
other_end k call x y f = ⊎_elim
    (λ (is : k ≡ call). rw is (rw f (rw (eq-eqb call call refl) refl)))
    (λ (ne : k ≢ call). rw (ne_eqb k call ne) refl)
    (cases_eq k call)

closed_is : (call k : ℕ) (log : List OpenCall) → asked_in k (closed call log) ≡ without call (by_log log) k
unfolding asked_in closed without
closed_is call k [] = none_case (nat_eq k call) None
closed_is call k (x ∷ xs) = ⊎_elim
    (λ (t : nat_eq call x.call ≡ true). ap (λ (b : Bool). asked_in k (cond b (closed call xs) (x ∷ closed call xs))) t ∙ closed_is call k xs ∙ same_end k call x (asked_in k xs) (eqb-true call x.call t))
    (λ (f : nat_eq call x.call ≡ false). ap (λ (b : Bool). asked_in k (cond b (closed call xs) (x ∷ closed call xs))) f ∙ ap (λ (y : Option (ℕ × ClientOp)). cond (nat_eq k x.call) (Some (x.node, x.asked)) y) (closed_is call k xs) ∙ other_end k call x (asked_in k xs) f)
    (cases_Bool (nat_eq call x.call))

opened_is : (w : Cluster) (s : Step) (log : List OpenCall) → opened_by w s (by_log log) ≡ by_log (opened w s log)
unfolding opened_by opened asked_in
opened_is w (step.Client n o) log = refl
opened_is w (step.Deliver k) log = refl
opened_is w (step.Drop k) log = refl
opened_is w (step.Repeat k) log = refl
opened_is w (step.Retry n) log = refl
opened_is w (step.Vacuum n db) log = refl
opened_is w (step.Recover n members) log = refl
opened_is w (step.Yield n) log = refl
opened_is w (step.Stop n) log = refl
opened_is w (step.Start n) log = refl
opened_is w (step.Takeover n) log = refl
opened_is w (step.Able n able) log = refl

-- both in one way
like_without : (call : ℕ) (f g : Opened) → ((k : ℕ) → f k ≡ g k) → (k : ℕ) → without call f k ≡ without call g k
unfolding without
like_without call f g like k = ap (λ (y : Option (ℕ × ClientOp)). cond (nat_eq k call) None y) (like k)

closes_is : (xs : List Line) (f : Opened) (log : List OpenCall) → ((k : ℕ) → f k ≡ asked_in k log) → (k : ℕ) → closes xs f k ≡ asked_in k (closed_by_all xs log)
unfolding closes closed_by closed_by_all
closes_is [] f log like k = like k
closes_is (line.Answered call a ∷ xs) f log like k = closes_is xs (without call f) (closed call log) (λ j. like_without call f (by_log log) like j ∙ sym (closed_is call j log)) k
closes_is (line.Gone call ∷ xs) f log like k = closes_is xs (without call f) (closed call log) (λ j. like_without call f (by_log log) like j ∙ sym (closed_is call j log)) k
closes_is (line.Sent i x ∷ xs) f log like k = closes_is xs f log like k
closes_is (line.Noted n x ∷ xs) f log like k = closes_is xs f log like k
closes_is (line.Ticket t n ∷ xs) f log like k = closes_is xs f log like k
closes_is (line.Yielded n ∷ xs) f log like k = closes_is xs f log like k
closes_is (line.Stopped n ∷ xs) f log like k = closes_is xs f log like k
closes_is (line.Started n ∷ xs) f log like k = closes_is xs f log like k
closes_is (line.Lost i ∷ xs) f log like k = closes_is xs f log like k

like_calls : (c : Config) (w : Cluster) (f g : Opened) → ((k : ℕ) → f k ≡ g k) → Calls c w f → Calls c w g
like_calls c w f g like h = record { size = h.size; there = h.there; sized = h.sized; nodes = λ n. like_stands n f g (node_at n w) like (h.nodes n); given = λ k v e. h.given k v (like k ∙ e) }

-- ---- the calls that wait in the cluster

-- the call is open, at its node and with what it asked
unfoldable IsOpen : Opened → PendingCall → Type 0
IsOpen who x = who x.call ≡ Some (x.node, x.op)

fits_open : (n : ℕ) (who : Opened) (xs : List PendingCall) → AllByRecursion (Fits n who) xs → AllByRecursion (IsOpen who) xs
unfolding Fits IsOpen
fits_open n who [] h = tt
fits_open n who (x ∷ xs) h = (h.0.0, fits_open n who xs h.1)

nodes_open : (who : Opened) (i : ℕ) (ns : List Node) → ((k : ℕ) → Stands (i + k) who (or_absent (slice_get ns k))) → AllByRecursion (IsOpen who) (pending_from i ns)
unfolding pending_from or_absent
nodes_open who i [] all = tt
nodes_open who i (x ∷ ns) all = all_append (IsOpen who) (pending_in i 0 x.dbs) (pending_from (i + 1) ns)
    (fits_open i who (pending_in i 0 x.dbs) (stands_fit i who x (subst (λ (j : ℕ). Stands j who x) (omega arith) (all 0))))
    (nodes_open who (i + 1) ns (λ k. subst (λ (j : ℕ). Stands j who (or_absent (slice_get ns k))) (next_index i k) (all (suc k))))

any_more : (f : PendingCall → Bool) (xs ys : List PendingCall) → list_any f (xs ++ ys) ≡ (list_any f xs || list_any f ys)
any_more f [] ys = refl
any_more f (x ∷ xs) ys = ap (λ (b : Bool). f x || b) (any_more f xs ys) ∙ or_more (f x) (list_any f xs) (list_any f ys)
  where
    or_more : (a b d : Bool) → (a || (b || d)) ≡ ((a || b) || d)
    or_more true b d = refl
    or_more false b d = refl

pub nodes_any : (f : PendingCall → Bool) (i k : ℕ) (ns : List Node) → list_any f (pending_in (i + k) 0 (or_absent (slice_get ns k)).dbs) ≡ true → list_any f (pending_from i ns) ≡ true
unfolding pending_from or_absent absent pending_in
nodes_any f i k [] e = absurd (cc)
nodes_any f i zero (x ∷ ns) e = any_more f (pending_in i 0 x.dbs) (pending_from (i + 1) ns) ∙ or_left _ _ (subst (λ (j : ℕ). list_any f (pending_in j 0 x.dbs) ≡ true) (omega arith) e)
nodes_any f i (suc k) (x ∷ ns) e = any_more f (pending_in i 0 x.dbs) (pending_from (i + 1) ns) ∙ or_right _ _ (nodes_any f (i + 1) k ns (subst (λ (j : ℕ). list_any f (pending_in j 0 (or_absent (slice_get ns k)).dbs) ≡ true) (next_index i k) e))

pending_open : (c : Config) (w : Cluster) (who : Opened) → Calls c w who → AllByRecursion (IsOpen who) (pending w)
unfolding pending node_at
pending_open c w who h = numbered_all (λ x. x.call) (IsOpen who) (pending_from 0 w.nodes) (nodes_open who 0 w.nodes (λ k. subst (λ (j : ℕ). Stands j who (or_absent (slice_get w.nodes k))) (zero_more k) (h.nodes k)))

pending_any : (c : Config) (w : Cluster) (who : Opened) (k n : ℕ) (o : ClientOp) → Calls c w who → who k ≡ Some (n, o) → list_any (is_call k) (pending w) ≡ true
unfolding pending node_at
pending_any c w who k n o h e = numbered_any (λ x. x.call) (is_call k) (pending_from 0 w.nodes)
    ∙ nodes_any (is_call k) 0 n w.nodes (subst (λ (j : ℕ). list_any (is_call k) (pending_in j 0 (or_absent (slice_get w.nodes n)).dbs) ≡ true) (zero_more n) (stands_any n who (or_absent (slice_get w.nodes n)) k o (h.nodes n) e))

pub calls_stand : (c : Config) (w : Cluster) (log : List OpenCall) → Calls c w (by_log log) → CallsStand w log
unfolding IsOpen is_call
calls_stand c w log h = record { waiting = pending_open c w (by_log log) h; kept = λ call n asked e. pending_any c w (by_log log) call n asked h e }

-- ---- the labels

-- an answer to an open call has its label in this list of calls
abbrev Right : List PendingCall → Opened → Type 0
Right calls who = (k : ℕ) (a : Answer) (v : ℕ × ClientOp) → who k ≡ Some v → answered k a calls ≡ Answered v.0 v.1 a ∷ []

or_that : ℕ × ClientOp → Option (ℕ × ClientOp) → ℕ × ClientOp
or_that v None = v
or_that v (Some x) = x

pub same_some : (x v : ℕ × ClientOp) → Some x ≡ Some v → x ≡ v
unfolding or_that
same_some x v e = ap (or_that v) e

answered_right : (who : Opened) (k : ℕ) (a : Answer) (v : ℕ × ClientOp) (xs : List PendingCall) → AllByRecursion (IsOpen who) xs → list_any (is_call k) xs ≡ true → who k ≡ Some v → answered k a xs ≡ Answered v.0 v.1 a ∷ []
unfolding answered is_call IsOpen
answered_right who k a v [] h any e = absurd (cc)
answered_right who k a v (x ∷ xs) h any e = ⊎_elim
    (λ (t : nat_eq x.call k ≡ true). ap (λ (b : Bool). cond b (Answered x.node x.op a ∷ []) (answered k a xs)) t
    ∙ ap (λ (z : ℕ × ClientOp). Answered z.0 z.1 a ∷ []) (same_some (x.node, x.op) v (sym h.0 ∙ ap who (eqb-true x.call k t) ∙ e)))
    (λ (f : nat_eq x.call k ≡ false). ap (λ (b : Bool). cond b (Answered x.node x.op a ∷ []) (answered k a xs)) f
    ∙ answered_right who k a v xs h.1 (sym (ap (λ (b : Bool). b || list_any (is_call k) xs) f) ∙ any) e)
    (cases_Bool (nat_eq x.call k))

right_pending : (c : Config) (w : Cluster) (who : Opened) → Calls c w who → Right (pending w) who
right_pending c w who h k a v e = answered_right who k a v (pending w) (pending_open c w who h) (pending_any c w who k v.0 v.1 h e) e

right_calls : (c : Config) (w : Cluster) (s : Step) (who : Opened) → Calls c w who → Right (answerable w s) (opened_by w s who)
unfolding answerable opened_by answered
right_calls c w (step.Client n o) who h k a v e = ⊎_elim
    (λ (is : k ≡ w.calls + 1). ap (λ (b : Bool). cond b (Answered n o a ∷ []) (answered k a (pending w))) (eq-eqb (w.calls + 1) k (sym is))
    ∙ ap (λ (z : ℕ × ClientOp). Answered z.0 z.1 a ∷ []) (same_some (n, o) v (sym (own_call (w.calls + 1) (n, o) who) ∙ ap (with_call (w.calls + 1) (n, o) who) (sym is) ∙ e)))
    (λ (ne : k ≢ w.calls + 1). ap (λ (b : Bool). cond b (Answered n o a ∷ []) (answered k a (pending w))) (ne_eqb (w.calls + 1) k (λ is. ne (sym is)))
    ∙ right_pending c w who h k a v (sym (other_call (w.calls + 1) k (n, o) who ne) ∙ e))
    (cases_eq k (w.calls + 1))
right_calls c w (step.Deliver k) who h k' a v e = right_pending c w who h k' a v e
right_calls c w (step.Drop k) who h k' a v e = right_pending c w who h k' a v e
right_calls c w (step.Repeat k) who h k' a v e = right_pending c w who h k' a v e
right_calls c w (step.Retry n) who h k' a v e = right_pending c w who h k' a v e
right_calls c w (step.Vacuum n db) who h k' a v e = right_pending c w who h k' a v e
right_calls c w (step.Recover n members) who h k' a v e = right_pending c w who h k' a v e
right_calls c w (step.Yield n) who h k' a v e = right_pending c w who h k' a v e
right_calls c w (step.Stop n) who h k' a v e = right_pending c w who h k' a v e
right_calls c w (step.Start n) who h k' a v e = right_pending c w who h k' a v e
right_calls c w (step.Takeover n) who h k' a v e = right_pending c w who h k' a v e
right_calls c w (step.Able n able) who h k' a v e = right_pending c w who h k' a v e

like_answered : (xs : List Line) (f g : Opened) → ((k : ℕ) → f k ≡ g k) → AllAnswered xs f → AllAnswered xs g
unfolding AllAnswered
like_answered [] f g like h = tt
like_answered (line.Answered call a ∷ xs) f g like h = ((h.0.0, sym (like call) ∙ h.0.1), like_answered xs (without call f) (without call g) (like_without call f g like) h.1)
like_answered (line.Gone call ∷ xs) f g like h = like_answered xs (without call f) (without call g) (like_without call f g like) h
like_answered (line.Sent i x ∷ xs) f g like h = like_answered xs f g like h
like_answered (line.Noted n x ∷ xs) f g like h = like_answered xs f g like h
like_answered (line.Ticket t n ∷ xs) f g like h = like_answered xs f g like h
like_answered (line.Yielded n ∷ xs) f g like h = like_answered xs f g like h
like_answered (line.Stopped n ∷ xs) f g like h = like_answered xs f g like h
like_answered (line.Started n ∷ xs) f g like h = like_answered xs f g like h
like_answered (line.Lost i ∷ xs) f g like h = like_answered xs f g like h

still_right : (calls : List PendingCall) (call : ℕ) (log : List OpenCall) → Right calls (by_log log) → Right calls (by_log (closed call log))
unfolding without
still_right calls call log h k a v e = h k a v (case_open (nat_eq k call) (asked_in k log) (Some v) (sym (closed_is call k log) ∙ e) (some_none v)).1

lines_as : (s : Step) (calls : List PendingCall) (xs : List Line) (log : List OpenCall) → Right calls (by_log log) → AllAnswered xs (by_log log) → line_labels s log xs ≡ told_lines s calls xs
unfolding line_labels label_of closed_by answer_label told_lines told_line AllAnswered
lines_as s calls [] log r h = refl
lines_as s calls (line.Answered call a ∷ xs) log r h =
    ap (λ (l : List Label). answer_label call a (asked_in call log) ∷ l) (lines_as s calls xs (closed call log) (still_right calls call log r) (like_answered xs (without call (by_log log)) (by_log (closed call log)) (λ k. sym (closed_is call k log)) h.1))
    ∙ ap (λ (y : Option (ℕ × ClientOp)). answer_label call a y ∷ told_lines s calls xs) h.0.1
    ∙ ap (λ (l : List Label). l ++ told_lines s calls xs) (sym (r call a h.0.0 h.0.1))
lines_as s calls (line.Gone call ∷ xs) log r h = lines_as s calls xs (closed call log) (still_right calls call log r) (like_answered xs (without call (by_log log)) (by_log (closed call log)) (λ k. sym (closed_is call k log)) h)
lines_as s calls (line.Sent i x ∷ xs) log r h = ap (λ (l : List Label). label_of s log (line.Sent i x) ++ l) (lines_as s calls xs log r h)
lines_as s calls (line.Noted n x ∷ xs) log r h = ap (λ (l : List Label). label_of s log (line.Noted n x) ++ l) (lines_as s calls xs log r h)
lines_as s calls (line.Ticket t n ∷ xs) log r h = ap (λ (l : List Label). label_of s log (line.Ticket t n) ++ l) (lines_as s calls xs log r h)
lines_as s calls (line.Yielded n ∷ xs) log r h = ap (λ (l : List Label). label_of s log (line.Yielded n) ++ l) (lines_as s calls xs log r h)
lines_as s calls (line.Stopped n ∷ xs) log r h = ap (λ (l : List Label). label_of s log (line.Stopped n) ++ l) (lines_as s calls xs log r h)
lines_as s calls (line.Started n ∷ xs) log r h = ap (λ (l : List Label). label_of s log (line.Started n) ++ l) (lines_as s calls xs log r h)
lines_as s calls (line.Lost i ∷ xs) log r h = lines_as s calls xs log r h

-- ---- a step

-- What a step tells with the log is what it tells with the calls that wait, and these are the open ones again.
pub record Logs (c : Config) (w : Cluster) (s : Step) (log : List OpenCall) (x : Stepped) : Type 0 where
  pub trace : labels w s log x.lines ≡ told_step w s x.lines
  pub calls : Calls c x.cluster (by_log (closed_by_all x.lines (opened w s log)))

pub step_logs : (c : Config) (rules : Rules) (w : Cluster) (s : Step) (x : Stepped) (log : List OpenCall) → Calls c w (by_log log) → fault_of c w s ≡ None → steps c rules w s ≡ Ok x → Logs c w s log x
unfolding labels told_step
step_logs c rules w s x log h e ok =
    let a : Calls_after c (opened_by w s (by_log log)) x = every_step c rules w s x (by_log log) h e ok in
    record {
      trace = ap (λ (l : List Label). own_labels w s x.lines ++ l) (lines_as s (answerable w s) x.lines (opened w s log)
          (subst (λ (f : Opened). Right (answerable w s) f) (opened_is w s log) (right_calls c w s (by_log log) h))
          (subst (λ (f : Opened). AllAnswered x.lines f) (opened_is w s log) a.answered));
      calls = like_calls c x.cluster _ (by_log (closed_by_all x.lines (opened w s log))) (closes_is x.lines (opened_by w s (by_log log)) (opened w s log) (λ k. ap (λ (f : Opened). f k) (opened_is w s log))) a.calls;
    }
