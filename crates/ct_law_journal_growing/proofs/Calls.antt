-- Which calls wait at a node, and how large their numbers are.
use Rattle.std.proofs.Common.{◌≡◌, ℕ, ◌<◌, ◌^◌, Bool, true, cond, ◌&&◌, List, [], ◌∷◌, Option, Some, None, refl, sym, ap, ◌∙◌, arith}
use Rattle.std.proofs.lemmas.Bool.{and_parts, lt-ltb, le-leb}
use Rattle.std.specs.Prelude.{nat_le, nat_lt}
use Rattle.std.specs.List.{AllByRecursion, list_all}
use Rattle.ct_values.specs.declared.client.ClientOp.{ClientOp}
use Rattle.ct_values.specs.declared.config.Config.{Config}
use Rattle.ct_call.specs.Rules.{Rules}
use Rattle.ct_rules_cluster.specs.Cluster.{everyone}
use Rattle.ct_script.specs.Cues.{greatest_call, number_of_call}
use Rattle.ct_frame.specs.declared.event.Event.{Event}
use Rattle.ct_frame.specs.declared.event.Event.TheVariants as event
use Rattle.ct_journal.specs.Runs.{IsRun}
use Rattle.ct_journal.specs.declared.journal.JournalEntry.{JournalEntry}
use Rattle.ct_law_journal_growing.specs.CueLaws.{CallsMayCome, CallsRunOut}
use Rattle.ct_law_journal_numbers.specs.Renumbered.{calls_only, commits_only, holds_only, records_only}
use Rattle.ct_law_journal_numbers.proofs.Calls.{all_among}
use Rattle.ct_law_journal_numbers.proofs.Held.{holds_no_other, opens_without_calls}
use Rattle.ct_rules_node.specs.Clients.{client, refusal, serves_or}
use Rattle.ct_rules_node.specs.Coming.{is_after_commit, is_after_pending}
use Rattle.ct_rules_node.specs.Node.{Node, Database, Committing, opening}
use Rattle.ct_rules_node.specs.Rounds.{Called, calls_in, pending_calls}
use Rattle.ct_rules_node.specs.Steps.{happens, unless_spent}
use Rattle.ct_rules_node.specs.Turn.{Turn, begins, makes}
use Rattle.ct_law_rules_node.proofs.Growing.{happens_grows}
use Rattle.ct_law_rules_node.proofs.Numbered.{numbered_all}
use Rattle.ct_law_journal_numbers.proofs.Runs.{or_again, made_spent}

-- ---- the calls that a run leaves are below a number that all its calls are below

-- the numbers below this one
abbrev pub below : ℕ → ℕ → Bool
below call n = nat_lt n call

event_below : (call : ℕ) (e : Event) → number_of_call e < call → calls_only (below call) e ≡ true
unfolding calls_only number_of_call
event_below call (event.Client n o) l = lt-ltb n call l
event_below call (event.Arrive f) l = refl
event_below call event.Retry l = refl
event_below call (event.Vacuum db) l = refl
event_below call (event.BeginRound ticket members) l = refl
event_below call (event.BeginTakeover able) l = refl

run_below : (c : Config) (rules : Rules) (me call : ℕ) (old : Node) (xs : List JournalEntry) (new : Node) → holds_only (below call) old ≡ true → greatest_call xs < call → IsRun c rules me old xs new → holds_only (below call) new ≡ true
unfolding IsRun greatest_call
run_below c rules me call old [] new h l is = ap (λ (n : Node). holds_only (below call) n) (sym is) ∙ h
run_below c rules me call old (x ∷ xs) new h l is =
    let own : calls_only (below call) x.event ≡ true = event_below call x.event (omega arith) in
    run_below c rules me call is.0 xs new (holds_no_other (below call) c rules me x.event old _ h own is.1.steps) (omega arith) is.2

-- ---- so is each call that waits

waiting_below : (call : ℕ) (xs : List Called) → AllByRecursion (λ y. below call y.call ≡ true) xs → list_all (λ y. nat_lt y.call call) xs ≡ true
waiting_below call [] h = refl
waiting_below call (x ∷ xs) h = (λ i. h.0 i && waiting_below call xs h.1 i)

commit_below : (call : ℕ) (x : Option Committing) → commits_only (below call) x ≡ true → is_after_commit call x ≡ true
unfolding is_after_commit commits_only
commit_below call None h = refl
commit_below call (Some x) h = h

commits_below : (call : ℕ) (ds : List Database) → list_all (λ d. records_only (below call) d.records && commits_only (below call) d.commit) ds ≡ true → list_all (λ d. is_after_commit call d.commit) ds ≡ true
commits_below call [] e = refl
commits_below call (d ∷ ds) e =
    let both = and_parts (records_only (below call) d.records && commits_only (below call) d.commit) (list_all (λ x. records_only (below call) x.records && commits_only (below call) x.commit) ds) e in
    let own = and_parts (records_only (below call) d.records) (commits_only (below call) d.commit) both.0 in
    (λ i. commit_below call d.commit own.1 i && commits_below call ds both.1 i)

pending_below : (call : ℕ) (n : Node) → holds_only (below call) n ≡ true → is_after_pending call n ≡ true
unfolding is_after_pending holds_only pending_calls
pending_below call n h =
    let among : AllByRecursion (λ y. below call y.call ≡ true) (calls_in 0 n.dbs) = all_among (λ k. k) (below call) 0 n.dbs h in
    (λ i. waiting_below call (pending_calls n) (numbered_all (λ y. y.call) (λ y. below call y.call ≡ true) (calls_in 0 n.dbs) among) i && commits_below call n.dbs h i)

pub calls_may_come : CallsMayCome
calls_may_come c rules me xs end call run l = pending_below call end (run_below c rules me call (opening c (everyone c)) xs end (opens_without_calls (below call) c (everyone c)) l run)

-- ---- a call whose number is too large is refused

-- a call's own number is spent once, however often it is made
happens_again : (c : Config) (rules : Rules) (me call : ℕ) (o : ClientOp) (t : Turn) → happens c rules me (makes call t) (event.Client call o) ≡ happens c rules me t (event.Client call o)
unfolding happens client makes
happens_again c rules me call o t = ap (λ (b : Bool). serves_or c rules me call o (record t { spent = b }) (refusal c rules t.node o)) (or_again t.spent (nat_le (2 ^ 62) call))

none_spent : (t : Turn) → t.spent ≡ true → unless_spent t ≡ None
none_spent t e = ap (λ (b : Bool). cond b None (Some t)) e

pub calls_run_out : CallsRunOut
calls_run_out c rules me call o x l =
    let spent = (happens_grows c rules me (makes call (begins x)) (event.Client call o)).spent (made_spent call (begins x) (le-leb (2 ^ 62) call l) refl) in
    none_spent (happens c rules me (begins x) (event.Client call o)) (let all = ap (λ (u : Turn). u.spent) (happens_again c rules me call o (begins x)) in cc)
