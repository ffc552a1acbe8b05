-- Entries that are a run are one with other numbers of their calls.
use Rattle.std.proofs.Common.{◌≡◌, ℕ, ◌<◌, ◌^◌, Bool, true, false, cond, ◌&&◌, ◌||◌, List, [], ◌∷◌, map, Option, Some, None, refl, sym, ap, ◌∙◌, subst}
use Rattle.std.proofs.lemmas.Bool.{and_parts, eq-eqb, lt-leb, or_left, or_right}
use Rattle.std.specs.Prelude.{nat_le, nat_lt}
use Rattle.std.specs.List.{AllByRecursion, list_all, list_any}
use Rattle.ct_values.specs.declared.client.ClientOp.{ClientOp}
use Rattle.ct_values.specs.declared.config.Config.{Config}
use Rattle.ct_frame.specs.declared.event.Event.{Event}
use Rattle.ct_frame.specs.declared.event.Event.TheVariants as event
use Rattle.ct_frame.specs.declared.event.Out.{Out}
use Rattle.ct_frame.specs.declared.event.Out.TheVariants as out
use Rattle.ct_frame.specs.declared.frame.Frame.{Frame}
use Rattle.ct_call.specs.Rules.{Rules}
use Rattle.ct_rules_cluster.specs.Cluster.{everyone}
use Rattle.ct_rules_node.specs.Clients.{client, refusal, serves_or}
use Rattle.ct_rules_node.specs.Coming.{is_allowed_op, is_after_commit, is_after_pending, may_come}
use Rattle.ct_rules_node.specs.Node.{Node, Database, Committing, opening}
use Rattle.ct_rules_node.specs.Rounds.{Called, calls_in, pending_calls}
use Rattle.ct_rules_node.specs.Steps.{happens, stepped, unless_spent}
use Rattle.ct_rules_node.specs.Turn.{Turn, begins, makes}
use Rattle.ct_law_rules_node.proofs.Growing.{happens_grows}
use Rattle.ct_law_rules_node.proofs.Numbered.{numbered_all}
use Rattle.ct_journal.specs.Order.{frames_in}
use Rattle.ct_journal.specs.Runs.{IsEntry, IsRun, RunsTo}
use Rattle.ct_journal.specs.Schedules.{entry_under, event_under, has_call, is_call, out_under}
use Rattle.ct_journal.specs.declared.journal.Journal.{Journal}
use Rattle.ct_journal.specs.declared.journal.JournalEntry.{JournalEntry}
use Rattle.ct_law_journal_numbers.specs.Laws.{Renumbers, RisesOn}
use Rattle.ct_law_journal_numbers.specs.Renumbered.{commit_under, database_under, node_under, turn_under, step_under, records_only, commits_only, holds_only, calls_only}
use Rattle.ct_law_journal_numbers.proofs.Calls.{IsInOrder, all_among, in_order, same_order, waiting_under}
use Rattle.ct_law_journal_numbers.proofs.Held.{holds_no_other, opens_renumbered, opens_without_calls}
use Rattle.ct_law_journal_numbers.proofs.Steps.{Reaches, stepped_under}

-- ---- a step

reaches_by : (among : ℕ → Bool) (number : ℕ → ℕ) → ((call : ℕ) → among call ≡ true → nat_le (2 ^ 62) (number call) ≡ nat_le (2 ^ 62) call) → (e : Event) → calls_only among e ≡ true → Reaches number e
unfolding calls_only Reaches
reaches_by among number h (event.Client call o) k = h call k
reaches_by among number h (event.Arrive f) k = tt
reaches_by among number h event.Retry k = tt
reaches_by among number h (event.Vacuum db) k = tt
reaches_by among number h (event.BeginRound ticket members) k = tt
reaches_by among number h (event.BeginTakeover able) k = tt

pub steps_renumbered : (c : Config) (rules : Rules) (me : ℕ) (among : ℕ → Bool) (number : ℕ → ℕ) (e : Event) (x : Node) → Renumbers among number → holds_only among x ≡ true → calls_only among e ≡ true
    → stepped c rules me (event_under number e) (node_under number x) ≡ step_under number (stepped c rules me e x)
steps_renumbered c rules me among number e x r h k = stepped_under number c rules me e x (in_order number among r.rises x h) (reaches_by among number r.reaches e k)

-- ---- what may come

module _ (among : ℕ → Bool) (number : ℕ → ℕ) (rises : RisesOn among number) (call : ℕ) (own : among call ≡ true) where
  waiters_after : (xs : List Called) → AllByRecursion (λ y. among y.call ≡ true) xs → list_all (λ y. nat_lt y.call (number call)) (map (waiting_under number) xs) ≡ list_all (λ y. nat_lt y.call call) xs
  unfolding waiting_under
  waiters_after [] h = refl
  waiters_after (x ∷ xs) h = λ i. same_order among number rises x.call call h.0 own i && waiters_after xs h.1 i

  commit_after : (x : Option Committing) → commits_only among x ≡ true → is_after_commit (number call) (commit_under number x) ≡ is_after_commit call x
  unfolding is_after_commit commits_only commit_under
  commit_after None h = refl
  commit_after (Some x) h = same_order among number rises x.call call h own

  commits_after : (ds : List Database) → list_all (λ d. records_only among d.records && commits_only among d.commit) ds ≡ true
      → list_all (λ d. is_after_commit (number call) d.commit) (map (database_under number) ds) ≡ list_all (λ d. is_after_commit call d.commit) ds
  unfolding database_under
  commits_after [] e = refl
  commits_after (d ∷ ds) e =
      let both = and_parts (records_only among d.records && commits_only among d.commit) (list_all (λ x. records_only among x.records && commits_only among x.commit) ds) e in
      let own_commit = and_parts (records_only among d.records) (commits_only among d.commit) both.0 in
      λ i. commit_after d.commit own_commit.1 i && commits_after ds both.1 i

  pending_among : (n : Node) → holds_only among n ≡ true → AllByRecursion (λ y. among y.call ≡ true) (pending_calls n)
  unfolding pending_calls holds_only
  pending_among n h = numbered_all (λ y. y.call) (λ y. among y.call ≡ true) (calls_in 0 n.dbs) (all_among number among 0 n.dbs h)

  waiting_after : (n : Node) → holds_only among n ≡ true → list_all (λ y. nat_lt y.call (number call)) (pending_calls (node_under number n)) ≡ list_all (λ y. nat_lt y.call call) (pending_calls n)
  unfolding IsInOrder
  waiting_after n h = ap (list_all (λ y. nat_lt y.call (number call))) (in_order number among rises n h) ∙ waiters_after (pending_calls n) (pending_among n h)

  after_pending : (n : Node) → holds_only among n ≡ true → is_after_pending (number call) (node_under number n) ≡ is_after_pending call n
  unfolding is_after_pending node_under holds_only
  after_pending n h = λ i. waiting_after n h i && commits_after n.dbs h i

pub comes_renumbered : (c : Config) (me : ℕ) (among : ℕ → Bool) (number : ℕ → ℕ) (e : Event) (x : Node) → RisesOn among number → holds_only among x ≡ true → calls_only among e ≡ true
    → may_come c me (node_under number x) (event_under number e) ≡ may_come c me x e
unfolding may_come calls_only event_under
comes_renumbered c me among number (event.Client call o) x rises h k = ap (λ (b : Bool). is_allowed_op o && b) (after_pending among number rises call k x h)
comes_renumbered c me among number (event.Arrive f) x rises h k = refl
comes_renumbered c me among number event.Retry x rises h k = refl
comes_renumbered c me among number (event.Vacuum db) x rises h k = refl
comes_renumbered c me among number (event.BeginRound ticket members) x rises h k = refl
comes_renumbered c me among number (event.BeginTakeover able) x rises h k = refl

-- ---- messages

pub sends_renumbered : (number : ℕ → ℕ) (outs : List Out) → frames_in (map (out_under number) outs) ≡ frames_in outs
unfolding frames_in out_under
sends_renumbered number [] = refl
sends_renumbered number (out.Send f ∷ xs) = ap (λ (fs : List Frame). f ∷ fs) (sends_renumbered number xs)
sends_renumbered number (out.Answer call a ∷ xs) = sends_renumbered number xs
sends_renumbered number (out.Note x ∷ xs) = sends_renumbered number xs

-- ---- a step that is taken spends no number

pub or_again : (a b : Bool) → ((a || b) || b) ≡ (a || b)
or_again true b = refl
or_again false true = refl
or_again false false = refl

makes_again : (call : ℕ) (t : Turn) → makes call (makes call t) ≡ makes call t
unfolding makes
makes_again call t = ap (λ (b : Bool). record t { spent = b }) (or_again t.spent (nat_le (2 ^ 62) call))

-- a call's own number is spent once, however often it is made
happens_again : (c : Config) (rules : Rules) (me call : ℕ) (o : ClientOp) (t : Turn) → happens c rules me (makes call t) (event.Client call o) ≡ happens c rules me t (event.Client call o)
unfolding happens client makes
happens_again c rules me call o t = ap (λ (u : Turn). serves_or c rules me call o u (refusal c rules t.node o)) (makes_again call t)

taken_unspent : (t u : Turn) → unless_spent t ≡ Some u → t.spent ≡ false
taken_unspent t u e = by t.spent e
  where
    by : (b : Bool) → cond b None (Some t) ≡ Some u → b ≡ false
    by true f = absurd (cc)
    by false f = refl

pub made_spent : (call : ℕ) (t : Turn) → nat_le (2 ^ 62) call ≡ true → t.spent ≡ false → (makes call t).spent ≡ true
unfolding makes
made_spent call t e f = (λ i. f i || e i)

-- the number of a call that is followed is below 2^62
call_fits : (c : Config) (rules : Rules) (me call : ℕ) (o : ClientOp) (x : Node) (t : Turn) → stepped c rules me (event.Client call o) x ≡ Some t → nat_le (2 ^ 62) call ≡ false
call_fits c rules me call o x t is = by (nat_le (2 ^ 62) call) refl
  where
    unspent : (happens c rules me (begins x) (event.Client call o)).spent ≡ false
    unspent = taken_unspent (happens c rules me (begins x) (event.Client call o)) t is

    by : (b : Bool) → nat_le (2 ^ 62) call ≡ b → b ≡ false
    by true e =
        let grows = (happens_grows c rules me (makes call (begins x)) (event.Client call o)).spent (made_spent call (begins x) e refl) in
        absurd (let all = ap (λ (u : Turn). u.spent) (happens_again c rules me call o (begins x)) in cc)
    by false e = refl

reaches_taken : (c : Config) (rules : Rules) (me : ℕ) (number : ℕ → ℕ) (among : ℕ → Bool) → ((call : ℕ) → among call ≡ true → number call < 2 ^ 62) → (e : Event) (x : Node) (t : Turn) → calls_only among e ≡ true → stepped c rules me e x ≡ Some t → Reaches number e
unfolding calls_only Reaches
reaches_taken c rules me number among small (event.Client call o) x t k is = lt-leb (2 ^ 62) (number call) (small call k) ∙ sym (call_fits c rules me call o x t is)
reaches_taken c rules me number among small (event.Arrive f) x t k is = tt
reaches_taken c rules me number among small event.Retry x t k is = tt
reaches_taken c rules me number among small (event.Vacuum db) x t k is = tt
reaches_taken c rules me number among small (event.BeginRound ticket members) x t k is = tt
reaches_taken c rules me number among small (event.BeginTakeover able) x t k is = tt

-- ---- a run

event_calls : (among : ℕ → Bool) (e : Event) → ((call : ℕ) → is_call call e ≡ true → among call ≡ true) → calls_only among e ≡ true
unfolding calls_only is_call
event_calls among (event.Client call o) h = h call (eq-eqb call call refl)
event_calls among (event.Arrive f) h = refl
event_calls among event.Retry h = refl
event_calls among (event.Vacuum db) h = refl
event_calls among (event.BeginRound ticket members) h = refl
event_calls among (event.BeginTakeover able) h = refl

module _ (c : Config) (rules : Rules) (me : ℕ) (among : ℕ → Bool) (number : ℕ → ℕ) (rises : RisesOn among number) (small : (call : ℕ) → among call ≡ true → number call < 2 ^ 62) where
  entry_renumbered : (old : Node) (x : JournalEntry) (new : Node) → holds_only among old ≡ true → calls_only among x.event ≡ true → IsEntry c rules me old x new → IsEntry c rules me (node_under number old) (entry_under number x) (node_under number new)
  unfolding entry_under step_under turn_under
  entry_renumbered old x new h k is = record {
    coming = comes_renumbered c me among number x.event old rises h k ∙ is.coming;
    steps = stepped_under number c rules me x.event old (in_order number among rises old h) (reaches_taken c rules me number among small x.event old _ k is.steps) ∙ ap (step_under number) is.steps;
  }

  pub runs_renumbered : (old : Node) (xs : List JournalEntry) (new : Node) → holds_only among old ≡ true → ((call : ℕ) → has_call call xs ≡ true → among call ≡ true) → IsRun c rules me old xs new
      → IsRun c rules me (node_under number old) (map (entry_under number) xs) (node_under number new)
  unfolding IsRun has_call
  runs_renumbered old [] new h calls is = ap (node_under number) is
  runs_renumbered old (x ∷ xs) new h calls is =
      let own : calls_only among x.event ≡ true = event_calls among x.event (λ call e. calls call (or_left (is_call call x.event) (list_any (λ y. is_call call y.event) xs) e)) in
      let after : holds_only among is.0 ≡ true = holds_no_other among c rules me x.event old _ h own is.1.steps in
      (node_under number is.0, entry_renumbered old x is.0 h own is.1, runs_renumbered is.0 xs new after (λ call e. calls call (or_right (is_call call x.event) (list_any (λ y. is_call call y.event) xs) e)) is.2)

pub journals_renumbered : (c : Config) (rules : Rules) (j : Journal) (number : ℕ → ℕ) (end : Node) → RisesOn (λ call. has_call call j.entries) number → ((call : ℕ) → has_call call j.entries ≡ true → number call < 2 ^ 62)
    → RunsTo c rules j end → RunsTo c rules (record j { entries = map (entry_under number) j.entries }) (node_under number end)
journals_renumbered c rules j number end rises small is =
    subst (λ (x : Node). IsRun c rules j.node x (map (entry_under number) j.entries) (node_under number end)) (opens_renumbered c (everyone c) number)
    (runs_renumbered c rules j.node (λ call. has_call call j.entries) number rises small (opening c (everyone c)) j.entries end (opens_without_calls (λ call. has_call call j.entries) c (everyone c)) (λ call e. e) is)
