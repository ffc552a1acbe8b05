-- A node that is given the same events is in the same state, whatever numbers its calls have.
use Rattle.std.proofs.Common.{◌≡◌, ℕ, ◌+◌, ◌^◌, ◌<◌, ◌≤◌, true, false, List, [], ◌∷◌, ◌++◌, map, take, drop, Some, append-nil, arith, refl, sym, ap, ◌∙◌, subst}
use Rattle.std.proofs.lemmas.Bool.{eq-eqb, or_left, or_right}
use Rattle.std.proofs.lemmas.List.{map-append, take-append-drop}
use Rattle.std.specs.List.{list_any}
use Rattle.ct_call.specs.Rules.{Rules}
use Rattle.ct_values.specs.declared.config.Config.{Config}
use Rattle.ct_frame.specs.declared.event.Event.{Event}
use Rattle.ct_frame.specs.declared.event.Event.TheVariants as event
use Rattle.ct_rules_node.specs.Node.{Node}
use Rattle.ct_rules_node.specs.Node as node
use Rattle.ct_rules_node.specs.Steps.{stepped}
use Rattle.ct_rules_node.specs.Turn.{Turn}
use Rattle.ct_rules_cluster.specs.Cluster.{Cluster, everyone, node_at}
use Rattle.ct_journal.specs.Order.{entries_of}
use Rattle.ct_journal.specs.Runs.{IsEntry, IsRun}
use Rattle.ct_journal.specs.Schedules.{IsRenumbered, Noted, entry_under, event_under, has_call, is_call, made_at}
use Rattle.ct_journal.specs.declared.journal.Journal.{Journal}
use Rattle.ct_journal.specs.declared.journal.JournalEntry.{JournalEntry}
use Rattle.ct_law_journal_numbers.proofs.Runs.{journals_renumbered}
use Rattle.ct_law_journal_numbers.specs.Renumbered.{node_under}
use Rattle.ct_law_journal_schedule.proofs.Scheduled.{has_entries}
use Rattle.ct_law_journal_schedule.specs.Laws.{AreRuns}
use Rattle.ct_law_journal_reach.proofs.Cutting.{call_under, own_entries}
use Rattle.ct_law_journal_reach.proofs.Told.{IsPlayed, Told}

abbrev pub events : List JournalEntry → List Event
events xs = map (λ (x : JournalEntry). x.event) xs

-- ---- the same events

pub same_run : (c : Config) (rules : Rules) (me : ℕ) (old one two : Node) (xs ys zs : List JournalEntry) → IsPlayed c rules me old xs one → IsRun c rules me old (ys ++ zs) two → events xs ≡ events ys → (xs ≡ ys) × (IsRun c rules me one zs two)
unfolding IsPlayed IsRun
same_run c rules me old one two [] [] zs p r e = (refl, subst (λ (s : Node). IsRun c rules me s zs two) p r)
same_run c rules me old one two [] (y ∷ ys) zs p r e = absurd (cc)
same_run c rules me old one two (x ∷ xs) [] zs p r e = absurd (cc)
same_run c rules me old one two (x ∷ xs) (y ∷ ys) zs p r e =
    let now : x.event ≡ y.event = cc in
    let later : events xs ≡ events ys = cc in
    let u : Turn = record { node = r.0; outs = y.outs; spent = false } in
    let both : Some p.0 ≡ Some u = sym p.1 ∙ ap (λ (d : Event). stepped c rules me d old) now ∙ r.1.steps in
    let same : p.0 ≡ u = cc in
    let outs : x.outs ≡ y.outs = sym p.2 ∙ ap (λ (t : Turn). t.outs) same in
    let rest = same_run c rules me r.0 one two xs ys zs (subst (λ (s : Node). IsPlayed c rules me s xs one) (ap (λ (t : Turn). t.node) same) p.3) r.2 later in
    ((λ i. record { event = now i; outs = outs i } ∷ rest.0 i), rest.1)

event_agrees : (f g : ℕ → ℕ) (e : Event) → ((a : ℕ) → is_call a e ≡ true → f a ≡ g a) → event_under f e ≡ event_under g e
unfolding event_under is_call
event_agrees f g (event.Client call o) h = ap (λ (a : ℕ). event.Client a o) (h call (eq-eqb call call refl))
event_agrees f g (event.Arrive m) h = refl
event_agrees f g event.Retry h = refl
event_agrees f g (event.Vacuum db) h = refl
event_agrees f g (event.BeginRound t members) h = refl
event_agrees f g (event.BeginTakeover able) h = refl

-- only the numbers of calls matter
events_agree : (f g : ℕ → ℕ) (xs : List JournalEntry) → ((a : ℕ) → has_call a xs ≡ true → f a ≡ g a) → events (map (entry_under f) xs) ≡ events (map (entry_under g) xs)
unfolding entry_under has_call
events_agree f g [] h = refl
events_agree f g (x ∷ xs) h =
    let now = event_agrees f g x.event (λ a is. h a (or_left (is_call a x.event) (list_any (λ (y : JournalEntry). is_call a y.event) xs) is)) in
    let later = events_agree f g xs (λ a is. h a (or_right (is_call a x.event) (list_any (λ (y : JournalEntry). is_call a y.event) xs) is)) in
    λ i. now i ∷ later i

run_first : (c : Config) (rules : Rules) (me : ℕ) (old new : Node) (xs ys : List JournalEntry) → IsRun c rules me old (xs ++ ys) new → (mid : Node) × (IsRun c rules me old xs mid)
unfolding IsRun
run_first c rules me old new [] ys r = (old, refl)
run_first c rules me old new (x ∷ xs) ys r = let l = run_first c rules me r.0 new xs ys r.2 in (l.0, (r.0, r.1, l.1))

-- ---- the first entries of a journal

module _ (c : Config) (rules : Rules) (js : List Journal) (runs : AreRuns c rules js) (n : ℕ) (there : n < c.nodes) (k : ℕ) where
  abbrev pub past : List JournalEntry
  past = take k (entries_of js n)

  -- they are a run of the node
  pub first_run : (mid : Node) × (IsRun c rules n (node.opening c (everyone c)) past mid)
  first_run =
      let j = has_entries js n (let q = runs.count in omega (arith, q, there)) in
      let r = runs.each n j.0 j.1 in
      let run : IsRun c rules n (node.opening c (everyone c)) j.0.entries r.end = subst (λ (i : ℕ). IsRun c rules i (node.opening c (everyone c)) j.0.entries r.end) r.node r.runs in
      run_first c rules n (node.opening c (everyone c)) r.end past (drop k (entries_of js n))
      (subst (λ (xs : List JournalEntry). IsRun c rules n (node.opening c (everyone c)) xs r.end) (sym (own_entries js n j.0 j.1) ∙ sym (take-append-drop k (entries_of js n))) run)

  -- and under other numbers too
  pub first_under : (f : ℕ → ℕ) → ((a b : ℕ) → has_call a past ≡ true → has_call b past ≡ true → a < b → f a < f b) → ((a : ℕ) → has_call a past ≡ true → f a < 2 ^ 62) →
      IsRun c rules n (node.opening c (everyone c)) (map (entry_under f) past) (node_under f first_run.0)
  first_under f rises small = journals_renumbered c rules (record { node = n; entries = past }) f first_run.0 rises small first_run.1

  module _ (w : Cluster) (ms : List Noted) (h : Told c rules w ms) (r : IsRenumbered past (made_at n ms)) (few : w.calls < 2 ^ 62) where
    pub number_most : (a : ℕ) → has_call a past ≡ true → r.number a ≤ w.calls
    number_most a has = h.numbers n (r.number a) (ap (has_call (r.number a)) (sym r.same) ∙ call_under r.number a past has)

    -- the node is where its journal leads, under the numbers of the cluster
    pub state_is : node_at n w ≡ node_under r.number first_run.0
    unfolding IsRun
    state_is = (same_run c rules n (node.opening c (everyone c)) (node_at n w) (node_under r.number first_run.0) (made_at n ms) (map (entry_under r.number) past) [] (h.plays n there)
        (subst (λ (xs : List JournalEntry). IsRun c rules n (node.opening c (everyone c)) xs (node_under r.number first_run.0)) (sym (append-nil (map (entry_under r.number) past)))
        (first_under r.number r.rises (λ a has. (let m = number_most a has in omega (arith, m, few)))))
        (ap events (sym r.same))).1

-- the entry that comes next is one of the node, under numbers that agree with those of the cluster
pub record Follows (c : Config) (rules : Rules) (n : ℕ) (w : Cluster) (past made : List JournalEntry) (x : JournalEntry) (f : ℕ → ℕ) : Type 0 where
  pub same : map (entry_under f) past ≡ made
  pub state : Node
  pub entry : IsEntry c rules n (node_at n w) (entry_under f x) state

pub follows : (c : Config) (rules : Rules) (js : List Journal) (runs : AreRuns c rules js) (n : ℕ) (there : n < c.nodes) (k : ℕ) (w : Cluster) (ms : List Noted) (h : Told c rules w ms) (r : IsRenumbered (take k (entries_of js n)) (made_at n ms)) (x : JournalEntry) (f : ℕ → ℕ) →
    take (k + 1) (entries_of js n) ≡ take k (entries_of js n) ++ x ∷ [] →
    ((a : ℕ) → has_call a (take k (entries_of js n)) ≡ true → f a ≡ r.number a) →
    ((a b : ℕ) → has_call a (take (k + 1) (entries_of js n)) ≡ true → has_call b (take (k + 1) (entries_of js n)) ≡ true → a < b → f a < f b) →
    ((a : ℕ) → has_call a (take (k + 1) (entries_of js n)) ≡ true → f a < 2 ^ 62) → Follows c rules n w (take k (entries_of js n)) (made_at n ms) x f
unfolding IsRun
follows c rules js runs n there k w ms h r x f more agree rises small =
    let xs : List JournalEntry = take k (entries_of js n) in
    let first = first_run c rules js runs n there (k + 1) in
    let run = first_under c rules js runs n there (k + 1) f rises small in
    let two : Node = node_under f first.0 in
    let run2 : IsRun c rules n (node.opening c (everyone c)) (map (entry_under f) xs ++ entry_under f x ∷ []) two =
    subst (λ (l : List JournalEntry). IsRun c rules n (node.opening c (everyone c)) l two) (ap (map (entry_under f)) more ∙ map-append (entry_under f) xs (x ∷ [])) run in
    let s = same_run c rules n (node.opening c (everyone c)) (node_at n w) two (made_at n ms) (map (entry_under f) xs) (entry_under f x ∷ []) (h.plays n there) run2
    (ap events (sym r.same) ∙ sym (events_agree f r.number xs agree)) in
    record { same = sym s.0; state = s.1.0; entry = s.1.1 }
