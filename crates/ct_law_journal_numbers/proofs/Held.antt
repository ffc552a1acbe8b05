-- The calls that a node holds: only their numbers matter, and a step adds none but that of its event.
use Rattle.std.proofs.Common.{◌≡◌, ℕ, ◌+◌, ◌^◌, Bool, true, false, cond, ◌&&◌, List, [], ◌∷◌, map, Option, Some, None, refl, sym, ap, ◌∙◌, arith}
use Rattle.std.proofs.lemmas.Bool.{and_parts}
use Rattle.std.specs.Prelude.{nat_le}
use Rattle.std.specs.List.{list_all}
use Rattle.ct_values.specs.declared.config.Config.{Config}
use Rattle.ct_frame.specs.declared.event.Event.{Event}
use Rattle.ct_frame.specs.declared.event.Event.TheVariants as event
use Rattle.ct_call.specs.Rules.{Rules}
use Rattle.ct_store.specs.Map.{Pairs}
use Rattle.ct_rules.specs.declared.state.RecState.{RecState}
use Rattle.ct_rules.specs.declared.state.Wish.{Wish}
use Rattle.ct_rules_node.specs.Node.{Node, Database, Committing, untouched, untouched_all, opening}
use Rattle.ct_rules_node.specs.Steps.{stepped}
use Rattle.ct_rules_node.specs.Turn.{Turn}
use Rattle.ct_journal.specs.Schedules.{event_under}
use Rattle.ct_law_journal_numbers.specs.Laws.{RisesOn}
use Rattle.ct_law_journal_numbers.specs.Renumbered.{lock_under, wish_under, state_under, records_under, commit_under, database_under, node_under, turn_under, step_under, locks_only, wishes_only, records_only, commits_only, holds_only, calls_only}
use Rattle.ct_law_journal_numbers.proofs.Calls.{in_order}
use Rattle.ct_law_journal_numbers.proofs.Steps.{Reaches, stepped_under}

-- ---- numberings that agree on the calls that are held

module _ (among : ℕ → Bool) (number other : ℕ → ℕ) (agree : (call : ℕ) → among call ≡ true → number call ≡ other call) where
  lock_agrees : (l : Option ℕ) → locks_only among l ≡ true → lock_under number l ≡ lock_under other l
  unfolding locks_only lock_under
  lock_agrees None e = refl
  lock_agrees (Some call) e = ap Some (agree call e)

  wish_agrees : (w : Option Wish) → wishes_only among w ≡ true → wish_under number w ≡ wish_under other w
  unfolding wishes_only wish_under
  wish_agrees None e = refl
  wish_agrees (Some w) e = ap (λ (k : ℕ). Some (record w { call = k })) (agree w.call e)

  records_agree : (m : Pairs RecState) → records_only among m ≡ true → records_under number m ≡ records_under other m
  unfolding records_only records_under state_under
  records_agree [] e = refl
  records_agree (x ∷ m) e =
      let both = and_parts (locks_only among x.1.locked && wishes_only among x.1.wish) (records_only among m) e in
      let own = and_parts (locks_only among x.1.locked) (wishes_only among x.1.wish) both.0 in
      let lock : lock_under number x.1.locked ≡ lock_under other x.1.locked = lock_agrees x.1.locked own.0 in
      let wish : wish_under number x.1.wish ≡ wish_under other x.1.wish = wish_agrees x.1.wish own.1 in
      let rest : records_under number m ≡ records_under other m = records_agree m both.1 in
      λ i. (x.0, record x.1 { locked = lock i; wish = wish i }) ∷ rest i

  commit_agrees : (x : Option Committing) → commits_only among x ≡ true → commit_under number x ≡ commit_under other x
  unfolding commits_only commit_under
  commit_agrees None e = refl
  commit_agrees (Some x) e = ap (λ (k : ℕ). Some (record x { call = k })) (agree x.call e)

  databases_agree : (ds : List Database) → list_all (λ d. records_only among d.records && commits_only among d.commit) ds ≡ true → map (database_under number) ds ≡ map (database_under other) ds
  unfolding database_under
  databases_agree [] e = refl
  databases_agree (d ∷ ds) e =
      let both = and_parts (records_only among d.records && commits_only among d.commit) (list_all (λ x. records_only among x.records && commits_only among x.commit) ds) e in
      let own = and_parts (records_only among d.records) (commits_only among d.commit) both.0 in
      let records : records_under number d.records ≡ records_under other d.records = records_agree d.records own.0 in
      let waiting : commit_under number d.commit ≡ commit_under other d.commit = commit_agrees d.commit own.1 in
      let rest : map (database_under number) ds ≡ map (database_under other) ds = databases_agree ds both.1 in
      λ i. record d { records = records i; commit = waiting i } ∷ rest i

  pub node_agrees : (n : Node) → holds_only among n ≡ true → node_under number n ≡ node_under other n
  unfolding holds_only node_under
  node_agrees n e = ap (λ (ds : List Database). record n { dbs = ds }) (databases_agree n.dbs e)

-- ---- no other numbers

abbrev own_number : ℕ → ℕ
own_number call = call

lock_stays : (l : Option ℕ) → lock_under own_number l ≡ l
unfolding lock_under
lock_stays None = refl
lock_stays (Some call) = refl

wish_stays : (w : Option Wish) → wish_under own_number w ≡ w
unfolding wish_under
wish_stays None = refl
wish_stays (Some w) = refl

records_stay : (m : Pairs RecState) → records_under own_number m ≡ m
unfolding records_under state_under
records_stay [] = refl
records_stay (x ∷ m) = λ i. (x.0, record x.1 { locked = lock_stays x.1.locked i; wish = wish_stays x.1.wish i }) ∷ records_stay m i

commit_stays : (x : Option Committing) → commit_under own_number x ≡ x
unfolding commit_under
commit_stays None = refl
commit_stays (Some x) = refl

databases_stay : (ds : List Database) → map (database_under own_number) ds ≡ ds
unfolding database_under
databases_stay [] = refl
databases_stay (d ∷ ds) = λ i. record d { records = records_stay d.records i; commit = commit_stays d.commit i } ∷ databases_stay ds i

node_stays : (n : Node) → node_under own_number n ≡ n
unfolding node_under
node_stays n = ap (λ (ds : List Database). record n { dbs = ds }) (databases_stay n.dbs)

-- ---- a numbering that leaves these calls alone, and changes each other

module _ (among : ℕ → Bool) where
  unfoldable moved_off : ℕ → ℕ
  moved_off call = cond (among call) call (call + 1)

  left_alone : (call : ℕ) → among call ≡ true → moved_off call ≡ call
  unfolding moved_off
  left_alone call e = ap (λ (b : Bool). cond b call (call + 1)) e

  is_left_alone : (call : ℕ) → moved_off call ≡ call → among call ≡ true
  unfolding moved_off
  is_left_alone call e = by (among call) e
    where
      by : (b : Bool) → cond b call (call + 1) ≡ call → b ≡ true
      by true f = refl
      by false f = absurd (omega arith)

  -- a node that holds these calls alone is left alone
  left : (n : Node) → holds_only among n ≡ true → node_under moved_off n ≡ n
  left n e = node_agrees among moved_off own_number left_alone n e ∙ node_stays n

  locks_back : (l : Option ℕ) → lock_under moved_off l ≡ l → locks_only among l ≡ true
  unfolding locks_only lock_under
  locks_back None e = refl
  locks_back (Some call) e = is_left_alone call (cc)

  wishes_back : (w : Option Wish) → wish_under moved_off w ≡ w → wishes_only among w ≡ true
  unfolding wishes_only wish_under
  wishes_back None e = refl
  wishes_back (Some w) e = is_left_alone w.call (let same : record w { call = moved_off w.call } ≡ w = cc in ap (λ (x : Wish). x.call) same)

  records_back : (m : Pairs RecState) → records_under moved_off m ≡ m → records_only among m ≡ true
  unfolding records_only records_under state_under
  records_back [] e = refl
  records_back (x ∷ m) e =
      let own : (x.0, state_under moved_off x.1) ≡ x = cc in
      let rest : records_under moved_off m ≡ m = cc in
      let lock = locks_back x.1.locked (ap (λ (y : List ℕ × RecState). y.1.locked) own) in
      let wish = wishes_back x.1.wish (ap (λ (y : List ℕ × RecState). y.1.wish) own) in
      λ i. (lock i && wish i) && records_back m rest i

  commits_back : (x : Option Committing) → commit_under moved_off x ≡ x → commits_only among x ≡ true
  unfolding commits_only commit_under
  commits_back None e = refl
  commits_back (Some x) e = is_left_alone x.call (let same : record x { call = moved_off x.call } ≡ x = cc in ap (λ (y : Committing). y.call) same)

  databases_back : (ds : List Database) → map (database_under moved_off) ds ≡ ds → list_all (λ d. records_only among d.records && commits_only among d.commit) ds ≡ true
  unfolding database_under
  databases_back [] e = refl
  databases_back (d ∷ ds) e =
      let own : database_under moved_off d ≡ d = cc in
      let rest : map (database_under moved_off) ds ≡ ds = cc in
      let records = records_back d.records (ap (λ (x : Database). x.records) own) in
      let waiting = commits_back d.commit (ap (λ (x : Database). x.commit) own) in
      λ i. (records i && waiting i) && databases_back ds rest i

  back : (n : Node) → node_under moved_off n ≡ n → holds_only among n ≡ true
  unfolding holds_only node_under
  back n e = databases_back n.dbs (ap (λ (x : Node). x.dbs) e)

  event_left : (e : Event) → calls_only among e ≡ true → event_under moved_off e ≡ e
  unfolding calls_only event_under
  event_left (event.Client call o) h = ap (λ (k : ℕ). event.Client k o) (left_alone call h)
  event_left (event.Arrive f) h = refl
  event_left event.Retry h = refl
  event_left (event.Vacuum db) h = refl
  event_left (event.BeginRound ticket members) h = refl
  event_left (event.BeginTakeover able) h = refl

  reaches_left : (e : Event) → calls_only among e ≡ true → Reaches moved_off e
  unfolding calls_only Reaches
  reaches_left (event.Client call o) h = ap (nat_le (2 ^ 62)) (left_alone call h)
  reaches_left (event.Arrive f) h = tt
  reaches_left event.Retry h = tt
  reaches_left (event.Vacuum db) h = tt
  reaches_left (event.BeginRound ticket members) h = tt
  reaches_left (event.BeginTakeover able) h = tt

  rises_left : RisesOn among moved_off
  rises_left a b p q l = (let e = left_alone a p in let f = left_alone b q in omega arith)

  -- a step holds no other calls
  pub holds_no_other : (c : Config) (rules : Rules) (me : ℕ) (e : Event) (x : Node) (t : Turn) → holds_only among x ≡ true → calls_only among e ≡ true → stepped c rules me e x ≡ Some t → holds_only among t.node ≡ true
  unfolding step_under turn_under
  holds_no_other c rules me e x t h k is =
      let same : stepped c rules me e x ≡ step_under moved_off (stepped c rules me e x) =
      (λ i. stepped c rules me (sym (event_left e k) i) (sym (left x h) i)) ∙ stepped_under moved_off c rules me e x (in_order moved_off among rises_left x h) (reaches_left e k) in
      let after : Some t ≡ step_under moved_off (Some t) = sym is ∙ same ∙ ap (step_under moved_off) is in
      let turn : t ≡ turn_under moved_off t = cc in
      back t.node (sym (ap (λ (u : Turn). u.node) turn))

-- ---- the opening

untouched_only : {X : Type 0} (among : ℕ → Bool) (xs : List X) → list_all (λ d. records_only among d.records && commits_only among d.commit) (untouched_all xs) ≡ true
unfolding untouched_all untouched records_only commits_only
untouched_only {X} among [] = refl
untouched_only {X} among (x ∷ xs) = untouched_only among xs

pub opens_without_calls : (among : ℕ → Bool) (c : Config) (members : List ℕ) → holds_only among (opening c members) ≡ true
unfolding opening holds_only
opens_without_calls among c members = untouched_only among c.dbs

pub opens_renumbered : (c : Config) (members : List ℕ) (number : ℕ → ℕ) → node_under number (opening c members) ≡ opening c members
opens_renumbered c members number = node_agrees (λ call. false) number own_number (λ call e. absurd (cc)) (opening c members) (opens_without_calls (λ call. false) c members) ∙ node_stays (opening c members)
