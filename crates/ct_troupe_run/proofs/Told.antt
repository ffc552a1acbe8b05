-- What the text of a run is, of journals that were played.
use Rattle.std.proofs.Common.{◌≡◌, ℕ, ◌<◌, ◌-◌, ◌^◌, Bool, true, false, List, [], ◌∷◌, ◌++◌, length, Option, None, Some, refl, sym, ap, ap₂, subst, ◌∙◌, inl, inr, arith}
use Rattle.std.specs.List.{AllByRecursion, flat_map, list_all}
use Rattle.std.proofs.lemmas.List.{append-nil}
use Rattle.ct_values.specs.declared.client.ClientOp.{ClientOp}
use Rattle.ct_values.specs.declared.config.Config.{Config}
use Rattle.ct_call.specs.Rules.{Rules}
use Rattle.ct_script.specs.declared.plan.Plan.{Plan}
use Rattle.ct_rules_cluster.specs.Cluster.{Cluster, opening, pending}
use Rattle.ct_rules_cluster.specs.Faults.{is_allowed}
use Rattle.ct_rules_cluster.specs.Traces.{OpenCall, Ran, asked_in, ran}
use Rattle.ct_rules_cluster.specs.declared.step.PendingCall.{PendingCall}
use Rattle.ct_rules_cluster.specs.declared.step.Step.{Step}
use Rattle.ct_journal.specs.Order.{AreInOrder, all_entries}
use Rattle.ct_journal.specs.Schedules.{IsSchedule, Noted, after_step, keeps_all_up, made_by, none_made, with_made}
use Rattle.ct_journal.specs.declared.journal.Journal.{Journal}
use Rattle.ct_journal_join.specs.Joining.{SchedulesRuns}
pub use Rattle.ct_law_promise.proofs.Running.{law_of_marks, promise}
use Rattle.ct_law_journal_schedule.proofs.Scheduled.{in_order_is_scheduled}
use Rattle.ct_law_journal_schedule.specs.Scheduling.{schedule_of}
use Rattle.ct_schedule_text.proofs.Walking.{lines_are_those_of_the_run}
use Rattle.ct_schedule_text.specs.Laws.{TellsRun}
use Rattle.ct_journal_order.specs.Order.{IsOrderOf, tally_of}
use Rattle.ct_script.specs.Sound.{IsSound}
use Rattle.ct_rules_config.specs.Configured.{IsConfig}
use Rattle.ct_schedule_text.specs.Schedule.{run_text}
use Rattle.ct_schedule_text.specs.Telling.{AreLines, AreUntold, ToldLines, first_telling, told_from}
use Rattle.ct_text.specs.Line.{line_text, pending_text}
use Rattle.ct_troupe.specs.Played.{ArePlayed}
use Rattle.ct_troupe_run.specs.Text.{AreUntoldInOrder, IsRunText, run_of}

-- the entries are counted: neither count has reached its end
pub counted : (js : List Journal) → AreInOrder js → (tally_of (all_entries js)).all - (tally_of (all_entries js)).sent ≡ length (all_entries js)
counted js a = let l = a.few in omega arith

-- each node has one journal, so they are few
pub few_journals : (rules : Rules) (p : Plan) (js : List Journal) → ArePlayed rules p js → p.config.nodes < 2 ^ 32 → length js < 2 ^ 32
few_journals rules p js a l = let e = a.runs.count in omega arith

pub in_order_of : (rules : Rules) (p : Plan) (js : List Journal) → ArePlayed rules p js → AreInOrder js
in_order_of rules p js a = a.in_order

-- so they are not refused
pub not_refused : (rules : Rules) (p : Plan) (js : List Journal) → ArePlayed rules p js → (AreInOrder js → ⊥) → ⊥
not_refused rules p js a none = none a.in_order

-- ---- the steps of a schedule are as they are asked to be

module _ (c : Config) (rules : Rules) where
  -- nothing is made after a step that was not taken
  unmade : (ss : List Step) → made_by c rules None ss ≡ None
  unfolding made_by none_made
  unmade [] = refl
  unmade (s ∷ ss) = refl

  -- what is made later, where anything is made
  later : (xs : List Noted) (o : Option (List Noted)) (made : List Noted) → with_made xs o ≡ Some made → (rest : List Noted) × (o ≡ Some rest)
  unfolding with_made
  later xs None made e = absurd (cc)
  later xs (Some ys) made e = (ys, refl)

  taken_is_allowed : (w : Cluster) (s : Step) (ss : List Step) (rest : List Noted) → made_by c rules (after_step c rules w s) ss ≡ Some rest → is_allowed s ≡ true
  unfolding after_step
  taken_is_allowed w s ss rest e = go (is_allowed s) (keeps_all_up s) refl refl
    where
      go : (a k : Bool) → is_allowed s ≡ a → keeps_all_up s ≡ k → is_allowed s ≡ true
      go true k ea ek = ea
      go false true ea ek = let n = unmade ss in absurd (cc)
      go false false ea ek = let n = unmade ss in absurd (cc)

  allowed_from : (o : Option Cluster) (ss : List Step) (made : List Noted) → made_by c rules o ss ≡ Some made → list_all is_allowed ss ≡ true
  unfolding made_by
  allowed_from o [] made e = refl
  allowed_from None (s ∷ ss) made e = absurd (cc)
  allowed_from (Some w) (s ∷ ss) made e =
      let r = later _ _ made e in
      let a = taken_is_allowed w s ss r.0 r.1 in
      let b = allowed_from (after_step c rules w s) ss r.0 r.1 in cc

pub steps_allowed : (rules : Rules) (p : Plan) (js : List Journal) (ss : List Step) → ArePlayed rules p js → SchedulesRuns js ss → list_all is_allowed ss ≡ true
steps_allowed rules p js ss a s = let x : IsSchedule p.config rules js ss = s p.config rules a.runs in allowed_from p.config rules (Some (opening p.config)) ss x.made x.takes

-- ---- the text

pub steps_told : (rules : Rules) (p : Plan) (js : List Journal) (ss : List Step) (text : List ℕ) (sent : ℕ) → IsSound p → ArePlayed rules p js → SchedulesRuns js ss
    → text ≡ run_text p.config (run_of p.config rules ss) → sent ≡ length (run_of p.config rules ss).cluster.sent → IsRunText rules p js text sent
steps_told rules p js ss text sent sound a s told sent_is =
    let is : IsConfig p.config = sound.config in
    record { played = a; steps = ss; schedule = s p.config rules a.runs; promised = (is, promise p.config rules ss is, law_of_marks p.config rules ss is); told = told; sent = sent_is }

-- journals that were played have a schedule, so there is a text of its run
pub has_text : (rules : Rules) (p : Plan) (js : List Journal) → IsSound p → ArePlayed rules p js → (text : List ℕ) × (sent : ℕ) × IsRunText rules p js text sent
has_text rules p js sound a =
    let ss : List Step = schedule_of js a.in_order.order in
    (_, _, steps_told rules p js ss _ _ sound a (λ d rs runs. in_order_is_scheduled d rs js runs a.in_order) refl refl)

not_both : (o : Option (ℕ × ClientOp)) (p : ℕ × ClientOp) → o ≡ None → o ≡ Some p → ⊥
not_both o p none some = cc

-- no call waits in a cluster where none is open
none_waits : (xs : List PendingCall) (log : List OpenCall) → AllByRecursion (λ x. asked_in x.call log ≡ Some (x.node, x.op)) xs → ((call : ℕ) → asked_in call log ≡ None) → xs ≡ []
none_waits [] log all none = refl
none_waits (x ∷ xs) log all none = absurd (not_both (asked_in x.call log) (x.node, x.op) (none x.call) all.0)

-- the text of a run that tells these lines and ends with no open call
run_told : (c : Config) (r : Ran) (u : ToldLines) (lines : List ℕ) → TellsRun u r → pending r.cluster ≡ [] → lines ≡ flat_map (line_text c) u.lines → lines ≡ run_text c r
run_told c r u lines t none lines_are =
    lines_are ∙ ap (flat_map (line_text c)) (sym t.lines) ∙ sym (append-nil (flat_map (line_text c) r.lines)) ∙ ap (λ (ps : List PendingCall). flat_map (line_text c) r.lines ++ flat_map (pending_text c) ps) (sym none)

-- lines that are told of the journals' entries are the text of the run of a schedule
pub lines_told : (rules : Rules) (p : Plan) (js : List Journal) (order : List ℕ) (lines : List ℕ) (sent : ℕ) → IsSound p → IsOrderOf js order → AreLines p.config js order lines sent → ArePlayed rules p js → IsRunText rules p js lines sent
lines_told rules p js order lines sent sound io al a =
    let c : Config = p.config in
    let o = io.in_order in
    let ss : List Step = schedule_of js o.order in
    let r : Ran = run_of c rules ss in
    let told = lines_are_those_of_the_run c rules js a.runs o al.told (subst (λ (ns : List ℕ). told_from js ns (first_telling js) ≡ Some al.told) io.same al.are_told) in
    let stands = (promise c rules ss sound.config).3 in
    let none = none_waits (pending r.cluster) r.log stands.waiting (told.closed al.none_open) in
    steps_told rules p js ss lines sent sound a (λ d rs runs. in_order_is_scheduled d rs js runs o) (run_told c r al.told lines told none al.text_is) (al.sent_is ∙ sym told.sent)

-- ---- what is not told

pub in_no_order : (js : List Journal) → (AreInOrder js → ⊥) → AreUntoldInOrder js
in_no_order js h = inl h

pub untold_in_order : (js : List Journal) (order : List ℕ) → IsOrderOf js order → AreUntold js order → AreUntoldInOrder js
untold_in_order js order is h = inr (is.in_order, subst (λ (ns : List ℕ). AreUntold js ns) is.same h)
