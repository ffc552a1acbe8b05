-- The law of records, of generations and of addresses: over every list of steps, and the promise that follows.
use Rattle.std.proofs.Common.{◌≡◌, ℕ, Bool, false, not, ◌||◌, List, [], ◌∷◌, refl, sym, subst}
use Rattle.ct_values.specs.declared.address.Address.{Address}
use Rattle.ct_values.specs.declared.config.Config.{Config}
use Rattle.ct_call.specs.Rules.{Rules}
use Rattle.ct_rules_cluster.specs.Cluster.{Cluster, opening}
use Rattle.ct_rules_cluster.specs.Labels.{Label, Noted}
use Rattle.ct_rules_cluster.specs.Traces
use Rattle.ct_rules_cluster.specs.Traces.{OpenCall, ran, ran_one}
use Rattle.ct_rules_cluster.specs.declared.step.Step.{Step}
use Rattle.ct_register.specs.Lines
use Rattle.ct_register.specs.Legal.{AcceptsLabels}
use Rattle.ct_register.specs.Marks.{MarksStep}
use Rattle.ct_register.specs.Stands.{RecordsStand}
use Rattle.ct_register.proofs.Opened.{opening_records_stand}
use Rattle.ct_promise.specs.Marked.{AllMarks, MarksHold, MarksHoldIn, is_removal, is_removed, MarksGoOn}
use Rattle.ct_promise.specs.Promises.{IsConfig, CallsStand}
use Rattle.ct_promise.proofs.Follows.{both_accepted, filter_more}
use Rattle.ct_promise.proofs.Opened.{opening_calls}
use Rattle.ct_law_generation.specs.Waiting.{Outcome, outcome, outcome_of}
use Rattle.ct_law_generation.proofs.AtHome.{AllAtHome, step_home}
use Rattle.ct_law_generation.proofs.CallsOpen.{Calls}
use Rattle.ct_law_generation.proofs.CallsTold.{by_log, calls_stand}
use Rattle.ct_law_generation.proofs.CallsRun.{one_logs, opened_calls}
use Rattle.ct_law_run.specs.Records.{GenerationsStand}
use Rattle.ct_law_run.proofs.Lives.{Lives}
use Rattle.ct_law_run.proofs.Faces.{After, marks_in_all}
use Rattle.ct_law_run.proofs.Lined.{lives_stand, generations_stand}
use Rattle.ct_law_run.proofs.Opened.{opened_lives}
use Rattle.ct_law_run.proofs.Ending.{all_home, entries_home}
use Rattle.ct_law_run.proofs.Owed.{all_owed}
use Rattle.ct_law_run.proofs.Stepping.{owed_turned, step_lives}
use Rattle.ct_law_registers.proofs.Parts.{Choice, goes_on}
use Rattle.ct_law_addresses.proofs.Facts.{Spots, MailStands, Holds}
use Rattle.ct_law_acts.proofs.Parts.{nodes_of, frames_in}
use Rattle.ct_law_promise.specs.Addresses.{speaks_of_databases, other_labels, AddressesStand, AddressesRun, LawOfAddresses, KeepsAddresses, PromiseOfAddresses}
use Rattle.ct_law_promise.proofs.Beside.{PlacesCarried, places_stand, opened_places, outcome_holds}
use Rattle.ct_law_promise.proofs.Given.{before_given}
use Rattle.ct_law_promise.proofs.HeldTogether.{placed_as, labels_join}

-- the law of addresses leaves nothing open
abbrev any_choice : Choice
any_choice = record { counts = λ db key. 0; kept = λ db. 0; seen = 0 }

-- what holds of addresses beside what holds of records and generations
abbrev Carried : Config → Cluster → Lines.Lines → Lines.Lines → Type 0
Carried config w r p = PlacesCarried config w (placed_as r p)

-- ---- one step

-- the registers of both together, and what holds of them then
record Onward (config : Config) (rules : Rules) (r t p : Lines.Lines) (o : Outcome) : Type 0 where
  next : Lines.Lines
  accepts : AcceptsLabels config rules (placed_as r p) (other_labels config o.trace) (placed_as t next)
  carried : Carried config o.cluster t next

goes_onward : (config : Config) (rules : Rules) (w : Cluster) (r p : Lines.Lines) (h : Lives config rules w r) (s : Step) → IsConfig config → Carried config w r p → (k : After config rules r h.ages (outcome config rules w s)) → Onward config rules r k.lines p (outcome config rules w s)
goes_onward config rules w r p h s is c k =
    let q : Lines.Lines = placed_as r p in
    let o : Outcome = outcome config rules w s in
    let g = outcome_holds config rules any_choice w q c.turns s (before_given config rules w r p h is c.turns c.holds c.mail) in
    let j = labels_join config rules any_choice o.trace r k.lines q k.accepts g.needs refl c.nowhere in
    record {
      next = goes_on config any_choice o.trace q;
      accepts = j.accepts;
      carried = record {
        turns = g.turns;
        holds = subst (λ (b : Spots). Holds config.addresses (nodes_of o.cluster) b g.turns) j.alike g.holds;
        mail = subst (λ (b : Spots). MailStands config.addresses (nodes_of o.cluster) b g.turns (frames_in o.cluster)) j.alike g.mail;
        nowhere = subst (λ (b : Spots). (n : ℕ) (a : Address) → b.line n ≡ 0 → b.held n a ≡ false) j.alike j.nowhere;
      };
    }

-- ---- what is said of records and generations is said of both

still_records : (w : Cluster) (r p : Lines.Lines) → RecordsStand w r → RecordsStand w (placed_as r p)
still_records w r p h = record { locks = h.locks; masters = h.masters; one_master = h.one_master; readers = h.readers }

still_generations : (w : Cluster) (r p : Lines.Lines) → GenerationsStand w r → GenerationsStand w (placed_as r p)
still_generations w r p h = record { generations = h.generations; thawed = h.thawed }

still_marks : (w : Cluster) (r p : Lines.Lines) (marks : AllMarks) → MarksHold w r marks → MarksHold w (placed_as r p) marks
still_marks w r p marks h g = (let m : MarksHoldIn g w r (marks g) = h g in record { marked = m.marked; copies = m.copies; entries = m.entries; sites = m.sites; alone = m.alone; empty = m.empty; found = m.found; away = m.away; named = m.named })

still_removal : (r p : Lines.Lines) (g db : ℕ) (key : List ℕ) (label : Label) → is_removal (placed_as r p) g db key label ≡ is_removal r g db key label
unfolding is_removal
still_removal r p g db key (Noted n noted) = refl
still_removal r p g db key _ = refl

still_removed : (r p : Lines.Lines) (g db : ℕ) (key : List ℕ) (labels : List Label) → is_removed (placed_as r p) g db key labels ≡ is_removed r g db key labels
still_removed r p g db key [] = refl
still_removed r p g db key (label ∷ labels) = (λ i. still_removal r p g db key label i || still_removed r p g db key labels i)

still_going : (r p : Lines.Lines) (labels : List Label) (marks after : AllMarks) → MarksGoOn r labels marks after → MarksGoOn (placed_as r p) labels marks after
still_going r p labels marks after h g born db key = subst (λ (b : Bool). MarksStep b (marks g db key) (after g db key)) (sym (still_removed r p g db key labels)) (h g born db key)

-- ---- every list of steps

steps_run : (config : Config) (rules : Rules) (steps : List Step) (w : Cluster) (log : List OpenCall) (r p : Lines.Lines) (h : Lives config rules w r) → Carried config w r p → AllAtHome w → Calls config w (by_log log) → IsConfig config →
    AddressesRun config rules w log (placed_as r p) (marks_in_all h.ages) steps
unfolding AddressesRun
steps_run config rules [] w log r p h c home calls is = tt
steps_run config rules (s ∷ steps) w log r p h c home calls is =
    let run = ran_one config rules w log s in
    let l = one_logs config rules w log s calls in
    let first = step_lives (owed_turned all_owed) config rules w r h s is in
    let k : After config rules r h.ages (outcome_of run) = subst (λ (o : Outcome). After config rules r h.ages o) (sym l.same) first in
    let onward : (q : Outcome) → outcome config rules w s ≡ q → (f : After config rules r h.ages q) → Onward config rules r f.lines p q
    = λ q e. subst (λ (o : Outcome). (f : After config rules r h.ages o) → Onward config rules r f.lines p o) e (λ f. goes_onward config rules w r p h s is c f) in
    let j = onward (outcome_of run) (sym l.same) k in
    let there : AllAtHome run.cluster = subst (λ (o : Outcome). AllAtHome o.cluster) (sym l.same) (step_home config rules w s home) in
    let both = lives_stand config rules run.cluster k.lines k.lives (entries_home run.cluster there) in (
      placed_as k.lines j.next,
      marks_in_all k.lives.ages,
      j.accepts,
      still_records run.cluster k.lines j.next both.0,
      still_generations run.cluster k.lines j.next (generations_stand config rules run.cluster k.lines k.lives),
      places_stand config run.cluster (placed_as k.lines j.next) j.carried,
      calls_stand config run.cluster run.log l.calls,
      still_marks run.cluster k.lines j.next (marks_in_all k.lives.ages) both.1,
      still_going r p run.trace (marks_in_all h.ages) (marks_in_all k.lives.ages) k.marks,
      steps_run config rules steps run.cluster run.log k.lines j.next k.lives j.carried there l.calls is,
    )

pub law_of_addresses : LawOfAddresses
law_of_addresses config rules steps is =
    let o = opened_lives config rules is in
    let c : Carried config (opening config) (Lines.opening config) (Lines.opening config) = opened_places config in
    subst (λ (marks : AllMarks). AddressesRun config rules (opening config) [] (Lines.opening config) marks steps) o.1
    (steps_run config rules steps (opening config) [] (Lines.opening config) (Lines.opening config) o.0 c (all_home config rules) (opened_calls config) is)

-- ---- the promise

addresses_kept : (config : Config) (rules : Rules) (steps : List Step) (w : Cluster) (log : List OpenCall) (r : Lines.Lines) (marks : AllMarks) → AddressesRun config rules w log r marks steps → RecordsStand w r → GenerationsStand w r → AddressesStand w r → CallsStand w log →
    KeepsAddresses config rules r (ran config rules w log steps)
unfolding AddressesRun Traces.ran Traces.after Traces.idle
addresses_kept config rules [] w log r marks m stands generations addresses calls = (r, refl, stands, generations, addresses, calls)
addresses_kept config rules (step ∷ steps) w log r marks m stands generations addresses calls =
    let rest = addresses_kept config rules steps _ _ m.0 m.1 m.9 m.3 m.4 m.5 m.6 in (
      rest.0,
      subst (λ (l : List Label). AcceptsLabels config rules r l rest.0) (sym (filter_more (λ (label : Label). not (speaks_of_databases config label)) (ran_one config rules w log step).trace _)) (both_accepted config rules _ _ r m.0 rest.0 m.2 rest.1),
      rest.2,
      rest.3,
      rest.4,
      rest.5,
    )

pub promise_of_addresses : PromiseOfAddresses
promise_of_addresses config rules steps is = (let first = generations_stand config rules _ _ (opened_lives config rules is).0 in
    addresses_kept config rules steps _ _ _ _ (law_of_addresses config rules steps is) (opening_records_stand config) first (places_stand config (opening config) (Lines.opening config) (opened_places config)) (opening_calls config))
