-- What a cluster that plays the plan of a seed writes.
use Rattle.std.specs.Prelude.{◌≡◌, ◌≤◌, ◌⊎◌, ℕ, List, [], length, Option}
use Rattle.std.specs.Io.KnownBytes.{Appends}
use Rattle.ct_outside.specs.Causes.{AppendsPart, Rose}
use Rattle.ct_call.specs.Rules.{Rules}
use Rattle.ct_script.specs.declared.plan.Plan.{Plan}
use Rattle.ct_rules_cluster.specs.declared.step.Step.{Step}
use Rattle.ct_journal.specs.Order.{all_entries}
use Rattle.ct_journal.specs.Schedules.{IsSchedule}
use Rattle.ct_journal.specs.declared.journal.Journal.{Journal}
use Rattle.ct_script.specs.Scripts.{cluster_plan}
use Rattle.ct_schedule_text.specs.Schedule.{schedule_text}
use Rattle.ct_schedule_text.specs.declared.schedule.Summary.{Summary}
use Rattle.ct_troupe.specs.Played.{ArePlayed}
use Rattle.ct_troupe_run.specs.Text.{StepsKeepPromise}
use Rattle.ct_troupe_run.specs.declared.running.End.{End}
use Rattle.ct_troupe_run.specs.declared.running.End.TheVariants as end
use Rattle.ct_troupe_run.specs.declared.running.Wanted.{Wanted}

-- its numbers are in their range
pub record HasPlanRange (x : Wanted) : Type 0 where
  pub some_nodes : 1 ≤ x.nodes
  pub few_nodes : x.nodes ≤ 8
  pub some_calls : 1 ≤ x.calls
  pub few_calls : x.calls ≤ 1000

-- Plays: the plan that is wanted is that of its seed, and says whether its nodes talk over sockets
abbrev pub plan_of : Wanted → Plan
plan_of x = record (cluster_plan x.nodes x.calls x.seed) { net = x.net }

-- what is told of the journals beside their schedule
abbrev pub summary_of : Wanted → List Journal → Summary
summary_of x js = record { net = x.net; calls = x.calls; entries = length (all_entries js) }

-- Plays: journals are those of the plan that is wanted, and a text is that of a schedule of them, which keeps the promise
pub record IsScheduleText (rules : Rules) (x : Wanted) (js : List Journal) (text : List ℕ) : Type 0 where
  pub played : ArePlayed rules (plan_of x) js
  pub steps : List Step
  pub schedule : IsSchedule (plan_of x).config rules js steps
  pub promised : StepsKeepPromise (plan_of x).config rules steps
  pub told : text ≡ schedule_text (plan_of x).config rules steps (summary_of x js)

-- out gained the text of a schedule of these journals
abbrev pub GainsAll : Rules → Wanted → List Journal → Option (List ℕ) → Option (List ℕ) → Type 0
GainsAll rules x js before now = (text : List ℕ) × IsScheduleText rules x js text × Appends before now text

-- out gained a front of it
abbrev pub GainsPart : Rules → Wanted → List Journal → Option (List ℕ) → Option (List ℕ) → Type 0
GainsPart rules x js before now = (text : List ℕ) × IsScheduleText rules x js text × AppendsPart before now text

-- How an end, the journals that the troupe then has, and what out held before and holds now go together. Without memory
-- either nothing was written, or a front of the text.
abbrev pub Runs : Rules → Wanted → End → List Journal → Option (List ℕ) → Option (List ℕ) → Type 0
Runs rules x end.Done js before now = GainsAll rules x js before now
Runs rules x end.LinkFault js before now = now ≡ before
Runs rules x end.WriteFault js before now = GainsPart rules x js before now
Runs rules x end.NoMemory js before now = (now ≡ before) ⊎ GainsPart rules x js before now

-- how an end of a write of this text, and what out held before and holds now go together
abbrev pub Writes : End → List ℕ → Option (List ℕ) → Option (List ℕ) → Type 0
Writes end.Done text before now = Appends before now text
Writes end.LinkFault text before now = ⊥
Writes end.WriteFault text before now = AppendsPart before now text
Writes end.NoMemory text before now = AppendsPart before now text

-- a fault comes only where its count rose, and no count falls
pub record HasRunCause (e : End) (troupe_before troupe_now out_before out_now : ℕ) : Type 0 where
  pub link_later : troupe_before ≤ troupe_now
  pub write_later : out_before ≤ out_now
  pub link : e ≡ end.LinkFault → Rose troupe_before troupe_now
  pub write : e ≡ end.WriteFault → Rose out_before out_now
