-- What nodes leave that served side by side.
use Rattle.std.specs.Prelude.{◌≡◌, ℕ, ◌<◌, nat_le, Bool, List, length, Option, Some, Result, Ok}
use Rattle.ct_values.specs.declared.memory.NoMemory.{NoMemory}
use Rattle.ct_call.specs.Rules.{Rules}
use Rattle.ct_script.specs.Cues.{IsScripted, most_entries}
use Rattle.ct_script.specs.declared.plan.Plan.{Plan}
use Rattle.ct_journal.specs.Order.{AreInOrder, entries_of}
use Rattle.ct_journal.specs.declared.journal.Journal.{Journal}
use Rattle.ct_law_journal_schedule.specs.Laws.{IsRunOf}
use Rattle.ct_journal_order.specs.Order.{left_over}
use Rattle.ct_script.specs.Sound.{script_of}
use Rattle.ct_actor_serving.specs.Serving.{Counts, EndsBy}
use Rattle.ct_actor_serving.specs.declared.fault.Served.{Served}
use Rattle.ct_actor_serving.specs.declared.fault.Until.{Until}

-- Threads: this is the journal of node n of a plan that has served: a run of it by the rules, which follows its script
pub record HasServed (rules : Rules) (p : Plan) (n : ℕ) (j : Journal) : Type 0 where
  pub run : IsRunOf p.config rules n j
  pub scripted : IsScripted (script_of p n) j.entries

-- it served for so long, by the counts of its link
abbrev pub ServedFor : Until → Counts → Counts → Journal → Type 0
ServedFor until old new j = (served : Served) × EndsBy until served (length j.entries) old new

-- what a node leaves that served to its end
abbrev pub served : {X : Type 0} → X → Result (Option X) NoMemory
served x = Ok (Some x)

-- does the journal have all entries that a node takes?
unfoldable pub has_most_entries : Journal → Bool
has_most_entries j = nat_le most_entries (length j.entries)

-- Threads: journals are in order and, where none has 1,000,000 entries, each message that was sent has arrived
pub record AreSettled (js : List Journal) : Type 0 where
  pub in_order : AreInOrder js
  pub arrived : ((n : ℕ) → length (entries_of js n) < most_entries) → left_over js ≡ 0
