-- A step of one record, by cases on its answer.
use Rattle.std.specs.Prelude.{◌≡◌, ℕ, List, ◌++◌, Option, None, Some, Result, Ok, Err}
use Rattle.ct_call.specs.Rules.{Rules}
use Rattle.ct_law_rules.specs.Form.{IsAfter}
use Rattle.ct_rules.specs.Moves.{moved}
use Rattle.ct_rules.specs.Parts.{Moving}
use Rattle.ct_rules.specs.declared.event.Act.{Act}
use Rattle.ct_rules.specs.declared.event.MoveEvent.{MoveEvent}
use Rattle.ct_rules.specs.declared.event.Place.{Place}
use Rattle.ct_rules.specs.declared.state.RecState.{RecState}
use Rattle.ct_record.specs.declared.machine.MoveFault.{MoveFault}
use Rattle.ct_record.specs.declared.machine.MoveFault.TheVariants.{Exhausted, NoMemory}

-- what a step changes: the state of the record, the next request number of the node, and the list of what is done
pub record Machine : Type 0 where
  pub state : RecState
  pub next : ℕ
  pub acts : List Act

-- a whole step leaves its state and its number, and what it does stands after what was done before
abbrev pub after : Machine → Moving → Machine
after m o = record { state = o.state; next = o.next; acts = m.acts ++ o.acts }

-- a step is what the rule makes of the record. It is refused for a number exactly where the rule makes nothing of it,
-- and whatever it is refused for, all is as it was
abbrev pub Steps : Result (Unit {0}) MoveFault → Option Moving → Machine → Machine → Type 0
Steps (Ok u) rule old new = (o : Moving) × (rule ≡ Some o) × (new ≡ after old o)
Steps (Err Exhausted) rule old new = (rule ≡ None) × (new ≡ old)
Steps (Err NoMemory) rule old new = new ≡ old

-- whatever a step makes of the record is in form, under a next request number and a floor that are not smaller
abbrev pub KeepsForm : Place → Rules → MoveEvent → RecState → ℕ → Type 0
KeepsForm at rules e s next = (o : Moving) → moved at rules e s next ≡ Some o → IsAfter at next o
