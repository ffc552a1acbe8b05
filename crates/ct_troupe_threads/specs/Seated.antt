-- What a node does that serves over a hub.
use Rattle.std.specs.Prelude.{◌≡◌, ℕ, true, List, ◌++◌, Option, Result, IfOk, IfSome}
use Rattle.ct_values.specs.declared.memory.NoMemory.{NoMemory}
use Rattle.ct_call.specs.Rules.{Rules}
use Rattle.ct_script.specs.Cues.{most_entries}
use Rattle.ct_script.specs.declared.plan.Plan.{Plan}
use Rattle.ct_journal.specs.declared.journal.Journal.{Journal}
use Rattle.ct_journal.specs.declared.journal.JournalEntry.{JournalEntry}
use Rattle.ct_outside.specs.Told.{Lists}
use Rattle.ct_actor_serving.specs.Handed.{IsSeatOf}
use Rattle.ct_actor_serving.specs.Handed.{Seat}
use Rattle.ct_actor_serving.specs.Turns.{made_in, may_all_turn, passes_over}
use Rattle.ct_actor_serving.specs.declared.fault.Until.TheVariants as until

-- Threads: node n of the plan goes on: it is still this node, and its journal has these entries more
pub record StaysSeated (rules : Rules) (p : Plan) (n : ℕ) (old new : Seat) : Type 0 where
  pub seat : IsSeatOf rules p n new
  pub since : List JournalEntry
  pub all : new.node.entries ≡ old.node.entries ++ since

-- Threads: node n served in turns from its opening on. Each turn began where one might. Before it the gate was passed once, by this
-- node, under the number of the turn. The entries of the journal that it leaves are those that the turns made.
pub record ServesInTurns (n : ℕ) (result : Result (Option Journal) NoMemory) (old new : Option (List (ℕ × ℕ))) : Type 0 where
  pub turns : List (List JournalEntry)
  pub began : may_all_turn (until.Entries most_entries) 0 0 turns ≡ true
  pub passes : Lists (passes_over n 0 turns) old new
  pub all : IfOk result (λ o. IfSome o (λ j. j.entries ≡ made_in turns))
