-- What a play of a plan leaves behind.
use Rattle.std.specs.Prelude.{◌≡◌, ℕ, Bool, true, false, List, [], Result, Ok, Err}
use Rattle.ct_call.specs.Rules.{Rules}
use Rattle.ct_script.specs.declared.plan.Plan.{Plan}
use Rattle.ct_journal.specs.Order.{AreInOrder, entries_of}
use Rattle.ct_journal.specs.declared.journal.Journal.{Journal}
use Rattle.ct_law_journal_schedule.specs.Laws.{AreRuns}
use Rattle.ct_script.specs.Sound.{script_of}
use Rattle.ct_script.specs.Cues.{IsScripted}
use Rattle.ct_troupe.specs.declared.troupe.PlayFault.{PlayFault}
use Rattle.ct_troupe.specs.declared.troupe.PlayFault.TheVariants.{Link, NoMemory}

-- Plays: journals are those of a plan that was played. Each node has one, at its own place, which is a run of it by the rules;
-- it follows the node's script; and the journals are in order.
pub record ArePlayed (rules : Rules) (p : Plan) (js : List Journal) : Type 0 where
  pub runs : AreRuns p.config rules js
  pub scripted : (n : ℕ) → IsScripted (script_of p n) (entries_of js n)
  pub in_order : AreInOrder js

-- Plays: a plan was played, or there are no journals
abbrev pub HasPlayed : Rules → Plan → Result (Unit {0}) PlayFault → List Journal → Type 0
HasPlayed rules p (Ok u) js = ArePlayed rules p js
HasPlayed rules p (Err f) js = js ≡ []

-- did what joins the nodes fail?
abbrev pub is_link_fault : Result (Unit {0}) PlayFault → Bool
is_link_fault (Ok u) = false
is_link_fault (Err Link) = true
is_link_fault (Err NoMemory) = false
