-- How the leader of a round, what it pushes and its takeover run stand for what a node leads.
use Rattle.std.specs.Prelude.{◌≡◌, ℕ, Bool, true, false, List, [], ◌∷◌, Option, None, Some}
use Rattle.ct_frame.specs.declared.frame.Assigned.{Assigned}
use Rattle.ct_frame.specs.declared.round.Stage.{Stage}
use Rattle.ct_frame.specs.declared.round.Stage.TheVariants as stage
use Rattle.ct_rules_node.specs.Node.{Lead, Nothing, Freezes, Pulls, Installs, Completed, Run, NoRun, Releasing, Taking}
use Rattle.ct_lead.specs.Leader.{Leading}
use Rattle.ct_lead.specs.Run.{Handing}
use Rattle.ct_lead.specs.declared.lead.Led.{Led}
use Rattle.ct_lead.specs.declared.lead.Led.TheVariants as led

-- a run whose placement is handed out once nobody is missing
abbrev pub run_by : List Assigned → List ℕ → Run
run_by placement [] = Taking placement
run_by placement (m ∷ ms) = Releasing placement (m ∷ ms)

-- where a takeover run is
abbrev pub run_of : Option Handing → Run
run_of None = NoRun
run_of (Some h) = run_by h.placement h.missing

-- a leader that waits for frozen members, or for what they hold
abbrev pub gathers_in : Stage → Leading → Lead
gathers_in stage.Freezing l = Freezes l.generation l.members l.missing
gathers_in stage.Pulling l = Pulls l.generation l.members l.missing l.gathered
gathers_in stage.Installing l = Nothing
gathers_in stage.Completed l = Nothing

-- what is led
abbrev pub lead_of : Led → Lead
lead_of led.Nothing = Nothing
lead_of (led.Gathering l) = gathers_in l.stage l
lead_of (led.Installing l body) = Installs l.generation l.members l.missing body
lead_of (led.Completed l made number run) = Completed l.generation l.members (record { made = made; number = number; run = run_of run })

-- a leader that gathers waits for frozen members or for what they hold
abbrev pub is_gathering : Stage → Bool
is_gathering stage.Freezing = true
is_gathering stage.Pulling = true
is_gathering stage.Installing = false
is_gathering stage.Completed = false

-- the leader waits for what is told of it
abbrev pub StandsSo : Led → Type 0
StandsSo led.Nothing = Unit {0}
StandsSo (led.Gathering l) = is_gathering l.stage ≡ true
StandsSo (led.Installing l body) = l.stage ≡ stage.Installing
StandsSo (led.Completed l made number run) = Unit {0}
