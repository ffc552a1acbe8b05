-- The takeover run of a completed round that a node leads, and what is asked again of the members of any round.
use Rattle.std.specs.Prelude.{ℕ, nat_eq, Bool, false, ◌&&◌, List, [], ◌∷◌, Option, None, Some}
use Rattle.ct_values.specs.Words.{others}
use Rattle.ct_frame.specs.declared.frame.Assigned.{Assigned}
use Rattle.ct_frame.specs.declared.frame.Msg.{Msg}
use Rattle.ct_frame.specs.declared.frame.Msg.TheVariants as msg
use Rattle.ct_rules_node.specs.Node.{Lead, Nothing, Freezes, Pulls, Installs, Completed, Takeover, Run, NoRun, Releasing, Taking, is_among}
use Rattle.ct_rules_node.specs.Rounds.{push_of}

-- ---- the run

-- the members that have not released yet
abbrev pub unreleased : Run → List ℕ
unreleased NoRun = []
unreleased (Releasing placement missing) = missing
unreleased (Taking placement) = []

-- the placement of the run, and no address where there is no run
abbrev pub placement_of : Run → List Assigned
placement_of NoRun = []
placement_of (Releasing placement missing) = placement
placement_of (Taking placement) = placement

-- the placement that is handed out, once it is
abbrev pub handed_out : Run → Option (List Assigned)
handed_out NoRun = None
handed_out (Releasing placement missing) = None
handed_out (Taking placement) = Some placement

-- ReleaseAck: these are missing still; where nobody is, the placement is made and handed out
abbrev pub left_by : List Assigned → List ℕ → Takeover → Takeover
left_by placement [] x = record x { made = placement; run = Taking placement }
left_by placement (m ∷ ms) x = record x { run = Releasing placement (m ∷ ms) }

-- ReleaseAck: a run that waits strikes the member off
abbrev pub released_by : ℕ → Takeover → Run → Takeover
released_by n x NoRun = x
released_by n x (Releasing placement missing) = left_by placement (others n missing) x
released_by n x (Taking placement) = x

-- ---- what is led

-- is it the completed round of this generation?
abbrev pub is_completed_in : ℕ → Lead → Bool
is_completed_in g Nothing = false
is_completed_in g (Freezes h members missing) = false
is_completed_in g (Pulls h members missing x) = false
is_completed_in g (Installs h members missing b) = false
is_completed_in g (Completed h members x) = nat_eq h g

-- what a completed round knows of addresses, and nothing of any other
abbrev pub led_takeover : Lead → Takeover
led_takeover Nothing = record { made = []; number = 0; run = NoRun }
led_takeover (Freezes g members missing) = record { made = []; number = 0; run = NoRun }
led_takeover (Pulls g members missing x) = record { made = []; number = 0; run = NoRun }
led_takeover (Installs g members missing b) = record { made = []; number = 0; run = NoRun }
led_takeover (Completed g members x) = x

-- Begin of a takeover: a completed round has a run of this number, which waits for all members
abbrev pub led_running : ℕ → List Assigned → Lead → Lead
led_running number placement Nothing = Nothing
led_running number placement (Freezes g members missing) = Freezes g members missing
led_running number placement (Pulls g members missing x) = Pulls g members missing x
led_running number placement (Installs g members missing b) = Installs g members missing b
led_running number placement (Completed g members x) = Completed g members (record x { number = number; run = Releasing placement members })

-- does the last run of the completed round of this generation have this number, and wait for this member?
abbrev pub awaits_releaseack : ℕ → ℕ → ℕ → Lead → Bool
awaits_releaseack n g number l = is_completed_in g l && nat_eq (led_takeover l).number number && is_among n (unreleased (led_takeover l).run)

-- ReleaseAck: the member is struck off; where nobody is missing, the placement is made and handed out
abbrev pub led_after_releaseack : ℕ → Lead → Lead
led_after_releaseack n Nothing = Nothing
led_after_releaseack n (Freezes g members missing) = Freezes g members missing
led_after_releaseack n (Pulls g members missing x) = Pulls g members missing x
led_after_releaseack n (Installs g members missing b) = Installs g members missing b
led_after_releaseack n (Completed g members x) = Completed g members (released_by n x x.run)

-- ---- what is asked again

-- the generation of the round that is led, and 0 where none is
abbrev pub led_generation : Lead → ℕ
led_generation Nothing = 0
led_generation (Freezes g members missing) = g
led_generation (Pulls g members missing x) = g
led_generation (Installs g members missing b) = g
led_generation (Completed g members x) = g

-- Retry: who is asked again: the members that are missing, and all of a completed round
abbrev pub asked_again : Lead → List ℕ
asked_again Nothing = []
asked_again (Freezes g members missing) = missing
asked_again (Pulls g members missing x) = missing
asked_again (Installs g members missing b) = missing
asked_again (Completed g members x) = members

-- Retry: what they are asked
abbrev pub question : Lead → Option Msg
question Nothing = None
question (Freezes g members missing) = Some (msg.Freeze members)
question (Pulls g members missing x) = Some msg.Pull
question (Installs g members missing b) = Some (push_of b)
question (Completed g members x) = Some msg.Thaw
