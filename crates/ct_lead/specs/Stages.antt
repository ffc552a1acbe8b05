-- What the answers of members make of what a node leads.
use Rattle.std.specs.Prelude.{ℕ, nat_eq, Bool, true, false, ◌&&◌, if◌then◌else◌, List, [], Option, None, Some}
use Rattle.ct_values.specs.Words.{is_nil, others}
use Rattle.ct_frame.specs.declared.frame.Assigned.{Assigned}
use Rattle.ct_frame.specs.declared.round.Pull.{Pull}
use Rattle.ct_frame.specs.declared.round.PushBody.{PushBody}
use Rattle.ct_merge.specs.Gathered.{nothing, gathered, finished}
use Rattle.ct_rules_node.specs.Node.{Lead, Nothing, Freezes, Pulls, Installs, Completed, NoRun, is_among}
use Rattle.ct_rules_node.specs.Rounds.{body_of}

-- the members of the round that is led
abbrev pub led_members : Lead → List ℕ
led_members Nothing = []
led_members (Freezes g members missing) = members
led_members (Pulls g members missing x) = members
led_members (Installs g members missing b) = members
led_members (Completed g members x) = members

-- what all members are to install
abbrev pub led_body : Lead → Option PushBody
led_body Nothing = None
led_body (Freezes g members missing) = None
led_body (Pulls g members missing x) = None
led_body (Installs g members missing b) = Some b
led_body (Completed g members x) = None

-- ---- FreezeAck

-- is this member missing in this round, which waits for members to freeze?
abbrev pub awaits_freezeack : ℕ → ℕ → Lead → Bool
awaits_freezeack g n Nothing = false
awaits_freezeack g n (Freezes h members missing) = nat_eq h g && is_among n missing
awaits_freezeack g n (Pulls h members missing x) = false
awaits_freezeack g n (Installs h members missing b) = false
awaits_freezeack g n (Completed h members x) = false

-- the member is struck off; where nobody is missing, all are asked for what they hold
abbrev pub led_after_freezeack : ℕ → Lead → Lead
led_after_freezeack n Nothing = Nothing
led_after_freezeack n (Freezes g members missing) = if is_nil (others n missing) then Pulls g members members nothing else Freezes g members (others n missing)
led_after_freezeack n (Pulls g members missing x) = Pulls g members missing x
led_after_freezeack n (Installs g members missing b) = Installs g members missing b
led_after_freezeack n (Completed g members x) = Completed g members x

-- are all asked for what they hold?
abbrev pub is_pulling : Lead → Bool
is_pulling Nothing = false
is_pulling (Freezes g members missing) = false
is_pulling (Pulls g members missing x) = true
is_pulling (Installs g members missing b) = false
is_pulling (Completed g members x) = false

-- ---- PullReply

-- is this member missing in this round, which waits for what members hold?
abbrev pub awaits_pullreply : ℕ → ℕ → Lead → Bool
awaits_pullreply g n Nothing = false
awaits_pullreply g n (Freezes h members missing) = false
awaits_pullreply g n (Pulls h members missing x) = nat_eq h g && is_among n missing
awaits_pullreply g n (Installs h members missing b) = false
awaits_pullreply g n (Completed h members x) = false

-- what it holds is gathered and it is struck off; where nobody is missing, all are to install what is made of all
abbrev pub led_after_pullreply : ℕ → Pull → Lead → Lead
led_after_pullreply me pull Nothing = Nothing
led_after_pullreply me pull (Freezes g members missing) = Freezes g members missing
led_after_pullreply me pull (Pulls g members missing x) =
    if is_nil (others pull.node missing) then Installs g members members (body_of me members (finished (gathered pull x)))
    else Pulls g members (others pull.node missing) (gathered pull x)
led_after_pullreply me pull (Installs g members missing b) = Installs g members missing b
led_after_pullreply me pull (Completed g members x) = Completed g members x

-- ---- PushAck

-- is this member missing in this round, which waits for members to install?
abbrev pub awaits_pushack : ℕ → ℕ → Lead → Bool
awaits_pushack g n Nothing = false
awaits_pushack g n (Freezes h members missing) = false
awaits_pushack g n (Pulls h members missing x) = false
awaits_pushack g n (Installs h members missing b) = nat_eq h g && is_among n missing
awaits_pushack g n (Completed h members x) = false

-- the member is struck off; where nobody is missing, the round is completed, with this placement
abbrev pub led_after_pushack : ℕ → List Assigned → Lead → Lead
led_after_pushack n made Nothing = Nothing
led_after_pushack n made (Freezes g members missing) = Freezes g members missing
led_after_pushack n made (Pulls g members missing x) = Pulls g members missing x
led_after_pushack n made (Installs g members missing b) =
    if is_nil (others n missing) then Completed g members (record { made = made; number = 0; run = NoRun }) else Installs g members (others n missing) b
led_after_pushack n made (Completed g members x) = Completed g members x

-- is the round completed?
abbrev pub is_completed : Lead → Bool
is_completed Nothing = false
is_completed (Freezes g members missing) = false
is_completed (Pulls g members missing x) = false
is_completed (Installs g members missing b) = false
is_completed (Completed g members x) = true
