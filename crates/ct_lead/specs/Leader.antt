-- The leader of a round: what it waits for, and from whom.
use Rattle.std.specs.Prelude.{ℕ, nat_eq, Bool, true, false, ◌&&◌, if◌then◌else◌, List, [], Option, None, Some}
use Rattle.std.specs.List.{list_any}
use Rattle.ct_values.specs.Words.{others}
use Rattle.ct_tracking.specs.Awaited.{is_last}
use Rattle.ct_frame.specs.declared.round.Pull.{Pull}
use Rattle.ct_frame.specs.declared.round.PushBody.{PushBody}
use Rattle.ct_frame.specs.declared.round.Stage.{Stage}
use Rattle.ct_frame.specs.declared.round.Stage.TheVariants.{Freezing, Pulling, Installing, Completed}
use Rattle.ct_merge.specs.Gathered.{Gathered, nothing, gathered, finished}
use Rattle.ct_rules_node.specs.Rounds.{body_of}

-- the leader itself, the round's generation and members, what it waits for and from whom, and what it gathered
pub record Leading : Type 0 where
  pub me : ℕ
  pub generation : ℕ
  pub members : List ℕ
  pub stage : Stage
  pub missing : List ℕ
  pub gathered : Gathered

-- Begin of a round: all members are to freeze
abbrev pub round_begun : ℕ → ℕ → List ℕ → Leading
round_begun me g members = record { me = me; generation = g; members = members; stage = Freezing; missing = members; gathered = nothing }

abbrev pub is_stage : Stage → Stage → Bool
is_stage Freezing Freezing = true
is_stage Pulling Pulling = true
is_stage Installing Installing = true
is_stage Completed Completed = true
is_stage Freezing Pulling = false
is_stage Freezing Installing = false
is_stage Freezing Completed = false
is_stage Pulling Freezing = false
is_stage Pulling Installing = false
is_stage Pulling Completed = false
is_stage Installing Freezing = false
is_stage Installing Pulling = false
is_stage Installing Completed = false
is_stage Completed Freezing = false
is_stage Completed Pulling = false
is_stage Completed Installing = false

-- does the leader wait for this of the node, in the round of this generation?
abbrev pub awaits : Stage → ℕ → ℕ → Leading → Bool
awaits stage g n l = is_stage stage l.stage && nat_eq l.generation g && list_any (nat_eq n) l.missing

-- does the node's answer complete this stage?
abbrev pub ends_stage : Stage → ℕ → Leading → Bool
ends_stage stage n l = is_stage stage l.stage && is_last n l.missing

-- a leader that waits for this strikes the node off; where nobody is missing then, it goes on so
abbrev pub struck_off : Stage → ℕ → Leading → Leading → Leading
struck_off stage n next l = if is_stage stage l.stage then (if is_last n l.missing then next else record l { missing = others n l.missing }) else l

-- FreezeAck: once all are frozen, they are asked for what they hold, and nothing is gathered yet
abbrev pub after_freezeack : ℕ → Leading → Leading
after_freezeack n l = struck_off Freezing n (record l { stage = Pulling; missing = l.members; gathered = nothing }) l

-- PullReply: with the last one all are to install what is made of it
abbrev pub installs : Leading → Leading
installs l = record l { stage = Installing; missing = l.members; gathered = nothing }

-- PullReply: the first of each member is gathered
abbrev pub after_pullreply : Pull → Leading → Leading
after_pullreply pull l =
    if is_stage Pulling l.stage && list_any (nat_eq pull.node) l.missing
    then (if is_last pull.node l.missing then installs l else record l { missing = others pull.node l.missing; gathered = gathered pull l.gathered })
    else l

-- PullReply: the last one is followed by what is pushed, where this node leads
abbrev pub pushed_at : ℕ → Pull → Leading → Option PushBody
pushed_at me pull l = if ends_stage Pulling pull.node l then Some (body_of me l.members (finished (gathered pull l.gathered))) else None

-- PullReply: the last one is followed by what is pushed
abbrev pub pushed : Pull → Leading → Option PushBody
pushed pull l = pushed_at l.me pull l

-- PushAck: once all have installed, the round is completed
abbrev pub after_pushack : ℕ → Leading → Leading
after_pushack n l = struck_off Installing n (record l { stage = Completed; missing = [] }) l
