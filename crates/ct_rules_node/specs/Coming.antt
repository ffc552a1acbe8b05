-- What is asked of an event at a node.
use Rattle.std.specs.Prelude.{ℕ, nat_eq, nat_lt, Bool, true, ◌&&◌, Option, None, Some}
use Rattle.std.specs.List.{list_all}
use Rattle.ct_values.specs.declared.client.ClientOp.{ClientOp}
use Rattle.ct_values.specs.declared.client.ClientOp.TheVariants as op
use Rattle.ct_values.specs.declared.config.Config.{Config}
use Rattle.ct_frame.specs.Fields.{ascends, is_one_to_sixteen, well_formed}
use Rattle.ct_frame.specs.declared.event.Event.{Event}
use Rattle.ct_frame.specs.declared.event.Event.TheVariants as event
use Rattle.ct_rules_node.specs.Node.{Node, Committing, is_among}
use Rattle.ct_rules_node.specs.Rounds.{pending_calls}

-- a commit has 1 to 16 writes
unfoldable pub is_allowed_op : ClientOp → Bool
is_allowed_op (op.Commit db writes) = is_one_to_sixteen writes
is_allowed_op _ = true

-- the call of a commit that waits has a smaller number
unfoldable pub is_after_commit : ℕ → Option Committing → Bool
is_after_commit call None = true
is_after_commit call (Some x) = nat_lt x.call call

-- every call that waits at the node has a smaller number
unfoldable pub is_after_pending : ℕ → Node → Bool
is_after_pending call n = list_all (λ x. nat_lt x.call call) (pending_calls n) && list_all (λ d. is_after_commit call d.commit) n.dbs

-- What is asked of an event: a call has 1 to 16 writes and a greater number than those that wait, a message is for this
-- node and keeps the rules of its fields, members and able nodes ascend, and members are nodes, this one among them
unfoldable pub may_come : Config → ℕ → Node → Event → Bool
may_come c me n (event.Client call o) = is_allowed_op o && is_after_pending call n
may_come c me n (event.Arrive f) = well_formed f && nat_eq f.receiver me
may_come c me n event.Retry = true
may_come c me n (event.Vacuum db) = true
may_come c me n (event.BeginRound ticket members) = ascends nat_lt members && list_all (λ m. nat_lt m c.nodes) members && is_among me members
may_come c me n (event.BeginTakeover able) = ascends nat_lt able
