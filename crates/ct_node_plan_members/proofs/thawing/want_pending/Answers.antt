use Rattle.std.proofs.Common.{length}
use Rattle.ct_node_plan_members.proofs.Thawed.{all_there}
use Rattle.ct_node_plan_members.proofs.thawing.want_pending.Goals as goal

pub want_all-requires-clause-there : goal.want_all-requires-clause-there
want_all-requires-clause-there g c = all_there c.args.node.now c.in_ok-pending_calls.field-0.items (length c.args.turn.now.node.dbs) c.in_ok-pending_calls.ensures c.requires.dbs
