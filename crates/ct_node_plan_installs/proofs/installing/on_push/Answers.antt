use Rattle.ct_node_plan_installs.proofs.Pushed.{push_in_parts}
use Rattle.ct_node_plan_installs.proofs.installing.on_push.Goals as goal

pub follows-requires-clause-push : goal.follows-requires-clause-push
follows-requires-clause-push c = push_in_parts c.args.sender c.args.members.now c.args.table.now c.args.ptables.now c.args.assigned.now c.requires.message
