use Rattle.std.proofs.Common.{rules}
use Rattle.ct_node_plan_runs.proofs.Planned.{planned_hold}
use Rattle.ct_node_plan_runs.proofs.follow.on_take.Goals as goal

pub returns : goal.returns
returns c =
    planned_hold c.args.config.now c.args.me c.args.number c.args.assigned.now c.in_ok-placement.placement c.in-Some.more.items c.args.node.now c.take.new.self c.in_ok-outs.outs
    (search rules) (search rules) (search rules) (search rules)
