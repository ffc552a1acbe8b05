use Rattle.std.proofs.Common.{rules}
use Rattle.ct_node_plan_runs.proofs.Planned.{planned_release}
use Rattle.ct_node_plan_runs.proofs.follow.on_release.Goals as goal

pub returns : goal.returns
returns c =
    planned_release c.args.me c.args.sender c.args.number c.args.keep.now c.in-Some.given_up.items c.args.node.now c.release.new.self c.post.new.outs
    (search rules) (search rules) (search rules)
