use Rattle.std.proofs.Common.{rules}
use Rattle.ct_node_plan_calls.proofs.Releasing.{freezing_so, planned_freezing, planned_other}
use Rattle.ct_node_plan_calls.proofs.unlocks.unlocks.Goals as goal

pub release_freezing-requires : goal.release_freezing-requires
release_freezing-requires c = record { there = c.requires; freezing = freezing_so c.args.node.now.phase c.in-Some.generation c.in-Some.leader (search rules) }

pub returns-in-Some : goal.returns-in-Some
returns-in-Some c =
    planned_freezing c.args.config.now c.args.me c.args.call c.args.db c.args.key.now c.args.node.now c.release_freezing.result c.in-Some.generation c.in-Some.leader
    (search rules) (search rules)

pub returns-in-None : goal.returns-in-None
returns-in-None c =
    planned_other c.args.config.now c.args.me c.args.call c.args.db c.args.key.now c.args.node.now c.unlock.result
    (search rules) (search rules)
