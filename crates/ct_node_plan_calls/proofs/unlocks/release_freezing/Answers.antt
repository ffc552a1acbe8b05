use Rattle.std.proofs.Common.{rules}
use Rattle.ct_rules.specs.Moves.{release}
use Rattle.ct_rules_node.specs.Records.{view}
use Rattle.ct_node_plan_calls.proofs.Releasing.{planned_release, refused_release, still_freezing}
use Rattle.ct_node_plan_calls.proofs.unlocks.release_freezing.Goals as goal

pub frozen-requires : goal.frozen-requires
frozen-requires c =
    still_freezing c.args.me c.args.db c.args.generation c.args.leader c.args.key.now c.in_ok-draft.draft c.args.node.now c.in-Ok.turn
    (search rules) (search rules)

pub returns-in-Ok : goal.returns-in-Ok
returns-in-Ok c =
    planned_release c.args.me c.args.db c.args.generation c.args.leader c.args.key.now (release c.args.call (view c.args.db c.args.key.now c.args.node.now)) c.in_ok-draft.draft c.args.node.now c.in-Ok.turn c.frozen.result
    (search rules) (search rules) (search rules)

pub returns-in-Err : goal.returns-in-Err
returns-in-Err c =
    refused_release c.args.me c.args.db c.args.generation c.args.leader c.args.key.now (release c.args.call (view c.args.db c.args.key.now c.args.node.now)) c.in_ok-draft.draft c.args.node.now c.in-Err.fault
    (search rules) (search rules)
