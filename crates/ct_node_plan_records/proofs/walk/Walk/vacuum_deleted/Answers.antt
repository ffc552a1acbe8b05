use Rattle.ct_node_plan_records.specs.Walked.{node_so_far, so_far}
use Rattle.ct_node_plan_records.proofs.Taking.{key_taken, view_in_limit}
use Rattle.ct_node_plan_records.proofs.walk.Walk.vacuum_deleted.Goals as goal

pub vacuum-requires-clause-in_limit : goal.vacuum-requires-clause-in_limit
vacuum-requires-clause-in_limit c =
    view_in_limit c.args.db c.args.key c.args.node.now (node_so_far c.args.db c.args.node.now c.args.self.now) c.in_ok-draft.draft c.in_ok-draft.ensures c.requires.same c.requires.in_limit

pub returns-clause-step : goal.returns-clause-step
returns-clause-step c =
    key_taken c.args.config.now c.args.me c.args.db c.args.key c.args.node.now c.args.self.now c.in_ok-at.at c.args.asked.now c.in_ok-draft.draft c.vacuum.new.draft c.acted.result (so_far c.args.db c.args.node.now c.acted.new.self)
    c.in_ok-at.ensures c.requires.others c.in_ok-draft.ensures c.in_ok-vacuum.ensures c.acted.ensures.step
