use Rattle.std.proofs.Common.{rules}
use Rattle.ct_node_plan_records.specs.declared.walk.Walk.{Walk}
use Rattle.ct_node_plan_records.proofs.Taking.{takes, takes_middle}
use Rattle.ct_node_plan_records.proofs.walk.Walk.acted.Goals as goal

pub returns-clause-step : goal.returns-clause-step
returns-clause-step c =
    let v : Walk = record { next = c.draft.inside.next; floor = c.draft.inside.floor; left = c.add.new.left; outs = c.append.new.self } in
    takes c.args.me c.args.db c.args.key c.args.draft c.args.node.now c.args.self.now v (search rules) (search rules) (search rules)

pub returns-clause-middle : goal.returns-clause-middle
returns-clause-middle c =
    let v : Walk = record { next = c.draft.inside.next; floor = c.draft.inside.floor; left = c.add.new.left; outs = c.append.new.self } in
    takes_middle c.args.db c.args.key c.args.draft c.args.node.now c.args.self.now v c.requires.there c.requires.middle c.requires.deleted (search rules) (search rules) (search rules)
