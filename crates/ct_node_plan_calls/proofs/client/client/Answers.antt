use Rattle.std.proofs.Common.{rules}
use Rattle.ct_call.specs.Shown.{rules_of}
use Rattle.ct_rules_node.specs.Turn.{begins}
use Rattle.ct_node_plan_calls.proofs.Serving.{client_spent, planned_refused, planned_served, served_there}
use Rattle.ct_node_plan_calls.proofs.client.client.Goals as goal

pub serves-requires : goal.serves-requires
serves-requires g c = record {
  there = served_there c.args.config.now (rules_of c.args.table.now) c.args.node.now c.args.op.now (search rules) c.requires.dbs;
  next = c.requires.next;
}

pub returns-then-call-ge-LIMIT : goal.returns-then-call-ge-LIMIT
returns-then-call-ge-LIMIT g c = client_spent c.args.config.now (rules_of c.args.table.now) c.args.me c.args.call c.args.op.now (begins c.args.node.now) (search rules)

pub returns-in-Some : goal.returns-in-Some
returns-in-Some g c =
    planned_refused c.args.config.now (rules_of c.args.table.now) c.args.me c.args.call c.args.op.now c.args.node.now c.answered.result c.in-Some.why
    (search rules) (search rules) c.answered.ensures

pub returns-in-None : goal.returns-in-None
returns-in-None g c =
    planned_served c.args.config.now (rules_of c.args.table.now) c.args.me c.args.call c.args.op.now c.args.node.now c.serves.result
    (search rules) (search rules) c.serves.ensures
