use Rattle.std.proofs.Common.{◌≡◌, ◌+◌, [], true, ap, subst, sym}
use Rattle.std.specs.Prelude.{Vec}
use Rattle.std.specs.declared.alloc.Global.{Global}
use Rattle.ct_call.specs.Shown.{rules_of}
use Rattle.ct_rules_cluster.specs.Steps.{steps}
use Rattle.ct_rules_cluster.specs.declared.step.Line.{Line}
use Rattle.ct_frame.specs.declared.event.Event.TheVariants as event
use Rattle.ct_rules_node.specs.Coming.{may_come}
use Rattle.ct_world.specs.World.{cluster_of, world_of}
use Rattle.ct_rules_cluster.specs.Cluster.{node_at}
use Rattle.ct_values.specs.declared.client.ClientOp.{ClientOp}
use Rattle.ct_world.proofs.Asked.{client_comes, client_node, few_calls}
use Rattle.ct_world.proofs.Given.{fed_as, no_memory, one_fits}
use Rattle.ct_world.proofs.parts.Parts.client.Goals as goal

pub overflow_add-books : goal.overflow_add-books
overflow_add-books g c = one_fits c.args.self.now.books.calls (few_calls c.args.self.now c.requires.form)

pub feed-answer-requires-clause-there : goal.feed-answer-requires-clause-there
feed-answer-requires-clause-there g c = client_node c.args.self.now c.args.node c.args.op.now c.requires

pub feed-answer-requires-clause-coming : goal.feed-answer-requires-clause-coming
feed-answer-requires-clause-coming g c =
    subst (λ (o : ClientOp). may_come c.args.self.now.config c.args.node (node_at c.args.node (cluster_of c.args.self.now)) (event.Client (c.args.self.now.books.calls + 1) o) ≡ true) (sym c.in_ok-op.ensures)
    (client_comes c.args.self.now c.args.node c.args.op.now c.requires)

pub returns-clause-step : goal.returns-clause-step
unfolding steps
returns-clause-step g c =
    let w = cluster_of c.args.self.now in
    let n = c.args.self.now.books.calls + 1 in
    fed_as (λ (v : Vec Line Global). v.items) c.feed-answer.result c.args.self.now.config (rules_of c.args.table.now) c.args.node (event.Client n c.in_ok-op.op) (event.Client n c.args.op.now) c.new-own.result.items [] (record w { calls = n }) (world_of c.args.self.now) (world_of c.feed-answer.new.self)
    c.new-own.ensures.items (ap (λ (o : ClientOp). event.Client n o) c.in_ok-op.ensures) c.feed-answer.ensures.step

pub returns-in_err-op-clause-step : goal.returns-in_err-op-clause-step
returns-in_err-op-clause-step g c = no_memory (λ (v : Vec Line Global). v.items) c.from_residual.result _ _ c.from_residual.ensures.1
