use Rattle.std.proofs.Common.{◌≡◌, ◌∙◌, [], Bool, List, ℕ, true, ap, subst, sym}
use Rattle.std.specs.Prelude.{Vec}
use Rattle.std.specs.declared.alloc.Global.{Global}
use Rattle.ct_call.specs.Shown.{rules_of}
use Rattle.ct_rules_cluster.specs.Steps.{steps}
use Rattle.ct_rules_cluster.specs.declared.step.Line.{Line}
use Rattle.ct_frame.specs.declared.event.Event.TheVariants as event
use Rattle.ct_rules_node.specs.Coming.{may_come}
use Rattle.ct_world.specs.World.{cluster_of, world_of}
use Rattle.ct_rules_cluster.specs.Cluster.{able_from, node_at}
use Rattle.ct_world.proofs.Asked.{takeover_comes, takeover_node}
use Rattle.ct_world.proofs.Given.{fed_as, no_memory}
use Rattle.ct_world.proofs.parts.Parts.takeover.Goals as goal

pub feed-answer-requires-clause-there : goal.feed-answer-requires-clause-there
feed-answer-requires-clause-there g c = takeover_node c.args.self.now c.args.node c.requires

pub feed-answer-requires-clause-coming : goal.feed-answer-requires-clause-coming
feed-answer-requires-clause-coming g c =
    let same = c.in_ok-able.ensures ∙ ap (λ (bs : List Bool). able_from 0 bs) c.as_slice.ensures in
    subst (λ (xs : List ℕ). may_come c.args.self.now.config c.args.node (node_at c.args.node (cluster_of c.args.self.now)) (event.BeginTakeover xs) ≡ true) (sym same) (takeover_comes c.args.self.now c.args.node)

pub returns-clause-step : goal.returns-clause-step
unfolding steps
returns-clause-step g c =
    let same = c.in_ok-able.ensures ∙ ap (λ (bs : List Bool). able_from 0 bs) c.as_slice.ensures in
    fed_as (λ (v : Vec Line Global). v.items) c.feed-answer.result c.args.self.now.config (rules_of c.args.table.now) c.args.node (event.BeginTakeover c.in_ok-able.able) (event.BeginTakeover (able_from 0 c.args.self.now.able)) c.new-own.result.items [] (cluster_of c.args.self.now) (world_of c.args.self.now) (world_of c.feed-answer.new.self)
    c.new-own.ensures.items (ap (λ (xs : List ℕ). event.BeginTakeover xs) same) c.feed-answer.ensures.step

pub returns-in_err-able-clause-step : goal.returns-in_err-able-clause-step
returns-in_err-able-clause-step g c = no_memory (λ (v : Vec Line Global). v.items) c.from_residual.result _ _ c.from_residual.ensures.1
