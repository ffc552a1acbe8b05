use Rattle.std.proofs.Common.{[], refl}
use Rattle.std.specs.Prelude.{Vec}
use Rattle.std.specs.declared.alloc.Global.{Global}
use Rattle.ct_call.specs.Shown.{rules_of}
use Rattle.ct_rules_cluster.specs.Steps.{steps}
use Rattle.ct_rules_cluster.specs.declared.step.Line.{Line}
use Rattle.ct_frame.specs.declared.event.Event.TheVariants as event
use Rattle.ct_rules_node.specs.Coming.{may_come}
use Rattle.ct_world.specs.World.{cluster_of, world_of}
use Rattle.ct_world.proofs.Asked.{retry_node}
use Rattle.ct_world.proofs.Given.{fed_as}
use Rattle.ct_world.proofs.parts.Parts.retry.Goals as goal

pub feed-answer-requires-clause-there : goal.feed-answer-requires-clause-there
feed-answer-requires-clause-there g c = retry_node c.args.self.now c.args.node c.requires

pub feed-answer-requires-clause-coming : goal.feed-answer-requires-clause-coming
unfolding may_come
feed-answer-requires-clause-coming g c = refl

pub returns-clause-step : goal.returns-clause-step
unfolding steps
returns-clause-step g c =
    fed_as (λ (v : Vec Line Global). v.items) c.feed-answer.result c.args.self.now.config (rules_of c.args.table.now) c.args.node event.Retry event.Retry c.new-own.result.items [] (cluster_of c.args.self.now) (world_of c.args.self.now) (world_of c.feed-answer.new.self) c.new-own.ensures.items refl c.feed-answer.ensures.step
