use Rattle.std.proofs.Common.{◌∙◌, ◌++◌, ◌∷◌, [], List, ap, arith}
use Rattle.ct_frame.specs.declared.frame.Frame.{Frame}
use Rattle.ct_troupe.proofs.Staging.{has_limits, opens_first, opens_more, opens_playing}
use Rattle.ct_troupe.proofs.stage.Stage.new.Goals as goal

pub loop-node-init : goal.loop-node-init
loop-node-init c = opens_first c.args.plan.now c.new-seats.result.items c.new-queues.result.items c.new-seats.ensures.items c.new-queues.ensures.items

pub new-requires-clause-limits : goal.new-requires-clause-limits
new-requires-clause-limits c = has_limits c.args.plan.now c.requires

pub loop-node-preserved : goal.loop-node-preserved
loop-node-preserved c =
    opens_more c.args.plan.now c.loop-node.seats.items c.push.new.self.items c.loop-node.queues.items c.push-in-loop-node.new.self.items c.loop-node.node (record { node = c.in_ok-opened.opened; cue = c.first-cue.result }) c.loop-node.invariant
    c.in_ok-opened.ensures.at_opening c.first-cue.ensures c.in_ok-push.ensures.items
    (c.in_ok-push-2.ensures.items ∙ ap (λ (q : List Frame). c.loop-node.queues.items ++ q ∷ []) c.new-in-loop-node.ensures)

pub returns : goal.returns
returns c = opens_playing c.args.plan.now c.loop-node.seats.items c.loop-node.queues.items c.loop-node.node (omega arith) c.loop-node.invariant
