use Rattle.ct_picture.proofs.Lists.{one_more}
use Rattle.ct_ladder.specs.Drawing.{lifeline}
use Rattle.ct_ladder.proofs.drawing.lifelines.Goals as goal

pub loop-node-preserved : goal.loop-node-preserved
loop-node-preserved c =
    one_more (lifeline c.args.rungs.now) c.loop-node.node c.args.nodes c.loop-node.shapes.items c.lifeline.new.shapes.items _
    c.loop-node-test.true c.loop-node.invariant c.in_ok-lifeline.ensures
