use Rattle.ct_lcp2_lines.specs.Text.{imbalance_line}
use Rattle.ct_lcp2_lines.proofs.Nodes.{one_line}
use Rattle.ct_lcp2_lines.proofs.text.push_imbalance_lines.Goals as goal

pub loop-node-preserved : goal.loop-node-preserved
loop-node-preserved c =
    one_line (imbalance_line c.args.at.now) c.loop-node.node c.args.nodes c.loop-node.text.items c.push_imbalance_line.new.text.items _
    c.loop-node-test.true c.loop-node.invariant c.in_ok-push_imbalance_line.ensures
