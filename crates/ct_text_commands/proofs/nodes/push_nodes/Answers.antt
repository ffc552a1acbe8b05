use Rattle.std.proofs.Common.{arith}
use Rattle.ct_text_commands.specs.Lists.{node_line}
use Rattle.ct_text_commands.proofs.Numbers.{next_line}
use Rattle.ct_text_commands.proofs.nodes.push_nodes.Goals as goal

pub loop-node-preserved : goal.loop-node-preserved
loop-node-preserved c = (omega (arith, c.loop-node-test.true), next_line node_line c.loop-node.node c.args.text.now.items c.loop-node.text.items c.push_node_line.new.text.items c.loop-node.invariant.1 c.in_ok-push_node_line.ensures)
