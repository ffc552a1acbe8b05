use Rattle.std.specs.Prelude.{not}
use Rattle.ct_lcp2_lines.specs.Placing.{is_disabled}
use Rattle.ct_lcp2_lines.proofs.Nodes.{one_node}
use Rattle.ct_lcp2_lines.proofs.text.able_of.Goals as goal

pub loop-node-preserved : goal.loop-node-preserved
loop-node-preserved c =
    one_node (λ n. not (is_disabled c.args.disabled.now n)) c.loop-node.node c.args.nodes c.loop-node.able.items c.push_able.new.able.items _
    c.loop-node-test.true c.loop-node.invariant c.in_ok-push_able.ensures
