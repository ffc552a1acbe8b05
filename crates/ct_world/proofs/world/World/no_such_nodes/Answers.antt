use Rattle.std.proofs.Common.{◌≡◌, ◌∙◌, ℕ, suc, ◌+◌, drop, ap, sym, arith}
use Rattle.ct_rules_cluster.specs.Faults.{no_such_nodes}
use Rattle.ct_world.proofs.Missing.{missing_here, there_here}
use Rattle.ct_world.proofs.world.World.no_such_nodes.Goals as goal

pub returns-then-not-is_node : goal.returns-then-not-is_node
returns-then-not-is_node c =
    sym (missing_here c.args.self.now.config c.args.nodes.now c.loop-node.node-index c.loop-node-test.true (sym c.if-not-is_node.ensures)) ∙ c.loop-node.invariant

pub loop-node-preserved : goal.loop-node-preserved
loop-node-preserved c =
    let one : c.loop-node.node-index + 1 ≡ suc c.loop-node.node-index = omega arith in
    ap (λ (k : ℕ). no_such_nodes c.args.self.now.config (drop k c.args.nodes.now)) one
    ∙ there_here c.args.self.now.config c.args.nodes.now c.loop-node.node-index c.loop-node-test.true (sym c.if-not-is_node.ensures) ∙ c.loop-node.invariant
