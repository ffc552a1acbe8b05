use Rattle.std.proofs.Common.{◌≡◌, ◌∙◌, ◌++◌, ◌∷◌, [], List, sym, ap, ℕ, arith}
use Rattle.std.specs.Prelude.{filter}
use Rattle.ct_rules_cluster.specs.Cluster.{everyone, is_up, numbers}
use Rattle.ct_named.proofs.Numbers.{none_yet, one_more_rests, one_more_runs}
use Rattle.ct_named.proofs.named.running_nodes.Goals as goal
use Rattle.ct_named.proofs.named.running_nodes.Goals.{then-is_up+in_ok-push, else-is_up}

pub loop-node-init : goal.loop-node-init
loop-node-init c = c.empty-nodes.ensures ∙ none_yet (λ n. is_up n c.args.world.now.cluster)

pub loop-node-preserved : goal.loop-node-preserved
loop-node-preserved c =
    let p = λ (n : ℕ). is_up n c.args.world.now.cluster in
    elim c.if-is_up.branch [
      | then-is_up+in_ok-push w ↦
          w.nodes-is ∙ w.in_ok-push.ensures.ok ∙ ap (λ (xs : List ℕ). xs ++ c.loop-node.node ∷ []) c.loop-node.invariant ∙ sym (one_more_runs p c.loop-node.node w.if-is_up.ensures)
      | else-is_up w ↦ w.nodes-is ∙ c.loop-node.invariant ∙ sym (one_more_rests p c.loop-node.node w.if-is_up.ensures)
    ]

pub returns : goal.returns
unfolding everyone
returns c =
    let end : c.loop-node.node ≡ c.config.result.now.nodes = omega (arith, c.loop-node.auto.node-end, c.loop-node-test.false) in
    let p = λ (n : ℕ). is_up n c.args.world.now.cluster in
    c.loop-node.invariant ∙ ap (λ (n : ℕ). filter p (numbers 0 n)) end ∙ ap (λ (n : ℕ). filter p (numbers 0 n)) (ap (λ k. k.nodes) c.config.ensures)
