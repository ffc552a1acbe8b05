use Rattle.std.proofs.Common.{◌∙◌, ℕ, List, ap}
use Rattle.ct_rules_node.specs.Node.{opening}
use Rattle.ct_core.proofs.Everyone.{opens, someone}
use Rattle.ct_core.proofs.machine.Core.new.Goals as goal

pub opening-requires-clause-some : goal.opening-requires-clause-some
opening-requires-clause-some c = someone c.args.pnn c.args.config.now c.deref.result.now c.requires.node (c.deref.ensures.value ∙ c.in_ok-members.ensures)

pub invariant_of-result : goal.invariant_of-result
invariant_of-result c =
    opens c.args.config.now c.in_ok-config.config c.args.pnn c.in_ok-node.node c.requires.node c.requires.limits c.in_ok-config.ensures
    (c.in_ok-node.ensures ∙ ap (λ (ns : List ℕ). opening c.args.config.now ns) (c.deref.ensures.value ∙ c.in_ok-members.ensures))
