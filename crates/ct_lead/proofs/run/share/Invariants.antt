use Rattle.std.proofs.Common.{◌≡◌, ◌++◌, drop}
use Rattle.ct_rules_node.specs.Takeovers.{share}
use Rattle.ct_lead.proofs.run.share.Given as goal

-- the share of those that were looked at, and that of the rest
abbrev pub invariant-loop-x : goal.invariant-loop-x
invariant-loop-x l = l.addresses.items ++ share l.node (drop l.x-index l.placement) ≡ share l.node l.placement
