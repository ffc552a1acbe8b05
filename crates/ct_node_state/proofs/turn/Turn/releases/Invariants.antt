use Rattle.std.proofs.Common.{◌≡◌, drop}
use Rattle.ct_rules_node.specs.Rounds.{releases}
use Rattle.ct_node_state.proofs.turn.Turn.releases.Given as goal

-- what is noted so far and of the rest is what is noted of all
abbrev pub invariant-loop-address : goal.invariant-loop-address
invariant-loop-address l = releases (drop l.address-index l.addresses) l.self ≡ releases l.addresses l.initial.self
