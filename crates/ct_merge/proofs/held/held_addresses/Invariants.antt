use Rattle.std.proofs.Common.{◌≡◌, take}
use Rattle.ct_merge.specs.Held.{held_addresses}
use Rattle.ct_merge.proofs.held.held_addresses.Given as goal

abbrev pub invariant-loop-address : goal.invariant-loop-address
invariant-loop-address l = l.held.items ≡ held_addresses l.node (take l.address-index l.addresses)
