use Rattle.std.proofs.Common.{◌≡◌, take}
use Rattle.ct_values.proofs.items.Items.copy.Given as goal

abbrev pub invariant-loop-x : goal.invariant-loop-x
invariant-loop-x g l = l.list.items ≡ take l.x-index l.x-items
