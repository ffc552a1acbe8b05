use Rattle.std.proofs.Common.{◌≡◌, ◌++◌, drop}
use Rattle.ct_lead.specs.Held.{left_out}
use Rattle.ct_lead.proofs.holder.left_out.Given as goal

abbrev pub invariant-loop-a : goal.invariant-loop-a
invariant-loop-a l = l.addresses.items ++ left_out l.keep (drop l.a-index l.held) ≡ left_out l.keep l.held
