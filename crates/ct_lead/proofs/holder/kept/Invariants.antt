use Rattle.std.proofs.Common.{◌≡◌, ◌++◌, drop}
use Rattle.ct_lead.specs.Held.{kept}
use Rattle.ct_lead.proofs.holder.kept.Given as goal

abbrev pub invariant-loop-a : goal.invariant-loop-a
invariant-loop-a l = l.addresses.items ++ kept l.keep (drop l.a-index l.held) ≡ kept l.keep l.held
