use Rattle.std.proofs.Common.{◌≡◌, drop}
use Rattle.ct_lead.specs.Held.{held_with_all}
use Rattle.ct_lead.proofs.holder.held_with_all.Given as goal

abbrev pub invariant-loop-a : goal.invariant-loop-a
invariant-loop-a l = held_with_all (drop l.a-index l.more) l.all.items ≡ held_with_all l.more l.held
