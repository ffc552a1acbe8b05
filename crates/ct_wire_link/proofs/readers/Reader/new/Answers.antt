use Rattle.ct_wire_link.specs.Reading.{IsReached}
use Rattle.std.proofs.Common.{sym, subst}
use Rattle.ct_wire.specs.declared.decode.Progress.{Progress}
use Rattle.ct_wire_link.proofs.Sound.{unread_reached}
use Rattle.ct_wire_link.proofs.readers.Reader.new.Goals as goal

pub invariant_of-result : goal.invariant_of-result
invariant_of-result c = subst (λ (p : Progress). IsReached p) (sym c.new.ensures) unread_reached
