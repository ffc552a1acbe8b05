use Rattle.ct_troupe.proofs.Ending.{none_left}
use Rattle.ct_troupe.proofs.turns.Turns.new.Goals as goal

pub invariant_of-result : goal.invariant_of-result
invariant_of-result c = record { arrived = none_left c.empty.result c.empty.ensures }
