use Rattle.ct_troupe.proofs.Ending.{none_left}
use Rattle.ct_troupe.proofs.turns.TurnsTroupe.play.Goals as goal

pub invariant_of-self-in-Err : goal.invariant_of-self-in-Err
invariant_of-self-in-Err g c = record { arrived = none_left c.empty.result c.empty.ensures }
