use Rattle.ct_chain.proofs.Cutting.{rounds_stand_in_each}
use Rattle.ct_chain.proofs.laws.rounds_stand_in_each.Goals as goal

pub returns : goal.returns
returns c = rounds_stand_in_each
