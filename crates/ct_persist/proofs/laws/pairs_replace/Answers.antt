use Rattle.ct_persist.proofs.Rounds.{back_again}
use Rattle.ct_persist.proofs.laws.pairs_replace.Goals as goal

pub returns : goal.returns
returns c = back_again
