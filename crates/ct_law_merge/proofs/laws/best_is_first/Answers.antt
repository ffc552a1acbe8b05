use Rattle.ct_merge.proofs.Among.{best_is}
use Rattle.ct_law_merge.proofs.laws.best_is_first.Goals as goal

pub returns : goal.returns
returns g c = best_is
