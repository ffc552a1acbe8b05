use Rattle.ct_law_traverse.proofs.Small.{answer_is_there}
use Rattle.ct_law_traverse.proofs.laws.an_answer_is_there.Goals as goal

pub returns : goal.returns
returns c = answer_is_there
