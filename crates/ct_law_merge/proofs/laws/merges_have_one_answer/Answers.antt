use Rattle.ct_law_merge.proofs.OneAnswer.{one_merge}
use Rattle.ct_law_merge.proofs.laws.merges_have_one_answer.Goals as goal

pub returns : goal.returns
returns c = one_merge
