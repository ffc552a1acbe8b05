use Rattle.ct_law_merge.proofs.Rules.{merge_is}
use Rattle.ct_law_merge.proofs.laws.gathered_pulls_are_merged.Goals as goal

pub returns : goal.returns
returns c = merge_is
