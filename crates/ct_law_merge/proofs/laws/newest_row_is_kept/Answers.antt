use Rattle.ct_law_merge.proofs.Counting.{kept_row}
use Rattle.ct_law_merge.proofs.laws.newest_row_is_kept.Goals as goal

pub returns : goal.returns
returns c = kept_row
