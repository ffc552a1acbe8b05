use Rattle.ct_law_merge.proofs.Counting.{rows_counted}
use Rattle.ct_law_merge.proofs.laws.one_row_a_key.Goals as goal

pub returns : goal.returns
returns c = rows_counted
