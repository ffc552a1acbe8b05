use Rattle.ct_journal.proofs.Ends.{any_way_ends}
use Rattle.ct_journal.proofs.laws.any_way_ends.Goals as goal

pub returns : goal.returns
returns c = any_way_ends
