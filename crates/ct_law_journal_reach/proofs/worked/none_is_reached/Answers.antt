use Rattle.ct_law_journal_reach.proofs.Computed.{none_is_reached}
use Rattle.ct_law_journal_reach.proofs.worked.none_is_reached.Goals as goal

pub returns : goal.returns
returns c = none_is_reached
