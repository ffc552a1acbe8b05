use Rattle.ct_law_journal_reach.proofs.OneMore.{none_is_made, one_more}
use Rattle.ct_law_journal_reach.proofs.laws.one_more.Goals as goal

pub returns : goal.returns
returns c = record { none = none_is_made; more = one_more }
