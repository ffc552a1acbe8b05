use Rattle.ct_law_journal_reach.proofs.Held.{held_is_greatest}
use Rattle.ct_law_journal_reach.proofs.laws.held_is_greatest.Goals as goal

pub returns : goal.returns
returns c = held_is_greatest
