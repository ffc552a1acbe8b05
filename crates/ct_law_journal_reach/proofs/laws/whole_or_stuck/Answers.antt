use Rattle.ct_law_journal_reach.proofs.Whole.{all_is_scheduled, less_is_stuck}
use Rattle.ct_law_journal_reach.proofs.laws.whole_or_stuck.Goals as goal

pub returns : goal.returns
returns c = record { whole = all_is_scheduled; stuck = less_is_stuck }
