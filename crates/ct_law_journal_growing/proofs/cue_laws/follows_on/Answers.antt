use Rattle.ct_law_journal_growing.proofs.Following.{follows_calls, follows_first, follows_on}
use Rattle.ct_law_journal_growing.proofs.cue_laws.follows_on.Goals as goal

pub returns : goal.returns
returns c = record { first = follows_first; on = follows_on; calls = follows_calls }
