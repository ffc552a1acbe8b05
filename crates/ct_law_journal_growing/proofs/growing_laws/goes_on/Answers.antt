use Rattle.ct_law_journal_growing.proofs.Growth.{begins, goes_on}
use Rattle.ct_law_journal_growing.proofs.growing_laws.goes_on.Goals as goal

pub returns : goal.returns
returns c = record { begins = begins; goes_on = goes_on }
