use Rattle.ct_law_journal_numbers.proofs.Held.{node_agrees, opens_renumbered}
use Rattle.ct_law_journal_numbers.proofs.Runs.{sends_renumbered}
use Rattle.ct_law_journal_numbers.proofs.laws.holds_few_numbers.Goals as goal

pub returns : goal.returns
returns c = record { opening = opens_renumbered; agree = λ among number other x agree h. node_agrees among number other agree x h; sends = sends_renumbered }
