use Rattle.ct_law_journal_numbers.proofs.Held.{holds_no_other, opens_without_calls}
use Rattle.ct_law_journal_numbers.proofs.laws.holds_no_other.Goals as goal

pub returns : goal.returns
returns c = record { opening = opens_without_calls; step = λ k rules me among e x t h own is. holds_no_other among k rules me e x t h own is }
