use Rattle.ct_law_journal_numbers.proofs.Runs.{steps_renumbered, comes_renumbered}
use Rattle.ct_law_journal_numbers.proofs.laws.steps_renumbered.Goals as goal

pub returns : goal.returns
returns c = record { steps = steps_renumbered; comes = comes_renumbered }
