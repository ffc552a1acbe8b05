use Rattle.ct_law_journal_numbers.proofs.Runs.{runs_renumbered, journals_renumbered}
use Rattle.ct_law_journal_numbers.proofs.laws.runs_renumbered.Goals as goal

pub returns : goal.returns
returns c = record { run = λ k rules me among number old xs new rises small h calls is. runs_renumbered k rules me among number rises small old xs new h calls is; journal = journals_renumbered }
