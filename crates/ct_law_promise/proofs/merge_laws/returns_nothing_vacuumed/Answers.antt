use Rattle.ct_law_run.proofs.Stepping.{owed_turned, step_lives}
use Rattle.ct_law_run.proofs.Owed.{all_owed}
use Rattle.ct_law_promise.proofs.Reached.{nothing_vacuumed_returns}
use Rattle.ct_law_promise.proofs.merge_laws.returns_nothing_vacuumed.Goals as goal

pub returns : goal.returns
returns c = nothing_vacuumed_returns (step_lives (owed_turned all_owed))
