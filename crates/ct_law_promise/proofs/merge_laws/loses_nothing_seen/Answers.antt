use Rattle.ct_law_run.proofs.Stepping.{owed_turned, step_lives}
use Rattle.ct_law_run.proofs.Owed.{all_owed}
use Rattle.ct_law_promise.proofs.Reached.{nothing_seen_is_lost}
use Rattle.ct_law_promise.proofs.merge_laws.loses_nothing_seen.Goals as goal

pub returns : goal.returns
returns c = nothing_seen_is_lost (step_lives (owed_turned all_owed))
