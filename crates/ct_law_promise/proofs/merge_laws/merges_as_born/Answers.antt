use Rattle.ct_law_run.proofs.Stepping.{owed_turned, step_lives}
use Rattle.ct_law_run.proofs.Owed.{all_owed}
use Rattle.ct_law_promise.proofs.Reached.{merges_as_born}
use Rattle.ct_law_promise.proofs.merge_laws.merges_as_born.Goals as goal

pub returns : goal.returns
returns c = merges_as_born (step_lives (owed_turned all_owed))
