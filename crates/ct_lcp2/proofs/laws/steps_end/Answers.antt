use Rattle.ct_lcp2.specs.Placing.{vacated}
use Rattle.ct_lcp2.proofs.Steps.{all_placed, all_failed_back}
use Rattle.ct_lcp2.proofs.laws.steps_end.Goals as goal

pub returns : goal.returns
returns c = record { placed = λ able given. all_placed able (vacated able given); failed_back = all_failed_back }
