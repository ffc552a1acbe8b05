use Rattle.ct_main.proofs.Complete.{completes}
use Rattle.ct_main.proofs.laws.a_good_input_is_played.Goals as goal

pub returns : goal.returns
returns c = completes
