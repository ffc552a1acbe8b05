use Rattle.ct_law_readings.proofs.Moments.{moments_come_on}
use Rattle.ct_law_readings.proofs.fresh.moments_of_a_run_come_on.Goals as goal

pub returns : goal.returns
returns c = moments_come_on
