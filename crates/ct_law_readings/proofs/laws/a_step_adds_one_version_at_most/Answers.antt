use Rattle.ct_law_readings.proofs.Running.{law_of_readings}
use Rattle.ct_law_readings.proofs.laws.a_step_adds_one_version_at_most.Goals as goal

pub returns : goal.returns
returns c = law_of_readings
