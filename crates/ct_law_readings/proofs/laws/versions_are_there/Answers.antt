use Rattle.ct_law_readings.proofs.Small.{versions_are_there}
use Rattle.ct_law_readings.proofs.laws.versions_are_there.Goals as goal

pub returns : goal.returns
returns c = versions_are_there
