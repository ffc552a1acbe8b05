use Rattle.ct_law_traverse.proofs.Running.{law_of_traverses}
use Rattle.ct_law_traverse.proofs.laws.traverses_tell_readings.Goals as goal

pub returns : goal.returns
returns c = law_of_traverses
