use Rattle.ct_main.proofs.Statuses.{placement_told}
use Rattle.ct_main.proofs.laws.a_placement_tells_its_end.Goals as goal

pub returns : goal.returns
returns c = placement_told
