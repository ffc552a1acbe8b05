use Rattle.ct_law_form_cluster.proofs.Placed.{opens_placed}
use Rattle.ct_law_form_cluster.proofs.placed_laws.opens_placed.Goals as goal

pub returns : goal.returns
returns c = opens_placed
