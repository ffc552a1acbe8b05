use Rattle.ct_law_form_cluster.proofs.Placed.{stays_placed}
use Rattle.ct_law_form_cluster.proofs.placed_laws.stays_placed.Goals as goal

pub returns : goal.returns
returns c = stays_placed
