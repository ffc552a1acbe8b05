use Rattle.ct_law_form_cluster.proofs.Placed.{restarts_placed}
use Rattle.ct_law_form_cluster.proofs.placed_laws.restarts_placed.Goals as goal

pub returns : goal.returns
returns c = restarts_placed
