use Rattle.ct_law_form_cluster.proofs.WholeCluster.{stays_in_form}
use Rattle.ct_law_form_cluster.proofs.cluster_laws.stays_in_form.Goals as goal

pub returns : goal.returns
returns c = stays_in_form
