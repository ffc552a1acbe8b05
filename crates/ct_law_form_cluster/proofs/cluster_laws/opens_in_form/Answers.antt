use Rattle.ct_law_form_cluster.proofs.WholeCluster.{opens_in_form}
use Rattle.ct_law_form_cluster.proofs.cluster_laws.opens_in_form.Goals as goal

pub returns : goal.returns
returns c = opens_in_form
