use Rattle.ct_law_form_cluster.proofs.Coming.{events_may_come}
use Rattle.ct_law_form_cluster.proofs.cluster_laws.events_may_come.Goals as goal

pub returns : goal.returns
returns c = events_may_come
