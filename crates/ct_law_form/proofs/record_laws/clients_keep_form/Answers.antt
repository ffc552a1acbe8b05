use Rattle.ct_law_form.proofs.WholeRecords.{clients_keep_form}
use Rattle.ct_law_form.proofs.record_laws.clients_keep_form.Goals as goal

pub returns : goal.returns
returns c = clients_keep_form
