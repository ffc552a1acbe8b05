use Rattle.ct_law_form.proofs.WholeRecords.{retries_keep_form}
use Rattle.ct_law_form.proofs.record_laws.retries_keep_form.Goals as goal

pub returns : goal.returns
returns c = retries_keep_form
