use Rattle.ct_law_form.proofs.WholeRecords.{vacuums_keep_form}
use Rattle.ct_law_form.proofs.record_laws.vacuums_keep_form.Goals as goal

pub returns : goal.returns
returns c = vacuums_keep_form
