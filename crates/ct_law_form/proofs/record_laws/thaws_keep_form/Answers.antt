use Rattle.ct_law_form.proofs.WholeRecords.{thaws_keep_form}
use Rattle.ct_law_form.proofs.record_laws.thaws_keep_form.Goals as goal

pub returns : goal.returns
returns c = thaws_keep_form
