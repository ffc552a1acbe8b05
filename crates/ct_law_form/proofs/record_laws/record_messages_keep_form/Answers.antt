use Rattle.ct_law_form.proofs.WholeRecords.{record_messages_keep_form}
use Rattle.ct_law_form.proofs.record_laws.record_messages_keep_form.Goals as goal

pub returns : goal.returns
returns c = record_messages_keep_form
