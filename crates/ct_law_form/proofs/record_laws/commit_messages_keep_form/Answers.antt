use Rattle.ct_law_form.proofs.WholeRecords.{commit_messages_keep_form}
use Rattle.ct_law_form.proofs.record_laws.commit_messages_keep_form.Goals as goal

pub returns : goal.returns
returns c = commit_messages_keep_form
