use Rattle.ct_law_form_steps.proofs.WholeRounds.{begins_keep_form}
use Rattle.ct_law_form_steps.proofs.round_laws.begins_keep_form.Goals as goal

pub returns : goal.returns
returns c = begins_keep_form
