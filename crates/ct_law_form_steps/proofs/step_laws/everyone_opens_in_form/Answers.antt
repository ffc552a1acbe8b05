use Rattle.ct_law_form_steps.proofs.Opening.{everyone_opens_in_form}
use Rattle.ct_law_form_steps.proofs.step_laws.everyone_opens_in_form.Goals as goal

pub returns : goal.returns
returns c = everyone_opens_in_form
