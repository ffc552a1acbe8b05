use Rattle.ct_law_form_steps.proofs.WholeSteps.{steps_keep_form}
use Rattle.ct_law_form_steps.proofs.step_laws.steps_keep_form.Goals as goal

pub returns : goal.returns
returns c = steps_keep_form
