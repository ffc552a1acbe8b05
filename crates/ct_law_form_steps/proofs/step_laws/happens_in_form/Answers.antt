use Rattle.ct_law_form_steps.proofs.WholeSteps.{happens_in_form}
use Rattle.ct_law_form_steps.proofs.step_laws.happens_in_form.Goals as goal

pub returns : goal.returns
returns c = happens_in_form
