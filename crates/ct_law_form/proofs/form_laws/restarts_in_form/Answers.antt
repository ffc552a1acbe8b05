use Rattle.ct_law_form.proofs.Whole.{restarts_in_form}
use Rattle.ct_law_form.proofs.form_laws.restarts_in_form.Goals as goal

pub returns : goal.returns
returns c = restarts_in_form
