use Rattle.ct_law_form.proofs.Whole.{opens_in_form}
use Rattle.ct_law_form.proofs.form_laws.opens_in_form.Goals as goal

pub returns : goal.returns
returns c = opens_in_form
