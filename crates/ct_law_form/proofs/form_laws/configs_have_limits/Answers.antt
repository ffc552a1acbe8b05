use Rattle.ct_law_form.proofs.Whole.{configs_have_limits}
use Rattle.ct_law_form.proofs.form_laws.configs_have_limits.Goals as goal

pub returns : goal.returns
returns c = configs_have_limits
