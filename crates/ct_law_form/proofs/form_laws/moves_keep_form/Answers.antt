use Rattle.ct_law_form.proofs.Formed.{moves_keep_form}
use Rattle.ct_law_form.proofs.form_laws.moves_keep_form.Goals as goal

pub returns : goal.returns
returns c = moves_keep_form
