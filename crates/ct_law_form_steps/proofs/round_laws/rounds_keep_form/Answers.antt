use Rattle.ct_law_form_steps.proofs.WholeRounds.{rounds_keep_form}
use Rattle.ct_law_form_steps.proofs.round_laws.rounds_keep_form.Goals as goal

pub returns : goal.returns
returns c = rounds_keep_form
