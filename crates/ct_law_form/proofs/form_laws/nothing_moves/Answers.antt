use Rattle.ct_law_form.proofs.Still.{nothing_moves}
use Rattle.ct_law_form.proofs.form_laws.nothing_moves.Goals as goal

pub returns : goal.returns
returns c = nothing_moves
