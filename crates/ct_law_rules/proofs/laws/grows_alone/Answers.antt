use Rattle.ct_law_rules.proofs.Growing.{move_grows}
use Rattle.ct_law_rules.proofs.laws.grows_alone.Goals as goal

pub returns : goal.returns
returns c = move_grows
