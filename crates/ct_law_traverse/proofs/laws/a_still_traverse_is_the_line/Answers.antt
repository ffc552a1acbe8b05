use Rattle.ct_law_traverse.proofs.Still.{still_is_the_line}
use Rattle.ct_law_traverse.proofs.laws.a_still_traverse_is_the_line.Goals as goal

pub returns : goal.returns
returns c = still_is_the_line
