use Rattle.ct_law_wire.proofs.Headers.{spells_apart}
use Rattle.ct_law_wire.proofs.spelling.spells_apart.Goals as goal

pub returns : goal.returns
returns c = spells_apart
