use Rattle.ct_law_wire.proofs.Headers.{writes_spellings}
use Rattle.ct_law_wire.proofs.spelling.writes_spellings.Goals as goal

pub returns : goal.returns
returns c = writes_spellings
