use Rattle.ct_law_wire.proofs.Headers.{reads_what_is_spelled}
use Rattle.ct_law_wire.proofs.spelling.reads_what_is_spelled.Goals as goal

pub returns : goal.returns
returns c = reads_what_is_spelled
