use Rattle.ct_law_wire.proofs.Whole.{reads_spellings_alone}
use Rattle.ct_law_wire.proofs.alone.reads_spellings_alone.Goals as goal

pub returns : goal.returns
returns c = reads_spellings_alone
