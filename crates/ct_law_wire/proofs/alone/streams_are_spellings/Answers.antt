use Rattle.ct_law_wire.proofs.Stream.{streams_are_spellings}
use Rattle.ct_law_wire.proofs.alone.streams_are_spellings.Goals as goal

pub returns : goal.returns
returns c = streams_are_spellings
