use Rattle.ct_law_wire.proofs.InPieces.{end_of_two, frames_of_two}
use Rattle.ct_law_wire.proofs.pieces.pieces_are_the_whole.Goals as goal

pub returns-clause-end : goal.returns-clause-end
returns-clause-end c = end_of_two

pub returns-clause-frames : goal.returns-clause-frames
returns-clause-frames c = frames_of_two
