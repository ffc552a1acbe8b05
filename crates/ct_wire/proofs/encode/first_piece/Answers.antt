use Rattle.ct_wire.specs.Writing.{piece_size}
use Rattle.ct_wire.proofs.Lists.{all_taken, piece_size_is}
use Rattle.ct_wire.proofs.encode.first_piece.Goals as goal

pub returns-then-rest-le-PIECE : goal.returns-then-rest-le-PIECE
returns-then-rest-le-PIECE c = all_taken piece_size c.args.rest.now (rw piece_size_is c.if-rest-le-PIECE.true)

pub returns : goal.returns
returns c = rw piece_size_is c.split_at.ensures.front
