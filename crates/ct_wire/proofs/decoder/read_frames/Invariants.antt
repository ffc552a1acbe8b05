use Rattle.ct_wire.specs.Decoding.{End, eaten, Finds}
use Rattle.ct_wire.proofs.Frames.{to_read, GoesOn}
use Rattle.ct_wire.proofs.decoder.read_frames.Given as goal

abbrev pub invariant-frames : goal.invariant-frames
invariant-frames l = (e : End) × Finds l.event e × GoesOn (eaten l.fn.spot.cursor l.fn.spot.raw l.fn.piece) l.frames.items e

abbrev pub decreases-frames : goal.decreases-frames
decreases-frames l = to_read l.event
