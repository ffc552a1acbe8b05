use Rattle.std.proofs.Common.{[]}
use Rattle.ct_wire.specs.Cursor.{start}
use Rattle.ct_wire.specs.Decoding.{eaten}
use Rattle.ct_wire.proofs.Frames.{lone_completes}
use Rattle.ct_wire.proofs.decoder.lone_frames.Goals as goal

pub returns : goal.returns
returns c = lone_completes (eaten start [] c.args.piece.now) c.in_ok-frame.field-0 c.in-Some.frame c.in_ok-one.field-0.items c.in_ok-frame.ensures c.in-Some.is c.in_ok-one.ensures
