use Rattle.ct_wire.proofs.Frames.{found_so, shorter_so}
use Rattle.ct_wire.proofs.decode.read_fields.Goals as goal

pub returns-clause-exact : goal.returns-clause-exact
returns-clause-exact c = found_so c.event_of.result c.in-Ok.reached c.take_fields.new.cursor _ c.in-Ok.ensures.exact c.event_of.ensures.exact

pub returns-clause-shorter : goal.returns-clause-shorter
returns-clause-shorter c = shorter_so c.event_of.result c.in-Ok.reached c.args.bytes.now c.in-Ok.ensures.shorter c.event_of.ensures.shorter
