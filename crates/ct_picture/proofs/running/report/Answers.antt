use Rattle.std.proofs.Common.{[], Err, refl}
use Rattle.std.proofs.KnownBytes.{Appends-nil}
use Rattle.ct_picture.specs.Running.{message}
use Rattle.ct_outside.specs.declared.fault.SinkFault.TheVariants as sink
use Rattle.ct_picture.proofs.running.report.Goals as goal

pub returns-in-Err : goal.returns-in-Err
returns-in-Err g c = (Err sink.NoMemory, (refl, ([], message c.args.end, refl, Appends-nil (g.E.Sink.held c.args.err.now))))
