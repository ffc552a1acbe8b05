use Rattle.std.proofs.Common.{◌∙◌, sym}
use Rattle.ct_wire.specs.declared.decode.WireFault.TheVariants as fault
use Rattle.ct_wire_link.proofs.Feeding.{broken_read, refused_read, whole_read}
use Rattle.ct_wire_link.proofs.readers.read_on.Goals as goal

pub returns-in-None-clause-reads : goal.returns-in-None-clause-reads
returns-in-None-clause-reads c = whole_read c.in-Ok.frames c.args.decoder.now c.args.bytes.now c.feed.new.self c.in-Ok.ensures (cc (c.fault.ensures))

pub returns-in-Some-Malformed-clause-reads : goal.returns-in-Some-Malformed-clause-reads
returns-in-Some-Malformed-clause-reads c = broken_read c.in-Ok.frames c.in-Some-Malformed.offset c.args.decoder.now c.args.bytes.now c.feed.new.self c.in-Ok.ensures (cc (c.fault.ensures))

pub returns-in-Some-Short-clause-reads : goal.returns-in-Some-Short-clause-reads
returns-in-Some-Short-clause-reads c = refused_read c.in-Ok.frames fault.Short c.args.decoder.now c.args.bytes.now c.feed.new.self (λ offset e. absurd (cc)) c.in-Ok.ensures (cc (c.fault.ensures))

pub returns-in-Some-NoMemory-clause-reads : goal.returns-in-Some-NoMemory-clause-reads
returns-in-Some-NoMemory-clause-reads c = refused_read c.in-Ok.frames fault.NoMemory c.args.decoder.now c.args.bytes.now c.feed.new.self (λ offset e. absurd (cc)) c.in-Ok.ensures (cc (c.fault.ensures))
