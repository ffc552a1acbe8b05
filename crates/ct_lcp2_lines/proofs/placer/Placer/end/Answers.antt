use Rattle.std.proofs.Common.{refl}
use Rattle.ct_lcp2_lines.specs.declared.placer.Placer.{Placer}
use Rattle.ct_lcp2_lines.proofs.Feeding.{line_stops}
use Rattle.ct_lcp2_lines.proofs.Room.{line_read}
use Rattle.ct_lcp2_lines.proofs.placer.Placer.end.Goals as goal

pub returns-in-Err-clause-feeds : goal.returns-in-Err-clause-feeds
returns-in-Err-clause-feeds c =
    let p = c.args.self.now in
    let q : Placer = record { placing = c.line.new.self; line = p.line; count = p.count } in
    line_stops c.in-Err.fault p q c.as_slice.result.now c.as_slice.ensures c.in-Err.ensures refl

pub returns-clause-feeds : goal.returns-clause-feeds
returns-clause-feeds c = (line_read c.args.self.now c.as_slice.result.now c.truncate.new.self c.line.new.self c.as_slice.ensures c.in_default.ensures c.truncate.ensures c.requires).0

pub returns-clause-fits : goal.returns-clause-fits
returns-clause-fits c = (line_read c.args.self.now c.as_slice.result.now c.truncate.new.self c.line.new.self c.as_slice.ensures c.in_default.ensures c.truncate.ensures c.requires).1

pub returns-clause-fewer : goal.returns-clause-fewer
returns-clause-fewer c = (line_read c.args.self.now c.as_slice.result.now c.truncate.new.self c.line.new.self c.as_slice.ensures c.in_default.ensures c.truncate.ensures c.requires).2
