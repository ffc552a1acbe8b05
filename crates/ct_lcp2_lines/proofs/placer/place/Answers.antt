use Rattle.std.proofs.Common.{sym, subst}
use Rattle.ct_lcp2_lines.specs.Feeding.{ReadAll}
use Rattle.ct_lcp2_lines.specs.Room.{Fits}
use Rattle.ct_lcp2_lines.proofs.Ending.{finish_ends}
use Rattle.ct_lcp2_lines.proofs.Room.{first_fits}
use Rattle.ct_lcp2_lines.proofs.placer.place.Goals as goal

pub read-requires : goal.read-requires
read-requires g c = subst Fits (sym c.new-placer.ensures) first_fits

pub returns-clause-places : goal.returns-clause-places
returns-clause-places g c =
    let left = g.S.Source.left in
    let held = g.K.Sink.held in
    let r = subst (λ p. ReadAll p c.read.new.self (left c.args.input.now) (left c.read.new.input)) c.new-placer.ensures c.in_default.ensures.reads in
    record {
      bytes = r.bytes;
      taken = r.taken;
      ends = finish_ends c.finish.result c.read.new.self r.bytes (left c.read.new.input) (held c.args.out.now) (held c.finish.new.out) r.at_end r.fed c.in_default.ensures.fits.line c.finish.ensures.ends;
    }
