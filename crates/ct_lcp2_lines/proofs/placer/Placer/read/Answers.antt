use Rattle.std.proofs.Common.{◌++◌, Ok, Err, take, sym, subst, arith}
use Rattle.std.proofs.KnownBytes.{Consumes-kept, Consumes-trans}
use Rattle.ct_lcp2_lines.specs.Feeding.{Stopped}
use Rattle.ct_lcp2_lines.proofs.Ending.{fault_stops, line_stops_at}
use Rattle.ct_lcp2_lines.proofs.Feeding.{feeds_then}
use Rattle.ct_lcp2_lines.proofs.placer.Placer.read.Goals as goal

pub returns-in-Err-clause-reads : goal.returns-in-Err-clause-reads
returns-in-Err-clause-reads g c =
    let left = g.S.Source.left in
    let old = c.reading.invariant.fed in
    record {
      bytes = old.0;
      taken = Consumes-kept (left c.args.input.now) (left c.reading.input) (left c.read.new.self) old.0 old.1 c.in-Err.ensures.bytes;
      stops = fault_stops c.args.self.now c.reading.self old.0 old.2 c.reading.invariant.fits.line;
    }

pub returns-in-Err-feed-clause-reads : goal.returns-in-Err-feed-clause-reads
returns-in-Err-feed-clause-reads g c =
    let left = g.S.Source.left in
    let old = c.reading.invariant.fed in
    let new = take c.in-Ok.n c.read.new.into in
    let p = c.args.self.now in
    let fault = c.in-Err-feed.fault in
    subst (λ e. Stopped e p (left c.args.input.now) (left c.read.new.self)) (sym c.end_of.ensures)
    (record {
      bytes = old.0 ++ new;
      taken = Consumes-trans (left c.args.input.now) (left c.reading.input) (left c.read.new.self) old.0 new old.1 c.in-Ok.ensures.bytes.0;
      stops = line_stops_at fault p c.feed.new.self (old.0 ++ new) (feeds_then (Err fault) p old.0 c.reading.self new c.feed.new.self old.2 c.in-Err-feed.ensures.feeds);
    })

pub reading-preserved : goal.reading-preserved
reading-preserved g c =
    let left = g.S.Source.left in
    let old = c.reading.invariant.fed in
    let new = take c.in-Ok.n c.read.new.into in
    record {
      fed = (
        old.0 ++ new,
        Consumes-trans (left c.args.input.now) (left c.reading.input) (left c.read.new.self) old.0 new old.1 c.in-Ok.ensures.bytes.0,
        feeds_then (Ok tt) c.args.self.now old.0 c.reading.self new c.feed.new.self old.2 c.in_default.ensures.feeds,
      );
      fits = c.in_default.ensures.fits;
      later = omega (arith, c.in-Ok.ensures.cause.later);
    }
