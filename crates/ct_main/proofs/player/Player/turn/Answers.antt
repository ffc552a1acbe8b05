use Rattle.std.proofs.Common.{[], take, length, sym, subst, refl, arith, length-take}
use Rattle.std.specs.Io.KnownBytes.{Consumes}
use Rattle.std.proofs.KnownBytes.{Consumes-kept, Consumes-nil}
use Rattle.ct_call.specs.Shown.{rules_of}
use Rattle.ct_main.specs.Feeding.{TurnEnded}
use Rattle.ct_main.proofs.Ending.{fault_ends, read_ends, stop_ends}
use Rattle.ct_main.proofs.player.Player.turn.Goals as goal

pub returns-in-Err-clause-turns : goal.returns-in-Err-clause-turns
returns-in-Err-clause-turns g c =
    let left = g.S.Source.left in
    let a = g.K.Sink.held c.args.out.now in
    record {
      bytes = [];
      fits = omega arith;
      took = refl;
      taken = Consumes-kept (left c.args.input.now) (left c.args.input.now) (left c.read.new.self) [] (Consumes-nil (left c.args.input.now)) c.in-Err.ensures.bytes;
      ends = fault_ends (rules_of c.args.table.now) c.args.self.now (left c.read.new.self) a c.requires.line;
    }

pub returns-then-n-eq0-clause-turns : goal.returns-then-n-eq0-clause-turns
returns-then-n-eq0-clause-turns g c =
    let left = g.S.Source.left in
    let held = g.K.Sink.held in
    let r = read_ends (rules_of c.args.table.now) c.finish.result c.args.self.now (left c.read.new.self) (held c.args.out.now) (held c.finish.new.out) c.requires.line (c.in-Ok.ensures.bytes.1 c.if-n-eq0.true (omega arith)) c.finish.ensures.ends in
    record {
      bytes = [];
      fits = omega arith;
      took = r.1;
      taken = subst (λ n. Consumes (left c.args.input.now) (left c.read.new.self) (take n c.read.new.into)) c.if-n-eq0.true c.in-Ok.ensures.bytes.0;
      ends = r.0;
    }

pub returns-in-Err-feed-clause-turns : goal.returns-in-Err-feed-clause-turns
returns-in-Err-feed-clause-turns g c =
    let left = g.S.Source.left in
    let a = g.K.Sink.held c.args.out.now in
    let z = g.K.Sink.held c.feed.new.out in
    let p = c.args.self.now in
    let q = c.feed.new.self in
    let b = take c.in-Ok.n c.read.new.into in
    let r = stop_ends (rules_of c.args.table.now) c.in-Err-feed.stop p q b (left c.read.new.self) a z c.in-Err-feed.ensures.feeds in
    subst (λ e. TurnEnded (rules_of c.args.table.now) e (length c.args.buffer.now) p (left c.args.input.now) (left c.read.new.self) a z) (sym c.end_of.ensures)
    (record { bytes = b; fits = omega (arith, length-take c.in-Ok.n c.read.new.into); took = r.1; taken = c.in-Ok.ensures.bytes.0; ends = r.0 })
