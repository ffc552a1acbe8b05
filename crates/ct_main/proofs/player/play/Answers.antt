use Rattle.std.proofs.Common.{◌≡◌, ◌++◌, ◌+◌, [], List, ℕ, Ok, length, refl, sym, ap, ◌∙◌, subst, arith, length-append, length-take}
use Rattle.std.proofs.KnownBytes.{Consumes-nil, Consumes-trans}
use Rattle.ct_main.specs.Feeding.{Fed}
use Rattle.ct_call.specs.Shown.{rules_of}
use Rattle.ct_main.specs.declared.player.Player.{Player}
use Rattle.ct_play.specs.declared.session.Session.{Session}
use Rattle.ct_main.proofs.Ending.{ends_after, first, limit_ends}
use Rattle.ct_main.proofs.Feeding.{feeds_then, unfed}
use Rattle.ct_play.proofs.Runs.{runs_are_moves}
use Rattle.ct_main.proofs.Promised.{promised}
use Rattle.ct_main.proofs.player.play.Goals as goal

pub loop-taken-init : goal.loop-taken-init
loop-taken-init g c =
    let a = g.K.Sink.held c.args.out.now in
    let made : Session → List ℕ → Player = λ s l. record { session = s; line = l; count = 0 } in
    let same : made c.new.result c.empty.result ≡ first = ap (λ s. made s c.empty.result) c.new.ensures ∙ ap (made first.session) c.empty.ensures in
    record {
      within = omega arith;
      played = ([], refl, Consumes-nil (g.S.Source.left c.args.input.now), subst (λ q. Fed (rules_of c.args.table.now) first q [] a a) (sym same) (unfed (rules_of c.args.table.now) first a));
      count = omega arith;
      line = omega (arith, ap length c.empty.ensures);
      read_later = omega arith;
      write_later = omega arith;
    }

pub loop-taken-preserved : goal.loop-taken-preserved
loop-taken-preserved g c =
    let left = g.S.Source.left in
    let held = g.K.Sink.held in
    let old = c.loop-taken.invariant.played in
    let new = c.in-Ok.ensures.turns in
    record {
      within = omega (arith, c.min-room.ensures, new.fits, length-take c.min-room.result c.loop-taken.buffer);
      played = (
        old.0 ++ new.bytes,
        length-append old.0 new.bytes ∙ ap (λ n. n + length new.bytes) old.1 ∙ ap (λ n. c.loop-taken.taken + n) new.length_is,
        Consumes-trans (left c.args.input.now) (left c.loop-taken.input) (left c.turn.new.input) old.0 new.bytes old.2 new.taken,
        feeds_then (rules_of c.args.table.now) (Ok tt) first old.0 c.loop-taken.player new.bytes c.turn.new.self (held c.args.out.now) (held c.loop-taken.out) (held c.turn.new.out) old.3 new.fed,
      );
      count = omega (arith, c.in-Ok.ensures.count, c.loop-taken.invariant.count);
      line = c.in-Ok.ensures.line;
      read_later = omega (arith, c.in-Ok.ensures.cause.0);
      write_later = omega (arith, c.in-Ok.ensures.cause.1);
    }

pub returns-in-Err-clause-plays : goal.returns-in-Err-clause-plays
returns-in-Err-clause-plays g c =
    let left = g.S.Source.left in
    let held = g.K.Sink.held in
    let old = c.loop-taken.invariant.played in
    let new = c.in-Err.ensures.turns in
    record {
      bytes = old.0 ++ new.bytes;
      taken = Consumes-trans (left c.args.input.now) (left c.loop-taken.input) (left c.turn.new.input) old.0 new.bytes old.2 new.taken;
      ends = ends_after (rules_of c.args.table.now) c.in-Err.end c.loop-taken.player old.0 new.bytes (left c.turn.new.input) (held c.args.out.now) (held c.loop-taken.out) (held c.turn.new.out) old.3 new.ends new.took (omega (arith, old.1));
      most = omega (arith, length-append old.0 new.bytes, old.1, new.fits, c.min-room.ensures, length-take c.min-room.result c.loop-taken.buffer);
      promised = promised (rules_of c.args.table.now) (old.0 ++ new.bytes);
      moved = runs_are_moves (rules_of c.args.table.now) (old.0 ++ new.bytes);
    }

pub returns-clause-plays : goal.returns-clause-plays
returns-clause-plays g c =
    let old = c.loop-taken.invariant.played in
    record {
      bytes = old.0;
      taken = old.2;
      ends = limit_ends (rules_of c.args.table.now) c.loop-taken.player old.0 (g.S.Source.left c.loop-taken.input) (g.K.Sink.held c.args.out.now) (g.K.Sink.held c.loop-taken.out) old.3 c.loop-taken.invariant.line (omega (arith, old.1));
      most = omega (arith, old.1);
      promised = promised (rules_of c.args.table.now) old.0;
      moved = runs_are_moves (rules_of c.args.table.now) old.0;
    }
