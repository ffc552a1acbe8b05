use Rattle.std.proofs.Common.{arith}
use Rattle.ct_call.specs.Shown.{rules_of}
use Rattle.ct_ladder_play.proofs.Climbing.{climb_over}
use Rattle.ct_ladder_play.proofs.playing.climb_all.Goals as goal

pub returns : goal.returns
returns g c =
    climb_over (λ l. l.now) c.args.lines.now c.loop-line.line-index (rules_of c.args.table.now) c.args.shown c.args.session.now c.loop-line.session c.loop-line.number c.args.rungs.now.items c.loop-line.rungs.items
    (omega (arith, c.loop-line-test.false)) c.loop-line.invariant.left
