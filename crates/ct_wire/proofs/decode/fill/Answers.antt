use Rattle.std.proofs.Common.{◌∙◌, ◌-◌, ◌+◌, ◌<◌, length, subst, sym, arith}
use Rattle.std.proofs.lemmas.Bool.{ltb-true}
use Rattle.std.proofs.lemmas.List.{length-append}
use Rattle.ct_wire.specs.Cursor.{width}
use Rattle.ct_wire.specs.Decoding.{End, Reaches}
use Rattle.ct_wire.proofs.Eaten.{eaten_rest, field_filled}
use Rattle.ct_wire.proofs.Frames.{found_so, leaves_below, shorter_so}
use Rattle.ct_wire.proofs.decode.fill.Goals as goal

pub returns-then-is_short-clause-exact : goal.returns-then-is_short-clause-exact
returns-then-is_short-clause-exact c =
    let short : length c.args.raw.items + length c.args.bytes.now < width c.args.cursor = omega (arith, ltb-true _ _ (sym c.is_short.ensures ∙ c.if-is_short.true), c.len.ensures, c.width.ensures.exact, c.requires.part) in
    rw c.in_ok-spot_behind.ensures (eaten_rest c.args.cursor c.args.raw.items c.args.bytes.now short, (c.requires.sound, omega (arith, length-append c.args.raw.items c.args.bytes.now, short)))

pub returns-clause-exact : goal.returns-clause-exact
returns-clause-exact c =
    let front = c.split_at.result.0.now in
    let filled = field_filled c.args.cursor c.args.raw.items c.args.bytes.now front c.split_at.result.1.now (c.width.result - c.len.result) c.split_at.ensures.front c.split_at.ensures.back c.split_at.ensures.front_len (omega (arith, c.len.ensures, c.width.ensures.exact, c.requires.part)) (omega (arith, c.len.ensures, c.width.ensures.exact, c.requires.part)) in
    found_so c.event_of.result c.in-Ok.reached c.take_filled.new.cursor _ (subst (λ (e : End). Reaches c.in-Ok.reached c.take_filled.new.cursor e) (sym filled) c.in-Ok.ensures.exact) c.event_of.ensures.exact

pub returns-clause-shorter : goal.returns-clause-shorter
returns-clause-shorter c =
    shorter_so c.event_of.result c.in-Ok.reached c.args.bytes.now
    (leaves_below c.in-Ok.reached (length c.split_at.result.1.now + 1) (length c.args.bytes.now) (omega (arith, c.split_at.ensures.back_len, c.len.ensures, c.width.ensures.exact, c.requires.part)) c.in-Ok.ensures.shorter) c.event_of.ensures.shorter
