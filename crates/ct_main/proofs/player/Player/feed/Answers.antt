use Rattle.std.proofs.Common.{Ok, Err, ◌≡◌, ◌-◌, length, take, drop, sym, subst, ap, arith, length-drop, take-add, take_all}
use Rattle.std.proofs.lemmas.List.{take-append-drop}
use Rattle.ct_call.specs.Shown.{rules_of}
use Rattle.ct_main.specs.Feeding.{Fed, Feeds}
use Rattle.ct_main.proofs.Feeding.{feeds_then, unfed}
use Rattle.ct_main.proofs.player.Player.feed.Goals as goal

pub loop-done-init : goal.loop-done-init
loop-done-init g c = record { within = omega arith; fed = unfed (rules_of c.args.table.now) c.args.self.now (g.K.Sink.held c.args.out.now); later = omega arith; count = omega arith; line = c.requires.line }

pub loop-done-preserved : goal.loop-done-preserved
loop-done-preserved g c =
    let held = g.K.Sink.held in
    let rs = rules_of c.args.table.now in
    let p = c.args.self.now in
    let s = c.take_line.new.self in
    let bs = c.args.bytes.now in
    let done = c.loop-done.done in
    let n = c.in-Ok.size in
    let t = c.in-Ok.ensures.takes in
    let whole : take (length bs - done) (drop done bs) ≡ drop done bs = take_all (length bs - done) (drop done bs) (omega (arith, length-drop done bs)) in
    record {
      within = omega (arith, length-drop done bs, ap length whole, t.1, c.loop-done.invariant.within);
      fed = subst (λ ys. Fed rs p s ys (held c.args.out.now) (held c.take_line.new.out)) (sym (take-add done n bs))
          (feeds_then rs (Ok tt) p (take done bs) c.loop-done.self (take n (drop done bs)) s (held c.args.out.now) (held c.loop-done.out) (held c.take_line.new.out) c.loop-done.invariant.fed (subst (λ ys. Fed rs c.loop-done.self s (take n ys) (held c.loop-done.out) (held c.take_line.new.out)) whole t.2));
      later = omega (arith, c.in-Ok.ensures.cause);
      count = omega (arith, t.0, c.in-Ok.ensures.count);
      line = c.in-Ok.ensures.line;
    }

pub returns-in-Err-clause-feeds : goal.returns-in-Err-clause-feeds
returns-in-Err-clause-feeds g c =
    let held = g.K.Sink.held in
    let rs = rules_of c.args.table.now in
    let bs = c.args.bytes.now in
    let done = c.loop-done.done in
    let whole : take (length bs - done) (drop done bs) ≡ drop done bs = take_all (length bs - done) (drop done bs) (omega (arith, length-drop done bs)) in
    subst (λ ys. Feeds rs (Err c.in-Err.stop) c.args.self.now ys c.take_line.new.self (held c.args.out.now) (held c.take_line.new.out)) (take-append-drop done bs)
    (feeds_then rs (Err c.in-Err.stop) c.args.self.now (take done bs) c.loop-done.self (drop done bs) c.take_line.new.self (held c.args.out.now) (held c.loop-done.out) (held c.take_line.new.out) c.loop-done.invariant.fed (subst (λ ys. Feeds rs (Err c.in-Err.stop) c.loop-done.self ys c.take_line.new.self (held c.loop-done.out) (held c.take_line.new.out)) whole c.in-Err.ensures.takes))
