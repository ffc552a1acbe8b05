use Rattle.std.proofs.Common.{Ok, Err, ◌∷◌, [], ◌<◌, length, sym, subst, arith}
use Rattle.ct_call.specs.Shown.{rules_of}
use Rattle.ct_main.specs.Feeding.{Feeds}
use Rattle.ct_main.proofs.Feeding.{byte_played, byte_stops, front_stops}
use Rattle.ct_main.proofs.player.Player.take_line.Goals as goal

pub returns-in-Err-clause-takes : goal.returns-in-Err-clause-takes
returns-in-Err-clause-takes g c =
    let a = g.K.Sink.held c.args.out.now in
    let rs = rules_of c.args.table.now in
    front_stops rs c.in-Err.stop c.args.self.now c.args.bytes.now c.before_line_feed-size.result c.keep.new.self a a (c.in-Err.ensures.feeds rs a)

pub returns-in-Ok-clause-takes : goal.returns-in-Ok-clause-takes
returns-in-Ok-clause-takes g c =
    let a = g.K.Sink.held c.args.out.now in
    let z = g.K.Sink.held c.end.new.out in
    let rs = rules_of c.args.table.now in
    let size = c.before_line_feed-size.result in
    let there : size < length c.args.bytes.now = omega (arith, c.before_line_feed-size.ensures.within) in (
      omega arith,
      omega (arith, there),
      byte_played rs (Ok tt) c.args.self.now c.args.bytes.now size c.keep.new.self c.end.new.self a a z there (c.in_default.ensures.feeds rs a)
          (subst (λ x. Feeds rs (Ok tt) c.keep.new.self (x ∷ []) c.end.new.self a z) (sym (c.before_line_feed-size.ensures.next there)) c.in-Ok.ensures.feeds),
    )

pub returns-in-Err-end-clause-takes : goal.returns-in-Err-end-clause-takes
returns-in-Err-end-clause-takes g c =
    let a = g.K.Sink.held c.args.out.now in
    let z = g.K.Sink.held c.end.new.out in
    let rs = rules_of c.args.table.now in
    let size = c.before_line_feed-size.result in
    let there : size < length c.args.bytes.now = omega (arith, c.before_line_feed-size.ensures.within) in
    byte_stops rs c.in-Err-end.stop c.args.self.now c.args.bytes.now size c.keep.new.self c.end.new.self a a z there (c.in_default.ensures.feeds rs a)
    (subst (λ x. Feeds rs (Err c.in-Err-end.stop) c.keep.new.self (x ∷ []) c.end.new.self a z) (sym (c.before_line_feed-size.ensures.next there)) c.in-Err-end.ensures.feeds)
