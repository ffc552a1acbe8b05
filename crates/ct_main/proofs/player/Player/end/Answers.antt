use Rattle.std.proofs.Common.{Err, List, ℕ, [], ◌∷◌, ◌+◌, refl, sym, subst, ap}
use Rattle.std.specs.Io.KnownBytes.{Appends}
use Rattle.ct_call.specs.Shown.{rules_of}
use Rattle.ct_play.specs.Play.{all_text}
use Rattle.ct_play.specs.Session.{Matches, line_played}
use Rattle.ct_main.specs.Feeding.{Feeds, Prints}
use Rattle.ct_main.specs.declared.player.Player.{Player}
use Rattle.ct_main.proofs.Feeding.{line_part, line_printed, play_stops}
use Rattle.ct_main.proofs.player.Player.end.Goals as goal

pub returns-in-Err-clause-feeds : goal.returns-in-Err-clause-feeds
returns-in-Err-clause-feeds g c =
    let a = g.K.Sink.held c.args.out.now in
    let p = c.args.self.now in
    let q : Player = record { session = c.play.new.self; line = p.line; count = p.count } in
    subst (λ e. Feeds (rules_of c.args.table.now) (Err e) p (10 ∷ []) q a a) (sym c.from.ensures) (play_stops (rules_of c.args.table.now) c.in-Err.fault p q c.as_slice.result.now a c.as_slice.ensures c.in-Err.ensures refl)

pub returns-in-Err-print-clause-feeds : goal.returns-in-Err-print-clause-feeds
returns-in-Err-print-clause-feeds g c =
    let a = g.K.Sink.held c.args.out.now in
    let z = g.K.Sink.held c.print.new.out in
    let p = c.args.self.now in
    let q : Player = record { session = c.play.new.self; line = p.line; count = p.count } in
    line_part (rules_of c.args.table.now) c.in-Err-print.stop p q c.play.new.self c.in-Ok.texts.items a z (subst (λ l. Matches (line_played (rules_of c.args.table.now) l p.session) c.play.new.self c.in-Ok.texts.items) c.as_slice.ensures c.in-Ok.ensures)
    (subst (λ ls. Prints (Err c.in-Err-print.stop) ls a z) c.as_slice-2.ensures.value c.in-Err-print.ensures.prints)

pub returns-clause-feeds : goal.returns-clause-feeds
returns-clause-feeds g c =
    let a = g.K.Sink.held c.args.out.now in
    let z = g.K.Sink.held c.print.new.out in
    let p = c.args.self.now in
    let q : List ℕ → Player = λ l. record { session = c.play.new.self; line = l; count = p.count + 1 } in
    line_printed (rules_of c.args.table.now) p (q c.truncate.new.self) c.play.new.self c.in-Ok.texts.items a z (subst (λ l. Matches (line_played (rules_of c.args.table.now) l p.session) c.play.new.self c.in-Ok.texts.items) c.as_slice.ensures c.in-Ok.ensures)
    (subst (λ ls. Appends a z (all_text ls)) c.as_slice-2.ensures.value c.in_default.ensures.prints) (ap q c.truncate.ensures)
