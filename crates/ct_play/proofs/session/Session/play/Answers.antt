use Rattle.std.proofs.Common.{Result, sym, subst}
use Rattle.ct_call.specs.Shown.{rules_of}
use Rattle.ct_play.specs.Session.{Played, Plays}
use Rattle.ct_play_text.specs.declared.what.What.{What}
use Rattle.ct_play.proofs.Reading.{line_read}
use Rattle.ct_play.proofs.session.Session.play.Goals as goal

pub returns-in-Ok : goal.returns-in-Ok
returns-in-Ok g c =
    subst (λ (r : Result Played What). Plays c.placed.result r c.placed.new.self) (sym (line_read (rules_of c.args.table.now) c.args.line.now c.args.self.now c.in-Ok.item c.in-Ok.ensures.exact)) c.placed.ensures
