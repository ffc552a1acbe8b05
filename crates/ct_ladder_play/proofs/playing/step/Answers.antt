use Rattle.std.proofs.Common.{◌∙◌, ◌++◌, ap}
use Rattle.ct_call.specs.Shown.{rules_of}
use Rattle.ct_play.specs.Session.{line_played}
use Rattle.ct_ladder_play.specs.Playing.{rungs_of}
use Rattle.ct_ladder_play.proofs.Climbing.{step_made}
use Rattle.ct_ladder_play.proofs.playing.step.Goals as goal

pub returns-in-Ok-add_step : goal.returns-in-Ok-add_step
returns-in-Ok-add_step g c =
    step_made (line_played (rules_of c.args.table.now) c.args.line.now c.args.session.now) c.args.fate c.play.new.self c.in-Ok.texts.items c.args.rungs.now.items c.add_step.new.rungs.items
    c.in-Ok.ensures (c.in-Ok-add_step.ensures ∙ ap (λ ts. c.args.rungs.now.items ++ rungs_of c.args.fate ts) c.deref.ensures.value)
