use Rattle.ct_scenario.proofs.Adding.{added}
use Rattle.ct_scenario.proofs.parse.add_line.Goals as goal

pub returns-in-Ok-put_line : goal.returns-in-Ok-put_line
returns-in-Ok-put_line c =
    added c.args.number c.in-Ok-check.field-0 c.in-Ok-put_line.field-0 c.in-Ok.line c.args.bytes.now c.args.places.now c.check.new.self c.args.lines.now.items c.put_line.new.lines.items
    c.in-Ok.ensures.exact c.in-Ok-check.ensures.check c.in-Ok-put_line.ensures
