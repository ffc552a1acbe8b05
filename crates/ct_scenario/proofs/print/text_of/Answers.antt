use Rattle.ct_scenario.proofs.Written.{all_kept, kept}
use Rattle.ct_scenario.proofs.print.text_of.Goals as goal

pub loop-line-preserved : goal.loop-line-preserved
loop-line-preserved c =
    kept c.loop-line.text.items c.push_line.new.text.items c.args.lines.now c.loop-line.line-index c.line-item.result c.loop-line-test.true c.line-item.is c.in_ok-push_line.ensures c.loop-line.invariant

pub returns : goal.returns
returns c = all_kept c.loop-line.text.items c.args.lines.now c.loop-line.line-index c.loop-line-test.false c.loop-line.invariant
