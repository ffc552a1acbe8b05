use Rattle.std.proofs.Common.{ap, ◌∙◌}
use Rattle.ct_persist.specs.Steps.{all_dropped}
use Rattle.ct_persist.proofs.InPlace.{added_more, taken_back}
use Rattle.ct_persist.proofs.writes.add_all.Goals as goal

pub returns-in-Err-clause-err : goal.returns-in-Err-clause-err
returns-in-Err-clause-err c = c.drop_all_empty.ensures ∙ ap (all_dropped c.args.writes.now) (c.in-Err.ensures.err ∙ c.loop-write.invariant) ∙ taken_back c.args.writes.now c.loop-write.write-index c.args.items.now c.requires

pub loop-write-preserved : goal.loop-write-preserved
loop-write-preserved c = added_more c.args.writes.now c.loop-write.write-index c.write-item.result c.args.items.now _ _ c.loop-write-test.true c.write-item.is c.loop-write.invariant c.in_default.ensures.ok
