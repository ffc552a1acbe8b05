use Rattle.std.proofs.Common.{arith}
use Rattle.ct_script.specs.Scripts.{drawn}
use Rattle.ct_script.proofs.Making.{all_drawn, draws_on}
use Rattle.ct_bus_run.specs.Generated.{after}
use Rattle.ct_bus_run.proofs.Making.{after_end, after_on}
use Rattle.ct_bus_run.proofs.generated.draw.Goals as goal

pub loop-i-preserved : goal.loop-i-preserved
loop-i-preserved c = (
  omega (arith, c.loop-i-test.true),
  draws_on c.args.count c.loop-i.i c.next_word.result c.loop-i.generator c.next_word.new.self c.loop-i.words.items c.push.new.self.items (drawn c.args.count c.args.generator.now) (omega (arith, c.loop-i-test.true)) c.next_word.ensures c.in_ok-push.ensures.items c.loop-i.invariant.1,
  after_on c.args.count c.loop-i.i c.next_word.result c.loop-i.generator c.next_word.new.self (after c.args.count c.args.generator.now) (omega (arith, c.loop-i-test.true)) c.next_word.ensures c.loop-i.invariant.2,
)

pub returns-clause-words : goal.returns-clause-words
returns-clause-words c = all_drawn c.args.count c.loop-i.i c.loop-i.generator c.loop-i.words.items (drawn c.args.count c.args.generator.now) (omega (arith, c.loop-i-test.false)) c.loop-i.invariant.1

pub returns-clause-after : goal.returns-clause-after
returns-clause-after c = after_end c.args.count c.loop-i.i c.loop-i.generator (after c.args.count c.args.generator.now) (omega (arith, c.loop-i-test.false)) c.loop-i.invariant.2
