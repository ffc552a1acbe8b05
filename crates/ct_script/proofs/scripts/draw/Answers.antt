use Rattle.std.proofs.Common.{arith}
use Rattle.ct_script.specs.Scripts.{drawn, generator_of}
use Rattle.ct_script.proofs.Making.{all_drawn, draws_on}
use Rattle.ct_script.proofs.scripts.draw.Goals as goal

pub loop-i-preserved : goal.loop-i-preserved
loop-i-preserved c = (
  omega (arith, c.loop-i-test.true),
  draws_on c.args.calls c.loop-i.i c.next_word.result c.loop-i.generator c.next_word.new.self c.loop-i.words.items c.push.new.self.items
      (drawn c.args.calls (generator_of c.args.seed c.args.node)) (omega (arith, c.loop-i-test.true)) c.next_word.ensures c.in_ok-push.ensures.items c.loop-i.invariant.1,
)

pub returns : goal.returns
returns c =
    all_drawn c.args.calls c.loop-i.i c.loop-i.generator c.loop-i.words.items (drawn c.args.calls (generator_of c.args.seed c.args.node)) (omega (arith, c.loop-i-test.false)) c.loop-i.invariant.1
