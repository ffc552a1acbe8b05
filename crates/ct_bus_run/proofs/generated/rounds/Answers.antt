use Rattle.std.proofs.Common.{arith, rules, ◌≡◌, ◌++◌, [], ◌∷◌}
use Rattle.ct_bus_run.specs.Generated.{rounds}
use Rattle.ct_script.specs.Scripts.{generator_of}
use Rattle.ct_bus_run.proofs.Making.{rounds_end, rounds_on}
use Rattle.ct_bus_run.proofs.generated.rounds.Goals as goal

pub loop-i-preserved : goal.loop-i-preserved
loop-i-preserved c =
    let pushed : c.push.new.self.items ≡ c.loop-i.all.items ++ c.in_ok-words.words.items ∷ [] = search rules in (
      omega (arith, c.loop-i-test.true),
      rounds_on c.args.messages c.loop-i.i c.args.others c.loop-i.generator c.draw.new.generator c.in_ok-words.words.items c.loop-i.all.items c.push.new.self.items (rounds c.args.messages c.args.others (generator_of c.args.seed c.args.sender)) (omega (arith, c.loop-i-test.true))
          c.in_ok-words.ensures.words c.in_ok-words.ensures.after pushed c.loop-i.invariant.1,
    )

pub returns : goal.returns
returns c = rounds_end c.args.messages c.loop-i.i c.args.others c.loop-i.generator c.loop-i.all.items (rounds c.args.messages c.args.others (generator_of c.args.seed c.args.sender)) (omega (arith, c.loop-i-test.false)) c.loop-i.invariant.1
