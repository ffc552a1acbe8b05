use Rattle.std.proofs.Common.{arith}
use Rattle.ct_cases_small.proofs.serving_tests.node.Goals as goal

pub new-requires-clause-node : goal.new-requires-clause-node
new-requires-clause-node c = omega (arith, c.requires.one)

pub returns-clause-opening : goal.returns-clause-opening
returns-clause-opening c = c.in_ok-node.ensures.at_opening

pub returns-clause-run : goal.returns-clause-run
returns-clause-run c = c.in_ok-node.ensures.run
