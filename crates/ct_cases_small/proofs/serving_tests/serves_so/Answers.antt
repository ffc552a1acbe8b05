use Rattle.ct_cases_small.proofs.RoundsTold.{told_at_opening}
use Rattle.ct_cases_small.proofs.serving_tests.serves_so.Goals as goal

pub node-requires-clause-limits : goal.node-requires-clause-limits
node-requires-clause-limits c = c.requires.limits

pub node-requires-clause-one : goal.node-requires-clause-one
node-requires-clause-one c = c.requires.one

pub serve_alone-requires-clause-run : goal.serve_alone-requires-clause-run
serve_alone-requires-clause-run c = c.in_ok-node.ensures.run

pub serve_alone-requires-clause-told : goal.serve_alone-requires-clause-told
serve_alone-requires-clause-told c = told_at_opening c.args.config.now c.in_ok-node.node c.args.script.now c.requires.told c.requires.one c.in_ok-node.ensures.opening
