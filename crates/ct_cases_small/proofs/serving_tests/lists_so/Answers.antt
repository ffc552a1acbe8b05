use Rattle.ct_cases_small.proofs.RoundsTold.{told_at_opening}
use Rattle.ct_cases_small.proofs.serving_tests.lists_so.Goals as goal

pub node-requires-clause-limits : goal.node-requires-clause-limits
node-requires-clause-limits c = c.requires.limits

pub node-requires-clause-one : goal.node-requires-clause-one
node-requires-clause-one c = c.requires.one

pub serve_listed-requires-clause-run : goal.serve_listed-requires-clause-run
serve_listed-requires-clause-run c = c.in_ok-node.ensures.run

pub serve_listed-requires-clause-told : goal.serve_listed-requires-clause-told
serve_listed-requires-clause-told c = told_at_opening c.args.config.now c.in_ok-node.node c.args.script.now c.requires.told c.requires.one c.in_ok-node.ensures.opening
