use Rattle.ct_cases_small.proofs.serving_tests.serve_listed.Goals as goal

pub serve-served-requires-clause-run : goal.serve-served-requires-clause-run
serve-served-requires-clause-run c = c.requires.run _
