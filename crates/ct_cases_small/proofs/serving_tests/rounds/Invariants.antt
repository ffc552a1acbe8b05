use Rattle.ct_cases_small.specs.Alone.{MayBeToldAlone}
use Rattle.ct_cases_small.proofs.serving_tests.rounds.Given as goal

abbrev pub invariant-rounds : goal.invariant-rounds
invariant-rounds l = MayBeToldAlone l.items.items
