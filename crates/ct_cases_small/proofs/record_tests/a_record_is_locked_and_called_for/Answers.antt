use Rattle.std.proofs.Common.{arith}
use Rattle.ct_cases_small.proofs.Starts.{starts}
use Rattle.ct_cases_small.proofs.record_tests.a_record_is_locked_and_called_for.Goals as goal

pub take-requires-clause-in_form : goal.take-requires-clause-in_form
take-requires-clause-in_form g c = starts _ _ (omega arith) c.new-state.ensures
