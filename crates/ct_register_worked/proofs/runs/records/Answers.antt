-- Each run, as it was shown.
use Rattle.ct_register_worked.proofs.Reached.{lock_moves, readers_see, functions_answer, vacuum_forgets, stop_ends_locks, refusals_change_nothing}
use Rattle.ct_register_worked.proofs.runs.records.Goals as goal

pub returns-clause-lock_moves : goal.returns-clause-lock_moves
returns-clause-lock_moves c = lock_moves

pub returns-clause-readers_see : goal.returns-clause-readers_see
returns-clause-readers_see c = readers_see

pub returns-clause-functions_answer : goal.returns-clause-functions_answer
returns-clause-functions_answer c = functions_answer

pub returns-clause-vacuum_forgets : goal.returns-clause-vacuum_forgets
returns-clause-vacuum_forgets c = vacuum_forgets

pub returns-clause-stop_ends_locks : goal.returns-clause-stop_ends_locks
returns-clause-stop_ends_locks c = stop_ends_locks

pub returns-clause-refusals_change_nothing : goal.returns-clause-refusals_change_nothing
returns-clause-refusals_change_nothing c = refusals_change_nothing
