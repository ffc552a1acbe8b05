-- Each run, as it was shown.
use Rattle.ct_register_worked.proofs.Reached.{commit_is_read, answered_under_lock, lock_moves_after_answer, another_is_refused, unsure_is_open}
use Rattle.ct_register_worked.proofs.runs.commits.Goals as goal

pub returns-clause-commit_is_read : goal.returns-clause-commit_is_read
returns-clause-commit_is_read c = commit_is_read

pub returns-clause-another_is_refused : goal.returns-clause-another_is_refused
returns-clause-another_is_refused c = another_is_refused

pub returns-clause-unsure_is_open : goal.returns-clause-unsure_is_open
returns-clause-unsure_is_open c = unsure_is_open

pub returns-clause-answered_under_lock : goal.returns-clause-answered_under_lock
returns-clause-answered_under_lock c = answered_under_lock

pub returns-clause-lock_moves_after_answer : goal.returns-clause-lock_moves_after_answer
returns-clause-lock_moves_after_answer c = lock_moves_after_answer
