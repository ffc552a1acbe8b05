-- Each run, as it was shown.
use Rattle.ct_register_worked.proofs.Refusals.{write_kept_empty, lock_answered_again, answered_after_refusal, answered_after_stop}
use Rattle.ct_register_worked.proofs.refused.calls.Goals as goal

pub returns-clause-write_kept_empty : goal.returns-clause-write_kept_empty
returns-clause-write_kept_empty c = write_kept_empty

pub returns-clause-lock_answered_again : goal.returns-clause-lock_answered_again
returns-clause-lock_answered_again c = lock_answered_again

pub returns-clause-answered_after_refusal : goal.returns-clause-answered_after_refusal
returns-clause-answered_after_refusal c = answered_after_refusal

pub returns-clause-answered_after_stop : goal.returns-clause-answered_after_stop
returns-clause-answered_after_stop c = answered_after_stop
