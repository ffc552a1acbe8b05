-- Each run, as it was shown.
use Rattle.ct_register_worked.proofs.Refusals.{second_lock, old_read, read_under_lock, write_under_lock, store_of_no_owner, unlock_of_no_owner, wrong_answer, vacuum_of_value, read_after_stop, vacuumed_under_lock, ended_unlocked, wrong_length, too_long_under_lock}
use Rattle.ct_register_worked.proofs.refused.records.Goals as goal

pub returns-clause-second_lock : goal.returns-clause-second_lock
returns-clause-second_lock c = second_lock

pub returns-clause-old_read : goal.returns-clause-old_read
returns-clause-old_read c = old_read

pub returns-clause-read_under_lock : goal.returns-clause-read_under_lock
returns-clause-read_under_lock c = read_under_lock

pub returns-clause-write_under_lock : goal.returns-clause-write_under_lock
returns-clause-write_under_lock c = write_under_lock

pub returns-clause-store_of_no_owner : goal.returns-clause-store_of_no_owner
returns-clause-store_of_no_owner c = store_of_no_owner

pub returns-clause-unlock_of_no_owner : goal.returns-clause-unlock_of_no_owner
returns-clause-unlock_of_no_owner c = unlock_of_no_owner

pub returns-clause-wrong_answer : goal.returns-clause-wrong_answer
returns-clause-wrong_answer c = wrong_answer

pub returns-clause-vacuum_of_value : goal.returns-clause-vacuum_of_value
returns-clause-vacuum_of_value c = vacuum_of_value

pub returns-clause-read_after_stop : goal.returns-clause-read_after_stop
returns-clause-read_after_stop c = read_after_stop

pub returns-clause-vacuumed_under_lock : goal.returns-clause-vacuumed_under_lock
returns-clause-vacuumed_under_lock c = vacuumed_under_lock

pub returns-clause-ended_unlocked : goal.returns-clause-ended_unlocked
returns-clause-ended_unlocked c = ended_unlocked

pub returns-clause-wrong_length : goal.returns-clause-wrong_length
returns-clause-wrong_length c = wrong_length

pub returns-clause-too_long_under_lock : goal.returns-clause-too_long_under_lock
returns-clause-too_long_under_lock c = too_long_under_lock
