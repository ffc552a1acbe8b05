-- Each run, as it was shown.
use Rattle.ct_register_worked.proofs.Forgotten.{acknowledged_without_member, acknowledged_before_installed, answered_after_old_read, old_read_after_commit, old_read_of_own, old_read_after_read}
use Rattle.ct_register_worked.proofs.Refusals.{commit_unlocked, commit_beside_another, wrong_number, acknowledged_twice, commit_of_another, answered_without_lock, unsure_of_nobody, unsure_of_own, unsure_of_no_member, unsure_twice, unsure_anew, refused_after_begin}
use Rattle.ct_register_worked.proofs.refused.commits.Goals as goal

pub returns-clause-commit_unlocked : goal.returns-clause-commit_unlocked
returns-clause-commit_unlocked c = commit_unlocked

pub returns-clause-commit_beside_another : goal.returns-clause-commit_beside_another
returns-clause-commit_beside_another c = commit_beside_another

pub returns-clause-wrong_number : goal.returns-clause-wrong_number
returns-clause-wrong_number c = wrong_number

pub returns-clause-acknowledged_twice : goal.returns-clause-acknowledged_twice
returns-clause-acknowledged_twice c = acknowledged_twice

pub returns-clause-commit_of_another : goal.returns-clause-commit_of_another
returns-clause-commit_of_another c = commit_of_another

pub returns-clause-unsure_of_nobody : goal.returns-clause-unsure_of_nobody
returns-clause-unsure_of_nobody c = unsure_of_nobody

pub returns-clause-old_read_after_commit : goal.returns-clause-old_read_after_commit
returns-clause-old_read_after_commit c = old_read_after_commit

pub returns-clause-old_read_of_own : goal.returns-clause-old_read_of_own
returns-clause-old_read_of_own c = old_read_of_own

pub returns-clause-old_read_after_read : goal.returns-clause-old_read_after_read
returns-clause-old_read_after_read c = old_read_after_read

pub returns-clause-unsure_of_own : goal.returns-clause-unsure_of_own
returns-clause-unsure_of_own c = unsure_of_own

pub returns-clause-unsure_of_no_member : goal.returns-clause-unsure_of_no_member
returns-clause-unsure_of_no_member c = unsure_of_no_member

pub returns-clause-unsure_twice : goal.returns-clause-unsure_twice
returns-clause-unsure_twice c = unsure_twice

pub returns-clause-unsure_anew : goal.returns-clause-unsure_anew
returns-clause-unsure_anew c = unsure_anew

pub returns-clause-refused_after_begin : goal.returns-clause-refused_after_begin
returns-clause-refused_after_begin c = refused_after_begin

pub returns-clause-acknowledged_without_member : goal.returns-clause-acknowledged_without_member
returns-clause-acknowledged_without_member c = acknowledged_without_member

pub returns-clause-acknowledged_before_installed : goal.returns-clause-acknowledged_before_installed
returns-clause-acknowledged_before_installed c = acknowledged_before_installed

pub returns-clause-answered_without_lock : goal.returns-clause-answered_without_lock
returns-clause-answered_without_lock c = answered_without_lock

pub returns-clause-answered_after_old_read : goal.returns-clause-answered_after_old_read
returns-clause-answered_after_old_read c = answered_after_old_read
