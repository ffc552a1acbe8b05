-- Each run, as it was shown.
use Rattle.ct_register_worked.proofs.Forgotten.{round_of_other_members, round_from_nowhere, round_forgets, round_forgets_commit, round_of_another, round_from_nothing, second_round, installed_twice, installed_under_lock, thawed_too_early, persistent_parent_too_old, installed_by_another, installed_unborn}
use Rattle.ct_register_worked.proofs.refused.rounds.Goals as goal

pub returns-clause-round_forgets : goal.returns-clause-round_forgets
returns-clause-round_forgets c = round_forgets

pub returns-clause-round_forgets_commit : goal.returns-clause-round_forgets_commit
returns-clause-round_forgets_commit c = round_forgets_commit

pub returns-clause-round_of_another : goal.returns-clause-round_of_another
returns-clause-round_of_another c = round_of_another

pub returns-clause-round_from_nothing : goal.returns-clause-round_from_nothing
returns-clause-round_from_nothing c = round_from_nothing

pub returns-clause-second_round : goal.returns-clause-second_round
returns-clause-second_round c = second_round

pub returns-clause-installed_twice : goal.returns-clause-installed_twice
returns-clause-installed_twice c = installed_twice

pub returns-clause-installed_under_lock : goal.returns-clause-installed_under_lock
returns-clause-installed_under_lock c = installed_under_lock

pub returns-clause-thawed_too_early : goal.returns-clause-thawed_too_early
returns-clause-thawed_too_early c = thawed_too_early

pub returns-clause-round_of_other_members : goal.returns-clause-round_of_other_members
returns-clause-round_of_other_members c = round_of_other_members

pub returns-clause-round_from_nowhere : goal.returns-clause-round_from_nowhere
returns-clause-round_from_nowhere c = round_from_nowhere

pub returns-clause-persistent_parent_too_old : goal.returns-clause-persistent_parent_too_old
returns-clause-persistent_parent_too_old c = persistent_parent_too_old

pub returns-clause-installed_by_another : goal.returns-clause-installed_by_another
returns-clause-installed_by_another c = installed_by_another

pub returns-clause-installed_unborn : goal.returns-clause-installed_unborn
returns-clause-installed_unborn c = installed_unborn
