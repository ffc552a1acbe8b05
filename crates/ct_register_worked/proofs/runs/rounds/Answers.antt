-- Each run, as it was shown.
use Rattle.ct_register_worked.proofs.Bases.{unsure_may_be_lost, unsure_may_be_kept, acknowledged_as_taken_over}
use Rattle.ct_register_worked.proofs.Births.{round_empties, round_keeps, round_may_lose}
use Rattle.ct_register_worked.proofs.Members.{acknowledged_once_installed, unsure_before_installed, unsure_without_member}
use Rattle.ct_register_worked.proofs.runs.rounds.Goals as goal

pub returns-clause-round_keeps : goal.returns-clause-round_keeps
returns-clause-round_keeps c = round_keeps

pub returns-clause-round_may_lose : goal.returns-clause-round_may_lose
returns-clause-round_may_lose c = round_may_lose

pub returns-clause-unsure_may_be_lost : goal.returns-clause-unsure_may_be_lost
returns-clause-unsure_may_be_lost c = unsure_may_be_lost

pub returns-clause-unsure_may_be_kept : goal.returns-clause-unsure_may_be_kept
returns-clause-unsure_may_be_kept c = unsure_may_be_kept

pub returns-clause-round_empties : goal.returns-clause-round_empties
returns-clause-round_empties c = round_empties

pub returns-clause-acknowledged_once_installed : goal.returns-clause-acknowledged_once_installed
returns-clause-acknowledged_once_installed c = acknowledged_once_installed

pub returns-clause-unsure_before_installed : goal.returns-clause-unsure_before_installed
returns-clause-unsure_before_installed c = unsure_before_installed

pub returns-clause-unsure_without_member : goal.returns-clause-unsure_without_member
returns-clause-unsure_without_member c = unsure_without_member

pub returns-clause-acknowledged_as_taken_over : goal.returns-clause-acknowledged_as_taken_over
returns-clause-acknowledged_as_taken_over c = acknowledged_as_taken_over
