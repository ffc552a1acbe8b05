use Rattle.ct_law_journal_growing.proofs.Calls.{calls_may_come, calls_run_out}
use Rattle.ct_law_journal_growing.proofs.cue_laws.calls_may_come.Goals as goal

pub returns : goal.returns
returns c = record { come = calls_may_come; run_out = calls_run_out }
