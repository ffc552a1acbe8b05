use Rattle.ct_law_run.proofs.Owed.{promise_of_records}
use Rattle.ct_law_run.proofs.laws.keeps_records.Goals as goal

pub returns : goal.returns
returns c = promise_of_records
