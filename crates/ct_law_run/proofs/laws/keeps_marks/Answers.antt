use Rattle.ct_law_run.proofs.Owed.{law_of_records}
use Rattle.ct_law_run.proofs.laws.keeps_marks.Goals as goal

pub returns : goal.returns
returns c = law_of_records
