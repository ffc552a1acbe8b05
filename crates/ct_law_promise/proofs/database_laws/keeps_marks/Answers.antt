use Rattle.ct_law_promise.proofs.CommitsRunning.{law_of_databases}
use Rattle.ct_law_promise.proofs.database_laws.keeps_marks.Goals as goal

pub returns : goal.returns
returns c = law_of_databases
