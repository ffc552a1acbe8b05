use Rattle.ct_law_promise.proofs.CommitsRunning.{promise_of_databases}
use Rattle.ct_law_promise.proofs.database_laws.keeps_databases.Goals as goal

pub returns : goal.returns
returns c = promise_of_databases
