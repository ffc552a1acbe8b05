use Rattle.ct_law_generation.proofs.CallsRun.{promise_of_calls}
use Rattle.ct_law_generation.proofs.call_laws.keeps_calls_of_runs.Goals as goal

pub returns : goal.returns
returns c = promise_of_calls
