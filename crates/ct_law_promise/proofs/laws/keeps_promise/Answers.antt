use Rattle.ct_law_promise.proofs.Running.{promise}
use Rattle.ct_law_promise.proofs.laws.keeps_promise.Goals as goal

pub returns : goal.returns
returns c = promise
