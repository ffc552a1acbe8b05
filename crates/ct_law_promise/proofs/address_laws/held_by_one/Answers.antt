use Rattle.ct_law_promise.proofs.Holders.{one_holder}
use Rattle.ct_law_promise.proofs.address_laws.held_by_one.Goals as goal

pub returns : goal.returns
returns c = one_holder
