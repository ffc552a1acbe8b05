use Rattle.ct_law_promise.proofs.Law.{promise_of_addresses}
use Rattle.ct_law_promise.proofs.address_laws.stands_in_addresses.Goals as goal

pub returns : goal.returns
returns c = promise_of_addresses
