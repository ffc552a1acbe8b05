use Rattle.ct_law_promise.proofs.Law.{law_of_addresses}
use Rattle.ct_law_promise.proofs.address_laws.keeps_addresses.Goals as goal

pub returns : goal.returns
returns c = law_of_addresses
