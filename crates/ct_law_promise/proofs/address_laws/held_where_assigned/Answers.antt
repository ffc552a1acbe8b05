use Rattle.ct_law_promise.proofs.Holders.{held_where_assigned}
use Rattle.ct_law_promise.proofs.address_laws.held_where_assigned.Goals as goal

pub returns : goal.returns
returns c = held_where_assigned
