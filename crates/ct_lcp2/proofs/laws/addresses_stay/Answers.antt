use Rattle.ct_lcp2.proofs.Standing.{ascend_from}
use Rattle.ct_lcp2.proofs.Steps.{same_addresses, placed_able}
use Rattle.ct_lcp2.proofs.laws.addresses_stay.Goals as goal

pub returns : goal.returns
returns c = record { same = same_addresses; able = placed_able; ascend = ascend_from }
