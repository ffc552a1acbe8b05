-- Each run, as it was shown.
use Rattle.ct_register_worked.proofs.Placements.{addresses_are_placed}
use Rattle.ct_register_worked.proofs.runs.addresses.Goals as goal

pub returns : goal.returns
returns c = addresses_are_placed
