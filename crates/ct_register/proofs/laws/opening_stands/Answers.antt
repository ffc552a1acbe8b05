-- The opening, as it was shown.
use Rattle.ct_register.proofs.Opened.{opening_stands}
use Rattle.ct_register.proofs.laws.opening_stands.Goals as goal

pub returns : goal.returns
returns c = opening_stands
