use Rattle.ct_lines.proofs.Placed.{stands}
use Rattle.ct_lines.proofs.laws.stands_once_begun.Goals as goal

pub returns : goal.returns
returns c = stands
