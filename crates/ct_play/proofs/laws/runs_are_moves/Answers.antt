use Rattle.ct_play.proofs.Runs.{runs_are_moves}
use Rattle.ct_play.proofs.laws.runs_are_moves.Goals as goal

pub returns : goal.returns
returns c = runs_are_moves
