use Rattle.ct_ladder_play.proofs.Told.{ladders_refused}
use Rattle.ct_ladder_play.proofs.laws.ladders_are_refused.Goals as goal

pub returns : goal.returns
returns c = ladders_refused
