use Rattle.ct_ladder_play.proofs.Told.{ladders_tell}
use Rattle.ct_ladder_play.proofs.laws.ladders_tell_plays.Goals as goal

pub returns : goal.returns
returns c = ladders_tell
