use Rattle.ct_law_rules.proofs.Tracking.{holder_tracks}
use Rattle.ct_law_rules.proofs.laws.keeps_tracking.Goals as goal

pub returns : goal.returns
returns c = holder_tracks
