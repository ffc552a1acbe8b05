use Rattle.ct_main.proofs.Statuses.{play_told}
use Rattle.ct_main.proofs.laws.a_play_tells_its_end.Goals as goal

pub returns : goal.returns
returns c = play_told
