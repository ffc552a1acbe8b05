use Rattle.ct_law_rules.proofs.SentEvents.{what_is_sent}
use Rattle.ct_law_rules.proofs.laws.sends_sound.Goals as goal

pub returns : goal.returns
returns c = what_is_sent
