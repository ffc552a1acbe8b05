use Rattle.ct_law_journal_growing.proofs.Following.{ends_scripted, follows_rising}
use Rattle.ct_law_journal_growing.proofs.cue_laws.ends_scripted.Goals as goal

pub returns : goal.returns
returns c = record { scripted = ends_scripted; rising = follows_rising }
