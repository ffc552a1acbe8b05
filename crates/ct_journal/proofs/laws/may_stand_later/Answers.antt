use Rattle.ct_journal.proofs.Later.{may_stand_later}
use Rattle.ct_journal.proofs.laws.may_stand_later.Goals as goal

pub returns : goal.returns
returns c = may_stand_later
