use Rattle.ct_lead.proofs.Places.{share_is_own}
use Rattle.ct_lead.proofs.laws.shares_own.Goals as goal

pub returns : goal.returns
returns c = share_is_own
