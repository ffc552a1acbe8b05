-- The phrase, as it was shown.
use Rattle.ct_law_promise.proofs.Stays.{members_agree}
use Rattle.ct_law_promise.proofs.phrases.members_agree.Goals as goal

pub returns : goal.returns
returns c = members_agree
