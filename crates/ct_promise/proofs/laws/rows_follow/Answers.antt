use Rattle.ct_promise.proofs.Follows as follows
use Rattle.ct_promise.proofs.laws.rows_follow.Goals as goal

pub returns : goal.returns
returns c = follows.rows_follow
