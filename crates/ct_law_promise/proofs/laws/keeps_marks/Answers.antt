use Rattle.ct_law_promise.proofs.Running.{law_of_marks}
use Rattle.ct_law_promise.proofs.laws.keeps_marks.Goals as goal

pub returns : goal.returns
returns c = law_of_marks
