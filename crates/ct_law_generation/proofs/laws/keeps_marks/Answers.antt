use Rattle.ct_law_generation.proofs.Lawful.{law_of_one_generation}
use Rattle.ct_law_generation.proofs.laws.keeps_marks.Goals as goal

pub returns : goal.returns
returns c = law_of_one_generation
