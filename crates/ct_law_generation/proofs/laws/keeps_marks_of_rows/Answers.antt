use Rattle.ct_law_generation.proofs.Lawful.{law_from_rows}
use Rattle.ct_law_generation.proofs.laws.keeps_marks_of_rows.Goals as goal

pub returns : goal.returns
returns c = law_from_rows
