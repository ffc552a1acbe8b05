use Rattle.ct_law_record.proofs.MarkedLaw.{is_born}
use Rattle.ct_law_record.proofs.laws.is_born_with_marks.Goals as goal

pub returns : goal.returns
returns c = is_born
