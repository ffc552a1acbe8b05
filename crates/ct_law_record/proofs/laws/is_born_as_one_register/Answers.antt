use Rattle.ct_law_record.proofs.Births.{proved_born}
use Rattle.ct_law_record.proofs.laws.is_born_as_one_register.Goals as goal

pub returns : goal.returns
returns c = proved_born
