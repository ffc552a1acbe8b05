use Rattle.ct_law_generation.proofs.Lawful.{promise_from_rows}
use Rattle.ct_law_generation.proofs.laws.keeps_records_of_rows.Goals as goal

pub returns : goal.returns
returns c = promise_from_rows
