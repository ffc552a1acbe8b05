use Rattle.ct_law_generation.proofs.Born.{calls_from_rows}
use Rattle.ct_law_generation.proofs.call_laws.keeps_calls_of_rows.Goals as goal

pub returns : goal.returns
returns c = calls_from_rows
