use Rattle.ct_law_readings.proofs.Newest.{record_is_found}
use Rattle.ct_law_readings.proofs.fresh.a_record_is_found.Goals as goal

pub returns : goal.returns
returns c = record_is_found
