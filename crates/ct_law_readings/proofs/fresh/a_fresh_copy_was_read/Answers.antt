use Rattle.ct_law_readings.proofs.Newest.{fresh_copy_was_read}
use Rattle.ct_law_readings.proofs.fresh.a_fresh_copy_was_read.Goals as goal

pub returns : goal.returns
returns c = fresh_copy_was_read
