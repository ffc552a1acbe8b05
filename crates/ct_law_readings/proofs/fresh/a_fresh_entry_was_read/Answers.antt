use Rattle.ct_law_readings.proofs.Newest.{fresh_entry_was_read}
use Rattle.ct_law_readings.proofs.fresh.a_fresh_entry_was_read.Goals as goal

pub returns : goal.returns
returns c = fresh_entry_was_read
