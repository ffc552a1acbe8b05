use Rattle.ct_law_readings.proofs.Greatest.{greatest_entry_was_read}
use Rattle.ct_law_readings.proofs.fresh.the_greatest_entry_was_read.Goals as goal

pub returns : goal.returns
returns c = greatest_entry_was_read
