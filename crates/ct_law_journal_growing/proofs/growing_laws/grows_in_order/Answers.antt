use Rattle.ct_law_journal_growing.proofs.Growth.{all_arrives, counts_grown, grows_in_order}
use Rattle.ct_law_journal_growing.proofs.growing_laws.grows_in_order.Goals as goal

pub returns : goal.returns
returns c = record { in_order = grows_in_order; arrives = all_arrives; counts = counts_grown }
