use Rattle.ct_store.proofs.Maps.{written, not_written, erased, not_erased, write_ascends, erase_ascends}
use Rattle.ct_store.proofs.laws.changes_are_seen.Goals as goal

pub returns : goal.returns
returns g c = record { written = written; not_written = not_written; erased = erased; not_erased = not_erased; write_ascends = write_ascends; erase_ascends = erase_ascends }
