use Rattle.ct_persist.proofs.Looks.{stored_here, removed_here, stored_other}
use Rattle.ct_persist.proofs.laws.writes_are_seen.Goals as goal

pub returns : goal.returns
returns c = record { value = stored_here; removed = removed_here; others = stored_other }
