use Rattle.ct_traverse_parts.proofs.Keeping.{entry_is_above}
use Rattle.ct_traverse_parts.proofs.laws.a_kept_entry_is_above_copies.Goals as goal

pub returns : goal.returns
returns c = entry_is_above
