use Rattle.ct_traverse_parts.proofs.Keeping.{kept_is_unbeaten}
use Rattle.ct_traverse_parts.proofs.laws.the_kept_row_is_beaten_by_none.Goals as goal

pub returns : goal.returns
returns c = kept_is_unbeaten
