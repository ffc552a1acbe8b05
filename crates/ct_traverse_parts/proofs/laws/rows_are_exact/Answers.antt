use Rattle.ct_traverse_parts.proofs.Exact.{rows_are_exact}
use Rattle.ct_traverse_parts.proofs.laws.rows_are_exact.Goals as goal

pub returns : goal.returns
returns c = rows_are_exact
