use Rattle.ct_lcp2_lines.proofs.Complete.{completes}
use Rattle.ct_lcp2_lines.proofs.laws.a_good_input_is_placed.Goals as goal

pub returns : goal.returns
returns c = completes
