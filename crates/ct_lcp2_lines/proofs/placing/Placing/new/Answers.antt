use Rattle.ct_lcp2_lines.proofs.Given.{empty_in_form}
use Rattle.ct_lcp2_lines.proofs.placing.Placing.new.Goals as goal

pub invariant_of-result : goal.invariant_of-result
invariant_of-result c = empty_in_form c.new.result.items c.new-2.result.items c.new-2.ensures.items
