use Rattle.ct_law_form.proofs.Limits.{has_limits}
use Rattle.ct_example.proofs.config.Goals as goal

pub returns : goal.returns
returns c = has_limits c.in_ok-new-2.field-0 2 _ _ c.in_ok-new-2.ensures
