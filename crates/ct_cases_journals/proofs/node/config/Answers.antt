use Rattle.ct_law_form.proofs.Limits.{has_limits}
use Rattle.ct_cases_journals.proofs.node.config.Goals as goal

pub returns-clause-limits : goal.returns-clause-limits
returns-clause-limits c = has_limits c.in_ok-new-2.field-0 1 _ _ c.in_ok-new-2.ensures
