use Rattle.ct_law_rules.proofs.Events.{in_form_at_start}
use Rattle.ct_law_rules.proofs.LowCalls.{low_at_start}
use Rattle.ct_law_rules.proofs.laws.starts_in_form.Goals as goal

pub returns : goal.returns
returns c = record { form = in_form_at_start; calls = low_at_start }
