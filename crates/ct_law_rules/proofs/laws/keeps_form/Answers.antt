use Rattle.ct_law_rules.proofs.Events.{form_kept}
use Rattle.ct_law_rules.proofs.LowCalls.{move_low}
use Rattle.ct_law_rules.proofs.laws.keeps_form.Goals as goal

pub returns : goal.returns
returns c = record { form = form_kept; calls = move_low }
