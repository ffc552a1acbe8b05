use Rattle.ct_scenario.proofs.Written.{back, only}
use Rattle.ct_scenario.proofs.laws.one_text.Goals as goal

pub returns-clause-only : goal.returns-clause-only
returns-clause-only c = only

pub returns-clause-back : goal.returns-clause-back
returns-clause-back c = back
