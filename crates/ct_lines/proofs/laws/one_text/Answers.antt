use Rattle.ct_lines.proofs.Whole.{line_only, line_back}
use Rattle.ct_lines.proofs.laws.one_text.Goals as goal

pub returns-clause-only : goal.returns-clause-only
returns-clause-only c = line_only

pub returns-clause-back : goal.returns-clause-back
returns-clause-back c = line_back
