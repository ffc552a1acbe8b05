use Rattle.ct_law_rules.proofs.Names.{names_unread}
use Rattle.ct_law_rules.proofs.laws.reads_no_names.Goals as goal

pub returns : goal.returns
returns c = names_unread
