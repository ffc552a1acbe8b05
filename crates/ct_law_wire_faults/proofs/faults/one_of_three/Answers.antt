use Rattle.ct_law_wire_faults.proofs.Laws.{apart, covers_all, spelled_where_all_keep}
use Rattle.ct_law_wire_faults.proofs.faults.one_of_three.Goals as goal

pub returns-clause-covers : goal.returns-clause-covers
returns-clause-covers c = covers_all

pub returns-clause-apart : goal.returns-clause-apart
returns-clause-apart c = apart

pub returns-clause-spelled : goal.returns-clause-spelled
returns-clause-spelled c = spelled_where_all_keep
