use Rattle.ct_law_wire_faults.proofs.Fronts.{fronts_are_short, malformed_stays}
use Rattle.ct_law_wire_faults.proofs.faults.bytes_come.Goals as goal

pub returns-clause-stays : goal.returns-clause-stays
returns-clause-stays c = malformed_stays

pub returns-clause-short : goal.returns-clause-short
returns-clause-short c = fronts_are_short
