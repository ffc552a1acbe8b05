use Rattle.ct_law_wire_faults.proofs.Named.{faults_are_named}
use Rattle.ct_law_wire_faults.proofs.Offsets.{fault_is_first, offsets_count}
use Rattle.ct_law_wire_faults.proofs.faults.offsets.Goals as goal

pub returns-clause-counted : goal.returns-clause-counted
returns-clause-counted c = offsets_count

pub returns-clause-named : goal.returns-clause-named
returns-clause-named c = faults_are_named

pub returns-clause-first : goal.returns-clause-first
returns-clause-first c = fault_is_first
