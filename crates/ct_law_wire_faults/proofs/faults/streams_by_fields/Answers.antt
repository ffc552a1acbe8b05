use Rattle.ct_law_wire_faults.proofs.Laws.{stream_breaks_by_fields, stream_waits_by_fields}
use Rattle.ct_law_wire_faults.proofs.faults.streams_by_fields.Goals as goal

pub returns-clause-waits : goal.returns-clause-waits
returns-clause-waits c = stream_waits_by_fields

pub returns-clause-breaks : goal.returns-clause-breaks
returns-clause-breaks c = stream_breaks_by_fields
