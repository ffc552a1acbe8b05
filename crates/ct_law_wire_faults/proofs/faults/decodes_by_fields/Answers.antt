use Rattle.ct_law_wire_faults.proofs.Laws.{decodes_by_fields, malformed_at_the_first, read_where_all_keep, short_where_it_ends}
use Rattle.ct_law_wire_faults.proofs.faults.decodes_by_fields.Goals as goal

pub returns-clause-read : goal.returns-clause-read
returns-clause-read c = read_where_all_keep

pub returns-clause-short : goal.returns-clause-short
returns-clause-short c = short_where_it_ends

pub returns-clause-malformed : goal.returns-clause-malformed
returns-clause-malformed c = malformed_at_the_first

pub returns-clause-answer : goal.returns-clause-answer
returns-clause-answer c = decodes_by_fields
