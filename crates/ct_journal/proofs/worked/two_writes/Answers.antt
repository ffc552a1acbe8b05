use Rattle.ct_journal.proofs.Computed.{two_writes}
use Rattle.ct_journal.proofs.worked.two_writes.Goals as goal

pub returns : goal.returns
returns c = two_writes
