use Rattle.ct_wire_link.proofs.Following.{follows_first, follows_next}
use Rattle.ct_wire_link.proofs.stream_laws.arrivals_follow.Goals as goal

pub returns-clause-first : goal.returns-clause-first
returns-clause-first c = follows_first

pub returns-clause-next : goal.returns-clause-next
returns-clause-next c = follows_next
