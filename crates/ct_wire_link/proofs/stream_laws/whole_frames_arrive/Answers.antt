use Rattle.ct_wire_link.proofs.Following.{broken_breaks, whole_arrive}
use Rattle.ct_wire_link.proofs.stream_laws.whole_frames_arrive.Goals as goal

pub returns-clause-whole : goal.returns-clause-whole
returns-clause-whole c = whole_arrive

pub returns-clause-broken : goal.returns-clause-broken
returns-clause-broken c = broken_breaks
