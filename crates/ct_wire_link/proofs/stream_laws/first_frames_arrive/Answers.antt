use Rattle.ct_wire_link.proofs.Following.{all_arrive, first_arrive, first_lead, first_stay}
use Rattle.ct_wire_link.proofs.stream_laws.first_frames_arrive.Goals as goal

pub returns-clause-first : goal.returns-clause-first
returns-clause-first c = first_arrive

pub returns-clause-stay : goal.returns-clause-stay
returns-clause-stay c = first_stay

pub returns-clause-lead : goal.returns-clause-lead
returns-clause-lead c = first_lead

pub returns-clause-all : goal.returns-clause-all
returns-clause-all c = all_arrive
