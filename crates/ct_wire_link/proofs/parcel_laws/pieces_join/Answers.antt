use Rattle.ct_wire_link.proofs.Joined.{fronts_join, pieces_join}
use Rattle.ct_wire_link.proofs.parcel_laws.pieces_join.Goals as goal

pub returns-clause-frames : goal.returns-clause-frames
returns-clause-frames c = pieces_join

pub returns-clause-fronts : goal.returns-clause-fronts
returns-clause-fronts c = fronts_join
