use Rattle.ct_store.proofs.Maps.{empty_ascends, same_map, write_length, erase_length}
use Rattle.ct_store.proofs.laws.maps_are_finite.Goals as goal

pub returns : goal.returns
returns g c = record { empty = empty_ascends g.row.T.Denot; same = same_map; write_length = write_length; erase_length = erase_length }
