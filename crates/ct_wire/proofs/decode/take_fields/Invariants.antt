use Rattle.std.proofs.Common.{◌≡◌, ◌≤◌, [], length}
use Rattle.ct_wire.specs.Cursor.{IsSound}
use Rattle.ct_wire.specs.Decoding.{eaten}
use Rattle.ct_wire.proofs.decode.take_fields.Given as goal

abbrev pub invariant-fields : goal.invariant-fields
invariant-fields l = (eaten l.cursor [] l.rest ≡ eaten l.fn.cursor [] l.bytes) × IsSound l.cursor × (length l.rest ≤ length l.bytes)

abbrev pub decreases-fields : goal.decreases-fields
decreases-fields l = length l.rest
