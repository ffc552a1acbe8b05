use Rattle.std.proofs.Common.{◌≡◌, ◌++◌, length, take}
use Rattle.std.specs.List.{flat_map}
use Rattle.ct_wire_fields.specs.Version.{newest}
use Rattle.ct_wire.specs.Spelling.{u32, row}
use Rattle.ct_wire.proofs.put.put_rows.Given as goal

abbrev pub invariant-loop-r : goal.invariant-loop-r
invariant-loop-r l = l.out.items ≡ l.fn.out.items ++ u32 (length l.table) ++ flat_map (row newest) (take l.r-index l.table)
