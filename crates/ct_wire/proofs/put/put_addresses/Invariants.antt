use Rattle.std.proofs.Common.{◌≡◌, ◌++◌, length, take}
use Rattle.std.specs.List.{flat_map}
use Rattle.ct_wire_fields.specs.Version.{newest}
use Rattle.ct_wire.specs.Spelling.{u32, address}
use Rattle.ct_wire.proofs.put.put_addresses.Given as goal

abbrev pub invariant-loop-a : goal.invariant-loop-a
invariant-loop-a l = l.out.items ≡ l.fn.out.items ++ u32 (length l.addresses) ++ flat_map (address newest) (take l.a-index l.addresses)
