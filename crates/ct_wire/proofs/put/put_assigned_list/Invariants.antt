use Rattle.std.proofs.Common.{◌≡◌, ◌++◌, length, take}
use Rattle.std.specs.List.{flat_map}
use Rattle.ct_wire_fields.specs.Version.{newest}
use Rattle.ct_wire.specs.Spelling.{u32, assigned}
use Rattle.ct_wire.proofs.put.put_assigned_list.Given as goal

abbrev pub invariant-loop-a : goal.invariant-loop-a
invariant-loop-a l = l.out.items ≡ l.fn.out.items ++ u32 (length l.assigns) ++ flat_map (assigned newest) (take l.a-index l.assigns)
