use Rattle.std.proofs.Common.{◌≡◌, ◌++◌, length, take}
use Rattle.std.specs.List.{flat_map}
use Rattle.ct_wire.specs.Spelling.{u32, ptable}
use Rattle.ct_wire.proofs.put.put_ptables.Given as goal

abbrev pub invariant-loop-t : goal.invariant-loop-t
invariant-loop-t l = l.out.items ≡ l.fn.out.items ++ u32 (length l.ptables) ++ flat_map ptable (take l.t-index l.ptables)
