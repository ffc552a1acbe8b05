use Rattle.std.proofs.Common.{◌≡◌, ◌++◌, length, take}
use Rattle.std.specs.List.{flat_map}
use Rattle.ct_wire.specs.Spelling.{u32, pair}
use Rattle.ct_wire.proofs.put.put_pairs.Given as goal

abbrev pub invariant-loop-p : goal.invariant-loop-p
invariant-loop-p l = l.out.items ≡ l.fn.out.items ++ u32 (length l.pairs) ++ flat_map pair (take l.p-index l.pairs)
