use Rattle.std.proofs.Common.{◌≡◌, ◌++◌, length, take}
use Rattle.std.specs.List.{flat_map}
use Rattle.ct_wire.specs.Spelling.{u32}
use Rattle.ct_wire.proofs.put.put_nodes.Given as goal

abbrev pub invariant-loop-node : goal.invariant-loop-node
invariant-loop-node l = l.out.items ≡ l.fn.out.items ++ u32 (length l.nodes) ++ flat_map u32 (take l.node-index l.nodes)
