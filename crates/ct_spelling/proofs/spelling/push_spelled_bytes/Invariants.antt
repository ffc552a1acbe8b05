use Rattle.std.proofs.Common.{◌≡◌, ◌++◌, take}
use Rattle.std.specs.List.{flat_map}
use Rattle.ct_spelling.specs.Spelling.{spelled_byte}
use Rattle.ct_spelling.proofs.spelling.push_spelled_bytes.Given as goal

abbrev pub invariant-loop-b : goal.invariant-loop-b
invariant-loop-b l = l.text.items ≡ l.fn.text.items ++ flat_map spelled_byte (take l.b-index l.bytes)
