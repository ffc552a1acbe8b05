use Rattle.std.proofs.Common.{◌≡◌, ◌++◌, take}
use Rattle.ct_values.proofs.address.written.Written.push_all.Given as goal

-- the bytes so far have come to the end
abbrev pub invariant-loop-byte : goal.invariant-loop-byte
invariant-loop-byte l = l.self ≡ l.fn.self ++ take l.byte-index l.bytes
