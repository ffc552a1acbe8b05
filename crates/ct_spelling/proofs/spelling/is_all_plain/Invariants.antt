use Rattle.std.proofs.Common.{◌≡◌, drop}
use Rattle.std.specs.List.{list_all}
use Rattle.ct_spelling.specs.Spelling.{is_plain}
use Rattle.ct_spelling.proofs.spelling.is_all_plain.Given as goal

-- what is left tells what the whole does
abbrev pub invariant-loop-b : goal.invariant-loop-b
invariant-loop-b l = list_all is_plain (drop l.b-index l.bytes) ≡ list_all is_plain l.bytes
