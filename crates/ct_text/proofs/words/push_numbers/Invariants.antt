use Rattle.std.proofs.Common.{◌≡◌, ◌++◌, drop}
use Rattle.std.specs.Fmt.{decimal}
use Rattle.ct_text.specs.Words.{items_text, more_items}
use Rattle.ct_text.proofs.words.push_numbers.Given as goal

abbrev pub invariant-loop-n : goal.invariant-loop-n
invariant-loop-n l = l.text.items ++ more_items decimal (drop l.n-index l.others) ≡ l.fn.text.items ++ items_text decimal l.numbers
