use Rattle.std.proofs.Common.{◌≡◌, ◌++◌, drop}
use Rattle.ct_text.specs.Words.{assigned_text}
use Rattle.ct_text.specs.Words.{items_text, more_items}
use Rattle.ct_text.proofs.words.push_assigned.Given as goal

abbrev pub invariant-loop-one : goal.invariant-loop-one
invariant-loop-one l = l.text.items ++ more_items assigned_text (drop l.one-index l.others) ≡ l.fn.text.items ++ items_text assigned_text l.assigned
