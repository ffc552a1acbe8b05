use Rattle.std.proofs.Common.{◌≡◌, ◌++◌, drop}
use Rattle.ct_values.specs.Address.{address_text}
use Rattle.ct_text.specs.Words.{items_text, more_items}
use Rattle.ct_text.proofs.words.push_addresses.Given as goal

abbrev pub invariant-loop-address : goal.invariant-loop-address
invariant-loop-address l = l.text.items ++ more_items address_text (drop l.address-index l.others) ≡ l.fn.text.items ++ items_text address_text l.addresses
