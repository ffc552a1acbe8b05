-- What a list is after a write through a `&mut` to one item.
use Rattle.std.specs.Prelude.{ℕ, List, slice_set}
use Rattle.std.specs.Borrow.{Lends, MutBor, Fml, RattleType}
use Rattle.ct_values.specs.contracts.boxed.Boxed.{the_row as boxed_row}
use Rattle.ct_values.specs.contracts.items.Items.{the_row}

-- the list ends with the item at index i as it was last written through r
abbrev pub LendsAt : (T : RattleType) → MutBor (List T.Denot) → ℕ → MutBor T.Denot → Fml
LendsAt T s i r = Lends (the_row T) T s r (slice_set s.now i)

-- the value is as it was last written through r
abbrev pub LendsAll : (T : RattleType) → MutBor T.Denot → MutBor T.Denot → Fml
LendsAll T s r = Lends (boxed_row T) T s r (λ x. x)
