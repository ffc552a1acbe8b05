-- Those pairs of a map whose items pass a test.
use Rattle.std.specs.Prelude.{◌≡◌, Bool, filter}
use Rattle.std.specs.Borrow.{Bor}
use Rattle.std.specs.Fn.{Shared, FnReturns}
use Rattle.ct_store.specs.Map.{Pairs}

-- each answer of f at an item is what p says of it
abbrev pub Tells : {F X : Type 0} → Shared F (Bor X × Unit {0}) Bool → (X → Bool) → F → Type 0
Tells {F} {X} g p f = (x : Bor X) (r : Bool) → FnReturns g f (x, tt) r → r ≡ p x.now

-- the pairs whose items pass, in their order
abbrev pub those : {X : Type 0} → (X → Bool) → Pairs X → Pairs X
those p m = filter (λ e. p e.1) m
