-- Lists with one item at each place, and which of several items at a place is kept.
use Rattle.std.specs.Prelude.{List, [], ◌∷◌, Option, None, Some, if◌then◌else◌}
use Rattle.std.specs.declared.cmp.Ordering.{Ordering}
use Rattle.std.specs.declared.cmp.Ordering.TheVariants.{Less, Greater}
use Rattle.std.specs.Ordering.{is_lt, match_ordering}

-- `rank` tells which of two items at one place comes before the other
module _ {X : Type 0} (rank : X → X → Ordering) where
  -- of two at one place the one that comes first by rank
  abbrev pub better : X → X → X
  better x y = if is_lt (rank x y) then x else y

  -- the better of an item and the one so far
  abbrev pub better_of : X → Option X → X
  better_of x None = x
  better_of x (Some y) = better x y

  -- the best of the one so far and these
  abbrev pub best_from : Option X → List X → Option X
  best_from so_far [] = so_far
  best_from so_far (x ∷ xs) = best_from (Some (better_of x so_far)) xs

  -- the first of these by rank
  abbrev pub best : List X → Option X
  best xs = best_from None xs

-- `order` tells which item has the lower place
module _ {X : Type 0} (order rank : X → X → Ordering) where
  -- the list with one more item: in its place, and where one stands there, the better of the two
  abbrev pub inserted : X → List X → List X
  inserted x [] = x ∷ []
  inserted x (y ∷ ys) = match_ordering (order x y) (x ∷ y ∷ ys) (better rank x y ∷ ys) (y ∷ inserted x ys)

  -- the list with more items, one after the other
  abbrev pub all_inserted : List X → List X → List X
  all_inserted [] ys = ys
  all_inserted (x ∷ xs) ys = all_inserted xs (inserted x ys)

-- from which of two lists the next item comes when the first is put into the second: from the one whose first item has
-- the lower place, or from both
abbrev pub turn : {X : Type 0} → (X → X → Ordering) → List X → List X → Ordering
turn order [] ys = Greater
turn order (x ∷ xs) [] = Less
turn order (x ∷ xs) (y ∷ ys) = order x y
