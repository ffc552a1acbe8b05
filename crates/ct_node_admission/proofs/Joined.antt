-- What holds of all items of joined and mapped lists.
use Rattle.std.proofs.Common.{◌≡◌, Bool, ◌&&◌, List, ◌++◌}
use Rattle.std.specs.Prelude.{map}
use Rattle.std.specs.List.{list_all}
use Rattle.std.proofs.lemmas.List.Folds.{list_all-append, list_all-map}

pub all_joined : {X : Type 0} (p : X → Bool) (xs ys : List X) → list_all p (xs ++ ys) ≡ (list_all p xs && list_all p ys)
all_joined p xs ys = list_all-append p xs ys

pub all_mapped : {X Y : Type 0} (p : X → Bool) (f : Y → X) (ys : List Y) → list_all p (map f ys) ≡ list_all (λ y. p (f y)) ys
all_mapped p f ys = list_all-map p f ys
