-- Lists with no item twice.
use Rattle.std.proofs.Common.{◌≡◌, ◌+◌, ◌<◌, ℕ, Bool, true, false, List, [], ◌∷◌, ◌++◌, length, Some, None, get_or, take, drop, drop-cons, sym, append_assoc, suc, add-one, refl, subst, append-nil, Option}
use Rattle.std.proofs.lemmas.List.{take_more}
use Rattle.std.proofs.lemmas.Map.Keys.{IsDistinct-push}
use Rattle.std.specs.Cmp.{IsEquivalence}
use Rattle.std.specs.List.{IsDistinct, list_any}
use Rattle.std.specs.Prelude.{if◌then◌else◌}
use Rattle.ct_values.specs.Config.{repeat_from}

-- an item that is new is passed over
new_item : {X : Type 0} (same : X → X → Bool) (before rest : List X) (i : ℕ) (x : X) → list_any (same x) before ≡ false → repeat_from same before i (x ∷ rest) ≡ repeat_from same (before ++ x ∷ []) (i + 1) rest
new_item same before rest i x e = rw e refl

pub repeat_more : {X : Type 0} (same : X → X → Bool) (front xs : List X) (i : ℕ) (d : X) → i < length xs → list_any (same (get_or xs i d)) (front ++ take i xs) ≡ false → repeat_from same (front ++ take (i + 1) xs) (i + 1) (drop (i + 1) xs) ≡ repeat_from same (front ++ take i xs) i (drop i xs)
repeat_more same front xs i d h e =
    rw (take_more xs i d h) (rw (drop-cons xs i d h) (rw (new_item same (front ++ take i xs) (drop (suc i) xs) i (get_or xs i d) e) (rw (append_assoc front (take i xs) (get_or xs i d ∷ [])) (rw (add-one i) refl))))

-- where nothing repeats, no two items are the same
pub distinct : {X : Type 0} (same : X → X → Bool) (laws : IsEquivalence same) (before xs : List X) (i : ℕ) → IsDistinct same before → repeat_from same before i xs ≡ None → IsDistinct same (before ++ xs)
distinct same laws before [] i d n = subst (IsDistinct same) (sym (append-nil before)) d
distinct {X} same laws before (x ∷ xs) i d n = by (list_any (same x) before) refl n (distinct same laws (before ++ x ∷ []) xs (i + 1))
  where
    by : (b : Bool) → list_any (same x) before ≡ b → (if b then Some i else repeat_from same (before ++ x ∷ []) (i + 1) xs) ≡ None → (IsDistinct same (before ++ x ∷ []) → repeat_from same (before ++ x ∷ []) (i + 1) xs ≡ None → IsDistinct same ((before ++ x ∷ []) ++ xs)) → IsDistinct same (before ++ x ∷ xs)
    by true e n more = absurd (cc)
    by false e n more = subst (IsDistinct same) (append_assoc before (x ∷ []) xs) (more (IsDistinct-push laws before x d e) n)

pub all_distinct : {X : Type 0} (same : X → X → Bool) (laws : IsEquivalence same) (xs : List X) → repeat_from same [] 0 xs ≡ None → IsDistinct same xs
unfolding IsDistinct
all_distinct same laws xs n = distinct same laws [] xs 0 tt n

-- what is no place is none
pub no_place : {X : Type 0} (o : Option X) → ((x : X) → o ≡ Some x → ⊥) → o ≡ None
no_place None h = refl
no_place (Some x) h = absurd (h x refl)
