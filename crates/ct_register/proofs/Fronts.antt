-- Fronts of lists of commits, and the pairs after them.
use Rattle.std.proofs.Common.{◌≡◌, ℕ, zero, suc, ◌+◌, ◌≤◌, List, [], ◌∷◌, ◌++◌, length, refl, ap, arith}
use Rattle.std.specs.Prelude.{take, Some}
use Rattle.ct_values.specs.declared.client.Pair.{Pair}
use Rattle.ct_store.specs.Map.{Pairs}
use Rattle.ct_persist.specs.Persisted.{written}
use Rattle.ct_persist.specs.Updates.{contents}
use Rattle.ct_register.specs.Database.{newest}

pub taken_length : {X : Type 0} (j : ℕ) (xs : List X) → j ≤ length xs → length (take j xs) ≡ j
taken_length zero xs l = refl
taken_length (suc j) [] l = absurd (omega arith)
taken_length (suc j) (x ∷ xs) l = ap (λ (n : ℕ). suc n) (taken_length j xs (omega arith))

-- a front stays when the list gets longer
pub front_stays : {X : Type 0} (j : ℕ) (xs ys : List X) → j ≤ length xs → take j (xs ++ ys) ≡ take j xs
front_stays zero xs ys l = refl
front_stays (suc j) [] ys l = absurd (omega arith)
front_stays (suc j) (x ∷ xs) ys l = ap (λ (zs : List _). x ∷ zs) (front_stays j xs ys (omega arith))

pub whole_front : {X : Type 0} (xs : List X) → take (length xs) xs ≡ xs
whole_front [] = refl
whole_front (x ∷ xs) = ap (λ (zs : List _). x ∷ zs) (whole_front xs)

-- a longer front is a shorter one and more
pub record Longer {X : Type 0} (i j : ℕ) (xs : List X) : Type 0 where
  pub more : List X
  pub is : take j xs ≡ take i xs ++ more
  pub count : j ≡ i + length more

pub longer : {X : Type 0} (i j : ℕ) (xs : List X) → i ≤ j → j ≤ length xs → Longer i j xs
longer zero j xs l m = record { more = take j xs; is = refl; count = (let k = taken_length j xs m in omega arith) }
longer (suc i) zero xs l m = absurd (omega arith)
longer (suc i) (suc j) [] l m = absurd (omega arith)
longer (suc i) (suc j) (x ∷ xs) l m = (let k = longer i j xs (omega arith) (omega arith) in record { more = k.more; is = ap (λ (zs : List _). x ∷ zs) k.is; count = (let c = k.count in omega arith) })

-- the newest commit stands behind the others
pub before_newest : (cs : List (List Pair)) (c : List Pair) → newest cs ≡ Some c → (front : List (List Pair)) × (cs ≡ front ++ c ∷ [])
unfolding newest
before_newest [] c e = absurd (cc)
before_newest (d ∷ []) c e = ([], (let same : d ≡ c = cc in ap (λ (x : List Pair). x ∷ []) same))
before_newest (d ∷ b ∷ cs) c e = (let k = before_newest (b ∷ cs) c e in (d ∷ k.0, ap (λ (xs : List (List Pair)). d ∷ xs) k.1))

-- the pairs after some commits and then others
pub contents_both : (cs ds : List (List Pair)) (m : Pairs (List ℕ)) → contents (cs ++ ds) m ≡ contents ds (contents cs m)
unfolding contents
contents_both [] ds m = refl
contents_both (c ∷ cs) ds m = contents_both cs ds (written c m)
