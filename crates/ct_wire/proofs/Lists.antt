-- Fronts of lists.
use Rattle.std.proofs.Common.{◌≡◌, ℕ, ◌+◌, ◌≤◌, List, [], ◌++◌, length, take, drop, refl, sym, arith}
use Rattle.std.proofs.lemmas.List.{append-nil, drop-drop, length-drop, take_all}
use Rattle.ct_wire.specs.Writing.{piece_size}

pub nothing_more : {X : Type 0} (xs : List X) → xs ≡ xs ++ []
nothing_more xs = sym (append-nil xs)

-- a list that is not longer is its own front
pub all_taken : {X : Type 0} (n : ℕ) (xs : List X) → length xs ≤ n → xs ≡ take n xs
all_taken n xs short = sym (take_all n xs short)

-- what is left behind more
pub behind_more : {X : Type 0} (given n : ℕ) (xs : List X) → drop (given + n) xs ≡ drop n (drop given xs)
behind_more given n xs = sym (drop-drop n given xs)

pub more_fits : {X : Type 0} (given n : ℕ) (xs : List X) → given ≤ length xs → n ≤ length (drop given xs) → given + n ≤ length xs
more_fits given n xs some rest = omega (arith, length-drop given xs, some, rest)

pub piece_size_is : piece_size ≡ 65536
unfolding piece_size
piece_size_is = refl
