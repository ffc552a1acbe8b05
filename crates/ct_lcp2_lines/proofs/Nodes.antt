-- Lists over the nodes, one node after the other.
use Rattle.std.proofs.Common.{◌≡◌, ℕ, suc, ◌+◌, ◌-◌, ◌<◌, Bool, true, false, List, [], ◌∷◌, ◌++◌, length, refl, sym, ap, ◌∙◌, append_assoc, arith}
use Rattle.std.specs.List.{filter, flat_map, range_with_len}
use Rattle.std.specs.Prelude.{if◌then◌else◌}
use Rattle.ct_frame.specs.declared.frame.Assigned.{Assigned}
use Rattle.ct_lcp2.specs.Placing.{addresses, placed}
use Rattle.ct_lcp2.proofs.Steps.{same_addresses}

-- the nodes from one on are that one and those after it
nodes_left : (n m : ℕ) → n < m → range_with_len n (m - n) ≡ n ∷ range_with_len (n + 1) (m - (n + 1))
nodes_left n m h = let e : m - n ≡ suc (m - (n + 1)) = omega (arith, h) in ap (range_with_len n) e

-- one node's line more
pub one_line : (f : ℕ → List ℕ) (n m : ℕ) (t u w : List ℕ) → n < m → t ++ flat_map f (range_with_len n (m - n)) ≡ w → u ≡ t ++ f n → u ++ flat_map f (range_with_len (n + 1) (m - (n + 1))) ≡ w
one_line f n m t u w h i e =
    let rest = flat_map f (range_with_len (n + 1) (m - (n + 1))) in
    ap (λ v. v ++ rest) e ∙ append_assoc t (f n) rest ∙ sym (ap (λ ns. t ++ flat_map f ns) (nodes_left n m h)) ∙ i

if_kept : (b : Bool) (n : ℕ) (t rest : List ℕ) → (t ++ (if b then n ∷ [] else [])) ++ rest ≡ t ++ (if b then n ∷ rest else rest)
if_kept true n t rest = append_assoc t (n ∷ []) rest
if_kept false n t rest = append_assoc t [] rest

-- one node more, where it is kept
pub one_node : (p : ℕ → Bool) (n m : ℕ) (t u w : List ℕ) → n < m → t ++ filter p (range_with_len n (m - n)) ≡ w → u ≡ t ++ (if p n then n ∷ [] else []) → u ++ filter p (range_with_len (n + 1) (m - (n + 1))) ≡ w
one_node p n m t u w h i e =
    let rest = filter p (range_with_len (n + 1) (m - (n + 1))) in
    ap (λ v. v ++ rest) e ∙ if_kept (p n) n t rest ∙ sym (ap (λ ns. t ++ filter p ns) (nodes_left n m h)) ∙ i

-- as many addresses are placed as are given
pub as_many_placed : (able : List ℕ) (xs : List Assigned) → length (placed able xs) ≡ length xs
as_many_placed able xs = sym (as_many (placed able xs)) ∙ ap length (same_addresses able xs) ∙ as_many xs
  where
    as_many : (ys : List Assigned) → length (addresses ys) ≡ length ys
    as_many [] = refl
    as_many (y ∷ ys) = ap suc (as_many ys)
