-- What the small words say.
use Rattle.std.proofs.Common.{◌≡◌, ℕ, true, List, [], ◌∷◌, Option, None, Some, refl, ap, arith}
use Rattle.ct_values.specs.Words.{is_nil, is_this_node}

pub nil_is : {X : Type 0} (xs : List X) → is_nil xs ≡ true → xs ≡ []
nil_is [] e = refl
nil_is (x ∷ xs) e = absurd (cc)

pub this_node_is : (node : ℕ) (o : Option ℕ) → is_this_node node o ≡ true → o ≡ Some node
unfolding is_this_node
this_node_is node None e = absurd (cc)
this_node_is node (Some n) e = let same : n ≡ node = grind arith in ap (λ (k : ℕ). Some k) same
