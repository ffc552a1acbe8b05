-- What holds where a refusal is not there.
use Rattle.std.proofs.Common.{◌≡◌, Bool, true, false, not, List, ◌∷◌, Option, Some, None, refl}
use Rattle.ct_rules_node.specs.Refusals.{refused_if, first_of}

-- where none of these is there, neither the first nor one of the rest is
pub first_none : {X : Type 0} (x : Option X) (xs : List (Option X)) → first_of (x ∷ xs) ≡ None → (x ≡ None) × (first_of xs ≡ None)
unfolding first_of
first_none None xs e = (refl, e)
first_none (Some x) xs e = absurd (cc)

-- the condition of the refusal does not hold
pub not_refused : {X : Type 0} (b : Bool) (x : X) → refused_if b x ≡ None → b ≡ false
unfolding refused_if
not_refused true x e = absurd (cc)
not_refused false x e = refl

-- what is required, where its lack is refused, holds
pub required : {X : Type 0} (b : Bool) (x : X) → refused_if (not b) x ≡ None → b ≡ true
unfolding refused_if
required true x e = refl
required false x e = absurd (cc)
