-- The items of the greatest base, pull by pull, against the best of all items of that base.
use Rattle.std.proofs.Common.{subst, ◌≡◌, ◌<◌, ◌≤◌, ℕ, Bool, true, false, nat_lt, ◌==◌, List, [], ◌∷◌, ◌++◌, Option, Some, None, length, get_or, true≢false, refl, sym, ◌∙◌, ap, arith}
use Rattle.std.specs.Prelude.{if◌then◌else◌}
use Rattle.std.specs.declared.cmp.Ordering.{Ordering}
use Rattle.std.specs.declared.cmp.Ordering.TheVariants.{Equal}
use Rattle.std.specs.Cmp.{IsTotalOrder}
use Rattle.std.specs.List.{filter, find}
use Rattle.std.specs.List.Sorted.{IsStrictlySortedBy}
use Rattle.std.proofs.lemmas.List.Elements.{filter-append}
use Rattle.std.proofs.lemmas.List.Folds.{list_all_at}
use Rattle.std.proofs.lemmas.Bool.{and_parts}
use Rattle.ct_frame.specs.declared.round.Pull.{Pull}
use Rattle.ct_merge.specs.Placing.{better_of, best_from, all_inserted}
use Rattle.ct_merge.specs.Gathered.{greater, joined}
use Rattle.ct_merge.specs.Held.{is_in_order}
use Rattle.ct_merge.specs.Rule.{are_in_order, greatest, told}
use Rattle.ct_merge.proofs.Ordered.{joined_ascends}
use Rattle.ct_merge.proofs.Places.{find_all_inserted, find_alone}

-- the greatest base after more pulls
abbrev pub based : (Pull → ℕ) → List Pull → ℕ → ℕ
based base [] b = b
based base (pull ∷ pulls) b = based base pulls (greater b (base pull))

-- the items of a base with those of more pulls, one after the other
abbrev pub all_joined : {X : Type 0} → (X → X → Ordering) → (X → X → Ordering) → (Pull → ℕ) → (Pull → List X) → List Pull → ℕ → List X → List X
all_joined order rank base held [] b items = items
all_joined order rank base held (pull ∷ pulls) b items = all_joined order rank base held pulls (greater b (base pull)) (joined order rank b items (base pull) (held pull))

greater_is : (a b : ℕ) → (a < b → greater a b ≡ b) × (b ≤ a → greater a b ≡ a)
greater_is a b = (λ h. grind arith, λ h. grind arith)

greater_assoc : (a b c : ℕ) → greater (greater a b) c ≡ greater a (greater b c)
greater_assoc a b c = grind arith

greater_zero : (a : ℕ) → greater a 0 ≡ a
greater_zero a = grind arith

greater_le : (a c p : ℕ) → p ≡ greater a c → a ≤ p
greater_le a c p e = grind arith

chosen : (lt : Bool) (b n p : ℕ) → ((if lt then n else b) == p) ≡ (if lt then n == p else b == p)
chosen true b n p = refl
chosen false b n p = refl

below_not : (b n p : ℕ) → greater b n ≤ p → nat_lt b n ≡ true → (b == p) ≡ true → ⊥
below_not b n p le q r = grind arith

above_not : (b n p : ℕ) → greater b n ≤ p → nat_lt b n ≡ false → nat_lt n b ≡ true → (n == p) ≡ true → ⊥
above_not b n p le q r s = grind arith

level : (b n p : ℕ) → nat_lt b n ≡ false → nat_lt n b ≡ false → (b == p) ≡ (n == p)
level b n p q r = ap (λ m. m == p) (same b n q r)
  where
    same : (b n : ℕ) → nat_lt b n ≡ false → nat_lt n b ≡ false → b ≡ n
    same b n q r = grind arith

itself : (b p : ℕ) → p ≡ b → (b == p) ≡ true
itself b p e = grind arith

-- it is the greatest of all
pub based_is : (base : Pull → ℕ) (pulls : List Pull) (b : ℕ) → based base pulls b ≡ greater b (greatest base pulls)
based_is base [] b = sym (greater_zero b)
based_is base (pull ∷ pulls) b = based_is base pulls (greater b (base pull)) ∙ greater_assoc b (base pull) (greatest base pulls)

module _ {X : Type 0} (order rank : X → X → Ordering) (o : IsTotalOrder order) (base : Pull → ℕ) (held : Pull → List X) (holds : (pull : Pull) → is_in_order pull ≡ true → IsStrictlySortedBy order (held pull)) where
  pub all_joined_ascends : (pulls : List Pull) (b : ℕ) (items : List X) → are_in_order pulls ≡ true → IsStrictlySortedBy order items → IsStrictlySortedBy order (all_joined order rank base held pulls b items)
  all_joined_ascends [] b items k h = h
  all_joined_ascends (pull ∷ pulls) b items k h =
      all_joined_ascends pulls (greater b (base pull)) (joined order rank b items (base pull) (held pull)) (and_parts _ _ k).1 (joined_ascends order rank o b items (base pull) (held pull) h (holds pull (and_parts _ _ k).0))

  module _ (at : X → Bool) (alike : (x y : X) → order x y ≡ Equal → at x ≡ at y) (one : (x y : X) → at x ≡ true → at y ≡ true → order x y ≡ Equal) where
    best_append : (so_far : Option X) (xs ys : List X) → best_from rank so_far (xs ++ ys) ≡ best_from rank (best_from rank so_far xs) ys
    best_append so_far [] ys = refl
    best_append so_far (x ∷ xs) ys = best_append (Some (better_of rank x so_far)) xs ys

    -- one more pull: `lt` and `gt` are how the base so far stands to its base, `eqb` and `eqn` whether each of them is the greatest
    step_by : (items more rest : List X) → IsStrictlySortedBy order items → IsStrictlySortedBy order more → (lt gt eqb eqn : Bool) → (lt ≡ true → eqb ≡ true → ⊥) → (lt ≡ false → gt ≡ true → eqn ≡ true → ⊥) → (lt ≡ false → gt ≡ false → eqb ≡ eqn)
        → best_from rank (if if lt then eqn else eqb then find at (if lt then more else if gt then items else all_inserted order rank more items) else None) rest
        ≡ best_from rank (if eqb then find at items else None) (if eqn then filter at more ++ rest else rest)
    step_by items more rest h k true gt true eqn c1 c2 c3 = absurd (c1 refl refl)
    step_by items more rest h k true gt false true c1 c2 c3 = ap (λ f. best_from rank f rest) (find_alone order rank o at alike one more k) ∙ sym (best_append None (filter at more) rest)
    step_by items more rest h k true gt false false c1 c2 c3 = refl
    step_by items more rest h k false true eqb true c1 c2 c3 = absurd (c2 refl refl refl)
    step_by items more rest h k false true eqb false c1 c2 c3 = refl
    step_by items more rest h k false false true true c1 c2 c3 = ap (λ f. best_from rank f rest) (find_all_inserted order rank o at alike one more items h) ∙ sym (best_append (find at items) (filter at more) rest)
    step_by items more rest h k false false false false c1 c2 c3 = refl
    step_by items more rest h k false false true false c1 c2 c3 = absurd (true≢false (c3 refl refl))
    step_by items more rest h k false false false true c1 c2 c3 = absurd (true≢false (sym (c3 refl refl)))

    step : (p b n : ℕ) (items more rest : List X) → IsStrictlySortedBy order items → IsStrictlySortedBy order more → greater b n ≤ p
        → best_from rank (if greater b n == p then find at (joined order rank b items n more) else None) rest
        ≡ best_from rank (if b == p then find at items else None) (if n == p then filter at more ++ rest else rest)
    step p b n items more rest h k le =
        ap (λ t. best_from rank (if t then find at (joined order rank b items n more) else None) rest) (chosen (nat_lt b n) b n p)
        ∙ step_by items more rest h k (nat_lt b n) (nat_lt n b) (b == p) (n == p) (λ q r. below_not b n p le q r) (λ q r s. above_not b n p le q r s) (λ q r. level b n p q r)

    filter_told : (pull : Pull) (pulls : List Pull) (p : ℕ) → filter at (told base held p (pull ∷ pulls)) ≡ (if base pull == p then filter at (held pull) ++ filter at (told base held p pulls) else filter at (told base held p pulls))
    filter_told pull pulls p =
        elim (base pull == p) as (λ b. filter at (if b then held pull ++ told base held p pulls else told base held p pulls) ≡ (if b then filter at (held pull) ++ filter at (told base held p pulls) else filter at (told base held p pulls))) [
          | true ↦ filter-append at (held pull) (told base held p pulls)
          | false ↦ refl
        ]

    pub find_all_joined : (pulls : List Pull) (b : ℕ) (items : List X) → are_in_order pulls ≡ true → IsStrictlySortedBy order items → (p : ℕ) → p ≡ based base pulls b
        → find at (all_joined order rank base held pulls b items) ≡ best_from rank (if b == p then find at items else None) (filter at (told base held p pulls))
    find_all_joined [] b items k h p e = ap (λ t. if t then find at items else None) (sym (itself b p e))
    find_all_joined (pull ∷ pulls) b items k h p e =
        find_all_joined pulls (greater b (base pull)) (joined order rank b items (base pull) (held pull)) (and_parts _ _ k).1 (joined_ascends order rank o b items (base pull) (held pull) h (holds pull (and_parts _ _ k).0)) p e
        ∙ step p b (base pull) items (held pull) (filter at (told base held p pulls)) h (holds pull (and_parts _ _ k).0) (greater_le (greater b (base pull)) (greatest base pulls) p (e ∙ based_is base pulls (greater b (base pull))))
        ∙ ap (λ l. best_from rank (if b == p then find at items else None) l) (sym (filter_told pull pulls p))

-- each of some pulls in order is in order
pub each_in_order : (pulls : List Pull) (i : ℕ) (pull : Pull) → i < length pulls → pull ≡ get_or pulls i pull → are_in_order pulls ≡ true → is_in_order pull ≡ true
each_in_order pulls i pull l at h =
    subst (λ p. is_in_order p ≡ true) (sym at)
    (elim (is_in_order (get_or pulls i pull)) as (λ b. is_in_order (get_or pulls i pull) ≡ b → b ≡ true) [
      | true ↦ λ e. refl
      | false ↦ λ e. absurd (true≢false (sym h ∙ list_all_at is_in_order pulls i pull l e))
    ] refl)
