-- The order of addresses: derived, total, and with ties at the same address alone.
use Rattle.std.proofs.Common.{◌≡◌, ◌+◌, ℕ, true, false, List, get_or, sym, subst, ap, refl, arith}
use mathlib.Core.Path.{fun_ext}
use Rattle.std.specs.List.{IsDistinct}
use Rattle.std.specs.List.Sorted.{IsSorted, IsStrictlySortedBy, IsPermutation}
use Rattle.std.specs.Cmp.{IsTotalOrder, IsEquivalence}
use Rattle.std.specs.Ordering.{nat_cmp, is_lt, eq_by_cmp}
use Rattle.std.specs.declared.cmp.Ordering.{Ordering}
use Rattle.std.specs.declared.cmp.Ordering.TheVariants.{Less}
use Rattle.std.proofs.lemmas.Bool.Decides.{nat_tests}
use Rattle.std.specs.Prelude.{◌==◌}
use Rattle.std.proofs.lemmas.Cmp.{eq_by_cmp_equiv}
use Rattle.std.proofs.lemmas.Map.Keys.{sorted_from_all_adjacent, apart_from_distinct, IsDistinct-IsPermutation}
use Rattle.ct_values.specs.declared.address.Address.{Address}
use Rattle.ct_values.specs.declared.address.Address.TheVariants.{V4, V6}
use Rattle.ct_values.specs.contracts.address.AddressOrd.TheImpl as derived
use Rattle.ct_values.specs.contracts.address.AddressOrd.TheImpl.Laws as laws
use Rattle.ct_values.specs.Address.{address_cmp, same_address}

derived_cmp : (a b : Address) → (derived.ghosts).cmp a b ≡ address_cmp a b
derived_cmp (V4 a) (V4 b) = refl
derived_cmp (V4 a) (V6 b) = refl
derived_cmp (V6 a) (V4 b) = refl
derived_cmp (V6 a) (V6 b) = refl

pub derived_is : (derived.ghosts).cmp ≡ address_cmp
derived_is = fun_ext (λ a. fun_ext (derived_cmp a))

pub address_total : IsTotalOrder address_cmp
address_total = subst IsTotalOrder derived_is laws.total-law

ties : (a b : ℕ) → (a == b) ≡ eq_by_cmp nat_cmp a b
ties a b = grind (arith, nat_tests)

number_rises : (a b : ℕ) → is_lt (nat_cmp b a) ≡ false → (a == b) ≡ false → nat_cmp a b ≡ Less
number_rises a b l e = grind (arith, nat_tests)

same_is_tie : (a b : Address) → eq_by_cmp address_cmp a b ≡ same_address a b
same_is_tie (V4 a) (V4 b) = sym (ties a b)
same_is_tie (V4 a) (V6 b) = refl
same_is_tie (V6 a) (V4 b) = refl
same_is_tie (V6 a) (V6 b) = sym (ties a b)

pub same_equiv : IsEquivalence same_address
same_equiv = let e : eq_by_cmp address_cmp ≡ same_address = fun_ext (λ a. fun_ext (same_is_tie a)) in subst IsEquivalence e (eq_by_cmp_equiv address_total)

rises : (a b : Address) → is_lt (address_cmp b a) ≡ false → same_address a b ≡ false → address_cmp a b ≡ Less
rises (V4 a) (V4 b) l e = number_rises a b l e
rises (V4 a) (V6 b) l e = refl
rises (V6 a) (V4 b) l e = absurd (let h : true ≡ false = l in cc)
rises (V6 a) (V6 b) l e = number_rises a b l e

pub ascending : (xs : List Address) → IsSorted address_cmp xs → IsDistinct same_address xs → IsStrictlySortedBy address_cmp xs
ascending xs s d = sorted_from_all_adjacent address_total xs (V4 0) (λ k l. rises (get_or xs k (V4 0)) (get_or xs (k + 1) (V4 0)) (s k (V4 0) (omega arith) l) (apart_from_distinct same_address xs k (k + 1) (V4 0) d (omega arith) l))

pub sorted_ascend : (xs ys : List Address) → IsPermutation xs ys → IsSorted (derived.ghosts).cmp ys → IsDistinct same_address xs → IsStrictlySortedBy address_cmp ys
sorted_ascend xs ys p s d =
    let P : (Address → Address → Ordering) → Type 0 = λ c. IsSorted c ys in
    ascending ys (subst P derived_is s) (IsDistinct-IsPermutation same_address same_equiv.symm xs ys p d)

-- ---- the same address

same_number : (m n : ℕ) → (m == n) ≡ true → m ≡ n
same_number m n e = grind arith

pub address_is : (a b : Address) → same_address a b ≡ true → a ≡ b
address_is (V4 m) (V4 n) e = ap V4 (same_number m n e)
address_is (V6 m) (V6 n) e = ap V6 (same_number m n e)
address_is (V4 m) (V6 n) e = absurd (cc)
address_is (V6 m) (V4 n) e = absurd (cc)

number_itself : (n : ℕ) → (n == n) ≡ true
number_itself n = grind arith

pub same_itself : (a : Address) → same_address a a ≡ true
same_itself (V4 n) = number_itself n
same_itself (V6 n) = number_itself n

number_flips : (m n : ℕ) → (m == n) ≡ (n == m)
number_flips m n = grind arith

pub same_flips : (a b : Address) → same_address a b ≡ same_address b a
same_flips (V4 m) (V4 n) = number_flips m n
same_flips (V6 m) (V6 n) = number_flips m n
same_flips (V4 m) (V6 n) = refl
same_flips (V6 m) (V4 n) = refl

number_differs : (m n : ℕ) → nat_cmp m n ≡ Less → (m == n) ≡ false
number_differs m n e = grind (arith, nat_tests)

pub less_differs : (a b : Address) → address_cmp a b ≡ Less → same_address a b ≡ false
less_differs (V4 m) (V4 n) e = number_differs m n e
less_differs (V6 m) (V6 n) e = number_differs m n e
less_differs (V4 m) (V6 n) e = refl
less_differs (V6 m) (V4 n) e = refl
