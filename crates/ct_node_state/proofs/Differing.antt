-- Members in order are all different.
use Rattle.std.proofs.Common.{◌≡◌, ◌≢◌, ℕ, Bool, true, false, ◌||◌, List, [], ◌∷◌, ◌++◌, Option, None, Some, refl, sym, ◌∙◌, ap, arith}
use Rattle.std.specs.Prelude.{◌==◌, if◌then◌else◌}
use Rattle.std.specs.List.{AllByRecursion, list_any}
use Rattle.std.specs.List.Sorted.{IsStrictlyIncreasing, IsStrictlySortedBy}
use Rattle.std.specs.Cmp.{nat_cmp_is}
use Rattle.std.specs.Ordering.{nat_cmp}
use Rattle.std.specs.declared.cmp.Ordering.TheVariants.{Less}
use Rattle.std.proofs.lemmas.Map.Keys.{sorted_from_strictly_increasing, IsStrictlyIncreasing-from_sorted}
use Rattle.ct_values.specs.Members.{repeat, repeat_after}
use Rattle.ct_tracking.proofs.Nodes.{sorted_none}

pub none_ascend : IsStrictlyIncreasing []
none_ascend = IsStrictlyIncreasing-from_sorted [] sorted_none

-- none of these nodes is among those before
abbrev AreNew : List ℕ → List ℕ → Type 0
AreNew before ns = AllByRecursion (λ n. list_any (λ m. n == m) before ≡ false) ns

any_last : (k n : ℕ) (before : List ℕ) → list_any (λ m. k == m) before ≡ false → (k == n) ≡ false → list_any (λ m. k == m) (before ++ n ∷ []) ≡ false
any_last k n [] e f = grind arith
any_last k n (m ∷ ms) e f = grind (arith, any_last k n ms)

above : (n k : ℕ) → nat_cmp n k ≡ Less → (k == n) ≡ false
above n k e = (let l = nat_cmp_is n k Less in grind (arith, l, e))

new_behind : (n : ℕ) (before ns : List ℕ) → AreNew before ns → AllByRecursion (λ k. nat_cmp n k ≡ Less) ns → AreNew (before ++ n ∷ []) ns
new_behind n before [] h l = tt
new_behind n before (k ∷ ns) h l = (any_last k n before h.0 (above n k l.0), new_behind n before ns h.1 l.1)

no_repeat : (before ns : List ℕ) → AreNew before ns → IsStrictlySortedBy nat_cmp ns → repeat_after before ns ≡ None
unfolding IsStrictlySortedBy
no_repeat before [] h s = refl
no_repeat before (n ∷ ns) h s = ap (λ b. if b then Some n else repeat_after (before ++ n ∷ []) ns) h.0 ∙ no_repeat (before ++ n ∷ []) ns (new_behind n before ns h.1 s.0) s.1

all_new : (ns : List ℕ) → AreNew [] ns
all_new [] = tt
all_new (n ∷ ns) = (refl, all_new ns)

pub unrepeated : (ns : List ℕ) → IsStrictlyIncreasing ns → repeat ns ≡ None
unrepeated ns a = no_repeat [] ns (all_new ns) (sorted_from_strictly_increasing ns a)
