-- The first number that repeats an earlier one.
use Rattle.std.proofs.Common.{◌≡◌, ◌+◌, ◌<◌, ℕ, Bool, true, false, List, [], ◌∷◌, ◌++◌, length, Some, None, nat_eq, get_or, take, drop, drop-cons, suc, add-one, append_assoc, append-nil, refl, sym, subst}
use Rattle.std.proofs.lemmas.List.{take_more}
use Rattle.std.specs.Cmp.{nat_eq_equiv}
use Rattle.std.specs.List.{IsDistinct, list_any}
use Rattle.std.specs.Prelude.{◌==◌, if◌then◌else◌}
use Rattle.std.proofs.lemmas.Map.Keys.{IsDistinct-push}
use Rattle.ct_values.specs.Members.{repeat, repeat_after}

-- a number that is new is passed over
new_number : (before rest : List ℕ) (n : ℕ) → list_any (λ m. n == m) before ≡ false → repeat_after before (n ∷ rest) ≡ repeat_after (before ++ n ∷ []) rest
new_number before rest n e = rw e refl

pub repeat_more : (ns : List ℕ) (i d : ℕ) → i < length ns → list_any (λ m. get_or ns i d == m) (take i ns) ≡ false → repeat_after (take (i + 1) ns) (drop (i + 1) ns) ≡ repeat_after (take i ns) (drop i ns)
repeat_more ns i d h e = rw (take_more ns i d h) (rw (drop-cons ns i d h) (rw (new_number (take i ns) (drop (suc i) ns) (get_or ns i d) e) (rw (add-one i) refl)))

distinct : (before ns : List ℕ) → IsDistinct nat_eq before → repeat_after before ns ≡ None → IsDistinct nat_eq (before ++ ns)
distinct before [] d h = subst (IsDistinct nat_eq) (sym (append-nil before)) d
distinct before (n ∷ ns) d h = by (list_any (λ m. n == m) before) refl h (distinct (before ++ n ∷ []) ns)
  where
    by : (b : Bool) → list_any (λ m. n == m) before ≡ b → (if b then Some n else repeat_after (before ++ n ∷ []) ns) ≡ None → (IsDistinct nat_eq (before ++ n ∷ []) → repeat_after (before ++ n ∷ []) ns ≡ None → IsDistinct nat_eq ((before ++ n ∷ []) ++ ns)) → IsDistinct nat_eq (before ++ n ∷ ns)
    by true e h more = absurd (cc)
    by false e h more = subst (IsDistinct nat_eq) (append_assoc before (n ∷ []) ns) (more (IsDistinct-push nat_eq_equiv before n d e) h)

-- where no number repeats an earlier one, all differ
pub all_differ : (ns : List ℕ) → repeat ns ≡ None → IsDistinct nat_eq ns
unfolding IsDistinct
all_differ ns h = distinct [] ns tt h
