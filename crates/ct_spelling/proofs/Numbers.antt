-- The laws of decimals.
use Rattle.std.proofs.Common.{◌≡◌, ◌≢◌, ℕ, ◌+◌, ◌-◌, ◌*◌, ◌^◌, ◌<◌, ◌≤◌, Bool, true, false, cond, ◌&&◌, ◌||◌, not, eqb, ltb, List, [], ◌∷◌, Option, Some, None, length, get_or, refl, ap, sym, ◌∙◌, subst, arith, rules, inl, inr, suc, drop, drop-cons}
use Rattle.std.proofs.lemmas.Bool.{and_parts, and_from, or_cases, or_left, or_right, cases_eq, cond-true, lt-ltb, ltb-true, eqb-true, eqb-false, ne_eqb, not-true, not_from_false, eq-eqb}
use Rattle.std.proofs.lemmas.List.Elements.{All-from_get_or}
use Rattle.std.proofs.lemmas.Fmt.{decimal-digits_value, digits_decimal, digits_value-decimal, decimal_nonempty, first_decimal, decimal_digit, decimal_is_IsNumeral}
use Rattle.std.proofs.lemmas.List.{drop_all}
use Rattle.std.proofs.lemmas.Str.Parse.{IsNumeralModel, numerals_by_fold, digit_at}
use Rattle.std.specs.List.{list_all, All}
use Rattle.std.specs.Fmt.{decimal}
use Rattle.std.specs.Option.{IfSome, IfNone}
use Rattle.ct_spelling.specs.Number.{IsDigit, is_digit, is_number, value_after, number_of}

own : IsNumeralModel (λ ds. list_all is_digit ds ≡ true) (value_after 0)
own = numerals_by_fold _ (search rules) value_after (search rules)

-- digits never make a number smaller
pub value_grows : (n : ℕ) (ds : List ℕ) → n ≤ value_after n ds
value_grows n [] = omega arith
value_grows n (d ∷ ds) = omega (arith, value_grows (10 * n + (d - 48)) ds)

pub value_front : (n i : ℕ) (ds : List ℕ) → i < length ds → 10 * n + (get_or ds i 0 - 48) ≤ value_after n (drop i ds)
value_front n i ds h =
    subst (λ (xs : List ℕ). 10 * n + (get_or ds i 0 - 48) ≤ value_after n xs) (sym (drop-cons ds i 0 h))
    (value_grows (10 * n + (get_or ds i 0 - 48)) (drop (suc i) ds))

pub value_end : (n i : ℕ) (ds : List ℕ) → length ds ≤ i → value_after n (drop i ds) ≡ n
value_end n i ds h = ap (value_after n) (drop_all i ds h)

chosen_some : (b : Bool) (x n : ℕ) → cond b (Some x) None ≡ Some n → (b ≡ true) × (x ≡ n)
chosen_some true x n h = (refl, cc)
chosen_some false x n h = cc

-- a number has no leading zero
no_zero : (word : List ℕ) → (eqb (length word) 1 || not (eqb (get_or word 0 0) 48)) ≡ true → get_or word 0 0 ≡ 48 → length word ≡ 1
no_zero word h e =
    elim (or_cases (eqb (length word) 1) (not (eqb (get_or word 0 0) 48)) h) [
      | inl p ↦ eqb-true (length word) 1 p
      | inr p ↦ absurd (eqb-false (get_or word 0 0) 48 (not-true (eqb (get_or word 0 0) 48) p) e)
    ]

pub number_only : (word : List ℕ) (n : ℕ) → number_of word ≡ Some n → (n < 2 ^ 64) × (word ≡ decimal n)
number_only word n h =
    let a = chosen_some (is_number word && ltb (value_after 0 word) (2 ^ 64)) (value_after 0 word) n h in
    let b = and_parts (is_number word) (ltb (value_after 0 word) (2 ^ 64)) a.0 in
    let c = and_parts (list_all is_digit word && ltb 0 (length word)) (eqb (length word) 1 || not (eqb (get_or word 0 0) 48)) b.0 in
    let d = and_parts (list_all is_digit word) (ltb 0 (length word)) c.0 in
    let below : value_after 0 word < 2 ^ 64 = ltb-true (value_after 0 word) (2 ^ 64) b.1 in
    let same : decimal (value_after 0 word) ≡ word = decimal-digits_value own word d.0 (ltb-true 0 (length word) d.1) (no_zero word c.1) below in
    (subst (λ (m : ℕ). m < 2 ^ 64) a.1 below, sym same ∙ ap decimal a.1)

starts_well : (n : ℕ) → n < 2 ^ 64 → (eqb (length (decimal n)) 1 || not (eqb (get_or (decimal n) 0 0) 48)) ≡ true
starts_well n h =
    elim (cases_eq n 0) [
      | inl z ↦
          let one : length (decimal n) ≡ 1 = ap length (ap decimal z ∙ decimal_digit 0 (omega arith)) in
          or_left (eqb (length (decimal n)) 1) (not (eqb (get_or (decimal n) 0 0) 48)) (eq-eqb (length (decimal n)) 1 one)
      | inr z ↦
          let pos : 0 < n = omega arith in
          let first : 48 < get_or (decimal n) 0 0 = first_decimal n pos h in
          or_right (eqb (length (decimal n)) 1) (not (eqb (get_or (decimal n) 0 0) 48))
          (not_from_false (eqb (get_or (decimal n) 0 0) 48) (ne_eqb (get_or (decimal n) 0 0) 48 (λ e. omega arith)))
    ]

pub number_back : (n : ℕ) → n < 2 ^ 64 → number_of (decimal n) ≡ Some n
number_back n h =
    let same : value_after 0 (decimal n) ≡ n = digits_value-decimal own n h in
    let below : value_after 0 (decimal n) < 2 ^ 64 = subst (λ (m : ℕ). m < 2 ^ 64) (sym same) h in
    cond-true (is_number (decimal n) && ltb (value_after 0 (decimal n)) (2 ^ 64)) (Some (value_after 0 (decimal n))) None
    (and_from (is_number (decimal n)) (ltb (value_after 0 (decimal n)) (2 ^ 64))
    (and_from (list_all is_digit (decimal n) && ltb 0 (length (decimal n))) (eqb (length (decimal n)) 1 || not (eqb (get_or (decimal n) 0 0) 48))
    (and_from (list_all is_digit (decimal n)) (ltb 0 (length (decimal n))) (digits_decimal own n h) (lt-ltb 0 (length (decimal n)) (decimal_nonempty n h)))
    (starts_well n h))
    (lt-ltb (value_after 0 (decimal n)) (2 ^ 64) below))
    ∙ ap Some same

pub decimal_digits : (n : ℕ) → n < 2 ^ 64 → All IsDigit (decimal n)
decimal_digits n h = All-from_get_or IsDigit (decimal n) 0 (λ i k. digit_at (decimal n) i (decimal_is_IsNumeral n h).0.1 k)

-- a word that is no number is no decimal
pub number_none : (word : List ℕ) → number_of word ≡ None → (n : ℕ) → n < 2 ^ 64 → decimal n ≢ word
number_none word h n k e = let here : Some n ≡ None = sym (number_back n k) ∙ ap number_of e ∙ h in cc

pub number_found : (word : List ℕ) (r : Option ℕ) → r ≡ number_of word → IfSome r (λ n. word ≡ decimal n)
number_found word None h = tt
number_found word (Some n) h = (number_only word n (sym h)).1

pub number_missing : (word : List ℕ) (r : Option ℕ) → r ≡ number_of word → IfNone r ((n : ℕ) → n < 2 ^ 64 → decimal n ≢ word)
number_missing word None h = number_none word (sym h)
number_missing word (Some n) h = tt
