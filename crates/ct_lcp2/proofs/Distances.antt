-- Common prefixes, and sums of squared distances.
use Rattle.std.proofs.Common.{◌≡◌, ℕ, zero, suc, ◌+◌, ◌-◌, ◌*◌, ◌/◌, ◌^◌, ◌<◌, ◌≤◌, Bool, true, false, nat_eq, List, [], ◌∷◌, length, refl, sym, ap, ◌∙◌, subst, arith, Fits, w64}
use Rattle.std.specs.Prelude.{if◌then◌else◌}
use Rattle.std.specs.Int.Bits.{bit_xor, xor_self, xor_zero_r}
use Rattle.std.specs.Int.Count.{count_leading_zeros}
use lib.Bits.{xor_assoc, xor_shr}
use Rattle.std.proofs.Math.Nat as nat
use Rattle.ct_values.specs.declared.address.Address.{Address}
use Rattle.ct_values.specs.declared.address.Address.TheVariants.{V4, V6}
use Rattle.ct_lcp2.specs.Distance.{agreed, distance, AgreeIn, IsAgreed, squared, sum_to, imbalance}

-- numbers whose digits differ nowhere are one
one_number : (a b : ℕ) → bit_xor a b ≡ 0 → a ≡ b
one_number a b e = sym (xor_zero_r a) ∙ ap (bit_xor a) (sym (xor_self b)) ∙ sym (xor_assoc a b b) ∙ ap (λ x. bit_xor x b) e

one_step : (bits x : ℕ) → 0 < x → count_leading_zeros (suc bits) x ≡ count_leading_zeros bits (x / 2)
unfolding count_leading_zeros
one_step bits zero h = absurd (omega arith)
one_step bits (suc x) h = refl

all_zero : (bits x : ℕ) → x ≡ 0 → count_leading_zeros bits x ≡ bits
unfolding count_leading_zeros
all_zero zero x e = refl
all_zero (suc bits) zero e = refl
all_zero (suc bits) (suc x) e = absurd (omega arith)

none_zero : (x : ℕ) → count_leading_zeros zero x ≡ zero
unfolding count_leading_zeros
none_zero x = refl

pos : (a b : ℕ) → nat_eq a b ≡ false → 0 < bit_xor a b
pos a b e = by (bit_xor a b) refl
  where
    by : (x : ℕ) → bit_xor a b ≡ x → 0 < x
    by zero h = let same : a ≡ b = one_number a b h in absurd (grind arith)
    by (suc x) h = omega arith

-- the leading zeros of the digits that differ are the first digits that agree
pub agreed_is : (bits a b : ℕ) → count_leading_zeros bits (bit_xor a b) ≡ agreed bits a b
unfolding agreed
agreed_is zero a b = none_zero (bit_xor a b)
agreed_is (suc bits) a b = by (nat_eq a b) refl (agreed_is bits (a / 2) (b / 2))
  where
    by : (t : Bool) → nat_eq a b ≡ t → count_leading_zeros bits (bit_xor (a / 2) (b / 2)) ≡ agreed bits (a / 2) (b / 2) → count_leading_zeros (suc bits) (bit_xor a b) ≡ (if t then suc bits else agreed bits (a / 2) (b / 2))
    by true e ih = let same : b ≡ a = grind arith in all_zero (suc bits) (bit_xor a b) (ap (bit_xor a) same ∙ xor_self a)
    by false e ih = one_step bits (bit_xor a b) (pos a b e) ∙ ap (count_leading_zeros bits) (xor_shr a b 1) ∙ ih

pub agreed_within : (bits a b : ℕ) → agreed bits a b ≤ bits
unfolding agreed
agreed_within zero a b = omega arith
agreed_within (suc bits) a b = by (nat_eq a b) (agreed_within bits (a / 2) (b / 2))
  where
    by : (t : Bool) → agreed bits (a / 2) (b / 2) ≤ bits → (if t then suc bits else agreed bits (a / 2) (b / 2)) ≤ suc bits
    by true h = omega arith
    by false h = omega arith

pub agreed_symmetric : (bits a b : ℕ) → agreed bits a b ≡ agreed bits b a
unfolding agreed
agreed_symmetric zero a b = refl
agreed_symmetric (suc bits) a b = by (nat_eq a b) (nat_eq b a) (grind arith) (agreed_symmetric bits (a / 2) (b / 2))
  where
    by : (s t : Bool) → s ≡ t → agreed bits (a / 2) (b / 2) ≡ agreed bits (b / 2) (a / 2) → (if s then suc bits else agreed bits (a / 2) (b / 2)) ≡ (if t then suc bits else agreed bits (b / 2) (a / 2))
    by true true e h = refl
    by false false e h = h
    by true false e h = absurd (cc)
    by false true e h = absurd (cc)

-- one digit less of both
half_power : (d : ℕ) → 2 ^ suc d ≡ 2 * 2 ^ d
half_power d = omega (arith, nat.pow-suc 2 d)

halved : (a d : ℕ) → a / 2 ^ suc d ≡ a / 2 / 2 ^ d
halved a d = ap (λ p. a / p) (half_power d) ∙ sym (nat.div-div-eq-div-mul a 2 (2 ^ d))

one_more : (bits m : ℕ) → m ≤ bits → suc bits - m ≡ suc (bits - m)
one_more bits m h = omega arith

halves_agree : (bits m a b : ℕ) → m ≤ bits → AgreeIn (suc bits) m a b → AgreeIn bits m (a / 2) (b / 2)
halves_agree bits m a b h e = sym (whole a) ∙ e ∙ whole b
  where
    whole : (x : ℕ) → x / 2 ^ (suc bits - m) ≡ x / 2 / 2 ^ (bits - m)
    whole x = ap (λ d. x / 2 ^ d) (one_more bits m h) ∙ halved x (bits - m)

agree_wholly : (bits m a b : ℕ) → m ≤ bits → AgreeIn bits m (a / 2) (b / 2) → AgreeIn (suc bits) m a b
agree_wholly bits m a b h e = whole a ∙ e ∙ sym (whole b)
  where
    whole : (x : ℕ) → x / 2 ^ (suc bits - m) ≡ x / 2 / 2 ^ (bits - m)
    whole x = ap (λ d. x / 2 ^ d) (one_more bits m h) ∙ halved x (bits - m)

half_below : (bits a : ℕ) → a < 2 ^ suc bits → a / 2 < 2 ^ bits
half_below bits a h = let p = half_power bits in omega (arith, p, h)

pub agreed_agree : (bits a b : ℕ) → a < 2 ^ bits → b < 2 ^ bits → AgreeIn bits (agreed bits a b) a b
unfolding agreed
agreed_agree zero a b ha hb = let za : a ≡ 0 = omega arith in let zb : b ≡ 0 = omega arith in ap (λ x. x / 2 ^ (0 - 0)) (za ∙ sym zb)
agreed_agree (suc bits) a b ha hb = by (nat_eq a b) refl (agreed_agree bits (a / 2) (b / 2) (half_below bits a ha) (half_below bits b hb))
  where
    by : (t : Bool) → nat_eq a b ≡ t → AgreeIn bits (agreed bits (a / 2) (b / 2)) (a / 2) (b / 2) → AgreeIn (suc bits) (if t then suc bits else agreed bits (a / 2) (b / 2)) a b
    by true e h = let same : a ≡ b = grind arith in ap (λ x. x / 2 ^ (suc bits - suc bits)) same
    by false e h = agree_wholly bits (agreed bits (a / 2) (b / 2)) a b (agreed_within bits (a / 2) (b / 2)) h

all_bits : (bits a b : ℕ) → AgreeIn bits bits a b → a ≡ b
all_bits bits a b e = let z : bits - bits ≡ 0 = omega arith in
    let whole = λ (x : ℕ). ap (λ d. x / 2 ^ d) z ∙ nat.div-one x in sym (whole a) ∙ e ∙ whole b

pub agreed_greatest : (bits a b m : ℕ) → m ≤ bits → AgreeIn bits m a b → m ≤ agreed bits a b
unfolding agreed
agreed_greatest zero a b m h e = h
agreed_greatest (suc bits) a b m h e = by (nat_eq a b) refl (λ l. agreed_greatest bits (a / 2) (b / 2) m l (halves_agree bits m a b l e))
  where
    last : nat_eq a b ≡ false → m ≡ suc bits → ⊥
    last n i = let same : a ≡ b = all_bits (suc bits) a b (subst (λ k. AgreeIn (suc bits) k a b) i e) in absurd (grind arith)

    by : (t : Bool) → nat_eq a b ≡ t → (m ≤ bits → m ≤ agreed bits (a / 2) (b / 2)) → m ≤ (if t then suc bits else agreed bits (a / 2) (b / 2))
    by true n k = h
    by false n k = k (let l = last n in grind arith)

pub is_agreed : (bits a b : ℕ) → a < 2 ^ bits → b < 2 ^ bits → IsAgreed bits a b (agreed bits a b)
is_agreed bits a b ha hb = (agreed_within bits a b, agreed_agree bits a b ha hb, agreed_greatest bits a b)

pub distance_within : (a b : Address) → distance a b ≤ 128
distance_within (V4 a) (V4 b) = let h = agreed_within 32 a b in omega (arith, h)
distance_within (V6 a) (V6 b) = agreed_within 128 a b
distance_within (V4 a) (V6 b) = omega arith
distance_within (V6 a) (V4 b) = omega arith

distance_symmetric : (a b : Address) → distance a b ≡ distance b a
distance_symmetric (V4 a) (V4 b) = agreed_symmetric 32 a b
distance_symmetric (V6 a) (V6 b) = agreed_symmetric 128 a b
distance_symmetric (V4 a) (V6 b) = refl
distance_symmetric (V6 a) (V4 b) = refl

pub squared_symmetric : (a b : Address) → squared a b ≡ squared b a
squared_symmetric a b = ap (λ d. d * d) (distance_symmetric a b)

square_within : (d : ℕ) → d ≤ 128 → d * d ≤ 16384
square_within d h = grind arith

pub squared_within : (a b : Address) → squared a b ≤ 16384
squared_within a b = square_within (distance a b) (distance_within a b)

pub sum_within : (a : Address) (bs : List Address) → sum_to a bs ≤ 16384 * length bs
unfolding sum_to
sum_within a [] = omega arith
sum_within a (b ∷ bs) = let h = sum_within a bs in let s = square_within (distance a b) (distance_within a b) in omega (arith, h, s)

pub imbalance_within : (bs : List Address) (n : ℕ) → length bs ≤ n → imbalance bs ≤ 16384 * n * length bs
unfolding imbalance
imbalance_within [] n h = omega arith
imbalance_within (b ∷ bs) n h = let l : length bs ≤ n = omega arith in let k = imbalance_within bs n l in let s = sum_within b bs in omega (arith, k, s, l)

-- a part of an imbalance
pub part_fits : (all rest others : List Address) (a : Address) (sum new : ℕ) → length all ≤ 256 → sum + imbalance rest ≡ imbalance all → rest ≡ a ∷ others → new ≡ sum_to a others → Fits w64 (sum + new)
unfolding imbalance
part_fits all rest others a sum new few e split is =
    let bound = imbalance_within all 256 few in
    let parts : imbalance rest ≡ sum_to a others + imbalance others = ap imbalance split in
    omega (arith, bound, parts, e, is, few)
