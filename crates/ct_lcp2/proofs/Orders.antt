-- The item that is picked comes before no other.
use Rattle.std.proofs.Common.{◌≡◌, ℕ, Bool, true, false, nat_lt, ◌&&◌, List, [], ◌∷◌, Some, refl, sym, ap, ◌∙◌, subst, arith}
use Rattle.std.specs.Prelude.{if◌then◌else◌, ◌||◌, ◌==◌, Contains}
use Rattle.std.specs.Cmp.{IsStrictWeakOrder}
use Rattle.std.specs.List.{AllByRecursion}
use Rattle.std.specs.Ordering.{nat_cmp, is_lt}
use Rattle.std.proofs.lemmas.Bool.Decides.{nat_tests}
use Rattle.std.proofs.lemmas.List.Elements.{Contains-append_left, Contains-append_right, Contains-push}
use Rattle.ct_values.specs.Address.{address_before, same_address}
use Rattle.ct_values.specs.declared.address.Address.{Address}
use Rattle.ct_values.specs.declared.address.Address.TheVariants.{V4, V6}
use Rattle.ct_lcp2.specs.Best.{best_from, best}
use Rattle.ct_lcp2.specs.Placing.{choice_before, source_before}
use Rattle.ct_lcp2.proofs.Choices.{all_weaken, holds_of}

-- ---- orders

-- first by one number, and then by another order
lex_one_way : (s t : ℕ) (p q : Bool) → (p ≡ true → q ≡ false) → (nat_lt s t || (s == t && p)) ≡ true → (nat_lt t s || (t == s && q)) ≡ false
lex_one_way s t true q f h = let e : q ≡ false = f refl in grind arith
lex_one_way s t false q f h = grind arith

lex_chain : (s t u : ℕ) (p q r : Bool) → (p ≡ false → q ≡ false → r ≡ false) → (nat_lt s t || (s == t && p)) ≡ false → (nat_lt t u || (t == u && q)) ≡ false → (nat_lt s u || (s == u && r)) ≡ false
lex_chain s t u false false r f h k = let e : r ≡ false = f refl refl in grind arith
lex_chain s t u true q r f h k = grind arith
lex_chain s t u false true r f h k = grind arith

lexicographic : {X : Type 0} (key : X → ℕ) (inner : X → X → Bool) → IsStrictWeakOrder inner → IsStrictWeakOrder (λ x y. nat_lt (key x) (key y) || (key x == key y && inner x y))
lexicographic key inner o = record {
  one_way = λ x y h. lex_one_way (key x) (key y) (inner x y) (inner y x) (o.one_way x y) h;
  chain = λ x y z h k. lex_chain (key x) (key y) (key z) (inner x y) (inner y z) (inner x z) (o.chain x y z) h k;
}

-- the same order in other words
same_order : {X : Type 0} (f g : X → X → Bool) → ((x y : X) → f x y ≡ g x y) → IsStrictWeakOrder f → IsStrictWeakOrder g
same_order f g e o = record {
  one_way = λ x y h. sym (e y x) ∙ o.one_way x y (e x y ∙ h);
  chain = λ x y z h k. sym (e x z) ∙ o.chain x y z (e x y ∙ h) (e y z ∙ k);
}

number_one_way : (m n : ℕ) → nat_lt m n ≡ true → nat_lt n m ≡ false
number_one_way m n h = grind arith

number_chain : (m n p : ℕ) → nat_lt m n ≡ false → nat_lt n p ≡ false → nat_lt m p ≡ false
number_chain m n p h k = grind arith

by_number : {X : Type 0} (key : X → ℕ) → IsStrictWeakOrder (λ x y. nat_lt (key x) (key y))
by_number key = record {
  one_way = λ x y h. number_one_way (key x) (key y) h;
  chain = λ x y z h k. number_chain (key x) (key y) (key z) h k;
}

abbrev family : Address → ℕ
family (V4 n) = 0
family (V6 n) = 1

abbrev number : Address → ℕ
number (V4 n) = n
number (V6 n) = n

is_lt_number : (m n : ℕ) → is_lt (nat_cmp m n) ≡ nat_lt m n
is_lt_number m n = grind (arith, nat_tests)

address_keys : (a b : Address) (t : Bool) → (nat_lt (family a) (family b) || (family a == family b && (nat_lt (number a) (number b) || (number a == number b && t)))) ≡ (address_before a b || (same_address a b && t))
address_keys (V4 a) (V4 b) t = ap (λ s. s || (a == b && t)) (sym (is_lt_number a b))
address_keys (V6 a) (V6 b) t = ap (λ s. s || (a == b && t)) (sym (is_lt_number a b))
address_keys (V4 a) (V6 b) t = refl
address_keys (V6 a) (V4 b) t = refl

pub choices_ordered : IsStrictWeakOrder choice_before
choices_ordered =
    same_order (λ c d. nat_lt c.sum d.sum || (c.sum == d.sum && (nat_lt (family c.address) (family d.address) || (family c.address == family d.address && (nat_lt (number c.address) (number d.address) || (number c.address == number d.address && nat_lt c.node d.node))))))
    choice_before (λ c d. ap (λ s. nat_lt c.sum d.sum || (c.sum == d.sum && s)) (address_keys c.address d.address (nat_lt c.node d.node)))
    (lexicographic (λ c. c.sum) (λ c d. nat_lt (family c.address) (family d.address) || (family c.address == family d.address && (nat_lt (number c.address) (number d.address) || (number c.address == number d.address && nat_lt c.node d.node))))
    (lexicographic (λ c. family c.address) (λ c d. nat_lt (number c.address) (number d.address) || (number c.address == number d.address && nat_lt c.node d.node))
    (lexicographic (λ c. number c.address) (λ c d. nat_lt c.node d.node) (by_number (λ c. c.node)))))

source_one_way : (s t m n : ℕ) → (nat_lt t s || (s == t && nat_lt m n)) ≡ true → (nat_lt s t || (t == s && nat_lt n m)) ≡ false
source_one_way s t m n h = grind arith

source_chain : (s t u m n p : ℕ) → (nat_lt t s || (s == t && nat_lt m n)) ≡ false → (nat_lt u t || (t == u && nat_lt n p)) ≡ false → (nat_lt u s || (s == u && nat_lt m p)) ≡ false
source_chain s t u m n p h k = grind arith

pub sources_ordered : IsStrictWeakOrder source_before
sources_ordered = record {
  one_way = λ x y h. source_one_way x.imbalance y.imbalance x.node y.node h;
  chain = λ x y z h k. source_chain x.imbalance y.imbalance z.imbalance x.node y.node z.node h k;
}

-- ---- the item that is picked

module _ {X : Type 0} where
  not_itself : (before : X → X → Bool) → IsStrictWeakOrder before → (x : X) → before x x ≡ false
  not_itself before o x = by (before x x) refl
    where
      by : (t : Bool) → before x x ≡ t → before x x ≡ false
      by true e = o.one_way x x e
      by false e = e

  one_value : (b r : X) → Some b ≡ Some r → b ≡ r
  one_value b r e = cc

  none_before : (before : X → X → Bool) → IsStrictWeakOrder before → (b : X) (xs : List X) (r : X) → best_from before (Some b) xs ≡ Some r → (before b r ≡ false) × AllByRecursion (λ d. before d r ≡ false) xs
  unfolding best_from
  none_before before o b [] r e = (subst (λ x. before b x ≡ false) (one_value b r e) (not_itself before o b), tt)
  none_before before o b (x ∷ xs) r e = by (before x b) refl (λ c h. none_before before o c xs r h) e
    where
      by : (t : Bool) → before x b ≡ t → ((c : X) → best_from before (Some c) xs ≡ Some r → (before c r ≡ false) × AllByRecursion (λ d. before d r ≡ false) xs)
          → best_from before (if t then Some x else Some b) xs ≡ Some r → (before b r ≡ false) × ((before x r ≡ false) × AllByRecursion (λ d. before d r ≡ false) xs)
      by true k more h = let m = more x h in (o.chain b x r (o.one_way x b k) m.0, (m.0, m.1))
      by false k more h = let m = more b h in (m.0, (o.chain x b r k m.0, m.1))

  all_contained : (xs : List X) → AllByRecursion (Contains xs) xs
  all_contained [] = tt
  all_contained (x ∷ xs) =
      (Contains-append_left (x ∷ []) xs x (Contains-push [] x), all_weaken (Contains xs) (Contains (x ∷ xs)) (λ y h. Contains-append_right (x ∷ []) xs y h) xs (all_contained xs))

  -- it is one of the list, and none of the list comes before it
  pub best_is_first : (before : X → X → Bool) → IsStrictWeakOrder before → (xs : List X) (r : X) → best before xs ≡ Some r → Contains xs r × AllByRecursion (λ d. before d r ≡ false) xs
  unfolding best_from
  best_is_first before o [] r e = absurd (cc)
  best_is_first before o (x ∷ xs) r e = (holds_of (Contains (x ∷ xs)) before (x ∷ xs) r (all_contained (x ∷ xs)) e, none_before before o x xs r e)
