-- Lists of pairs and of numbers among the words of a line.
use Rattle.std.proofs.Common.{◌≡◌, ℕ, ◌<◌, ◌≤◌, true, ltb, ◌&&◌, List, [], ◌∷◌, length, map, Option, Some, None, refl, ap, sym, ◌∙◌, subst, arith}
use Rattle.std.proofs.lemmas.Bool.{and_parts, and_from, cond-true, ltb-true, lt-ltb}
use Rattle.std.proofs.lemmas.List.Splits.{join_with_byte-slice_split}
use Rattle.std.specs.Fmt.{decimal}
use Rattle.std.specs.List.{slice_split, join_with_byte}
use Rattle.std.specs.Prelude.{nat_lt, ◌==◌}
use Rattle.ct_spelling.specs.Spelling.{spelling}
use Rattle.ct_frame.specs.Fields.{ascends, is_one_to_sixteen}
use Rattle.ct_values.specs.declared.client.Pair.{Pair}
use Rattle.ct_lines.specs.Words.{number_word, key_word, value_word, each_of, pair_from, pair_of, pair_word, pairs_of, in_order, if_in_order, numbers_of, members_word}
use Rattle.ct_lines.specs.Spelled.{pair_text, members_text, IsSmall, IsKey, IsValue, IsPair, ArePairs, AreMembers}
use Rattle.ct_lines.proofs.Each.{AreSaid, each_only, each_back, as_many}
use Rattle.ct_lines.proofs.Texts.{IsFree, AreFree, split_join, join_free, map_free, decimal_free, spelling_free, spelling_apart}
use Rattle.ct_lines.proofs.Said.{passed, some_said, key_word_only, key_word_back, value_word_only, value_word_back, small_only, small_back}

-- words that are joined are equal where each is
pub both : {x y : List ℕ} {xs ys : List (List ℕ)} → x ≡ y → xs ≡ ys → x ∷ xs ≡ y ∷ ys
both {x} {y} {xs} {ys} e f = ap (λ (w : List ℕ). w ∷ xs) e ∙ ap (λ (ws : List (List ℕ)). y ∷ ws) f

-- ---- pairs

abbrev SaysPair : List (List ℕ) → Pair → Type 0
SaysPair ws pair = IsPair pair × (ws ≡ spelling pair.key ∷ spelling pair.value ∷ [])

pair_from_only : (k v : List ℕ) (o r : Option (List ℕ)) (pair : Pair) → pair_from o r ≡ Some pair
    → ((key : List ℕ) → o ≡ Some key → IsKey key × (k ≡ spelling key))
    → ((value : List ℕ) → r ≡ Some value → IsValue value × (v ≡ spelling value))
    → SaysPair (k ∷ v ∷ []) pair
pair_from_only k v None r pair h one two = cc
pair_from_only k v (Some key) None pair h one two = cc
pair_from_only k v (Some key) (Some value) pair h one two =
    let p = one key refl in
    let q = two value refl in
    some_said (SaysPair (k ∷ v ∷ [])) (record { key = key; value = value }) pair ((p.0, q.0), both p.1 (both q.1 refl)) h

pair_of_only : (ws : List (List ℕ)) (pair : Pair) → pair_of ws ≡ Some pair → SaysPair ws pair
pair_of_only [] pair h = cc
pair_of_only (k ∷ []) pair h = cc
pair_of_only (k ∷ v ∷ []) pair h = pair_from_only k v (key_word k) (value_word v) pair h (key_word_only k) (value_word_only v)
pair_of_only (k ∷ v ∷ x ∷ more) pair h = cc

pair_word_only : (w : List ℕ) (pair : Pair) → pair_word w ≡ Some pair → IsPair pair × (w ≡ pair_text pair)
pair_word_only w pair h =
    let p = pair_of_only (slice_split (λ b. b == 61) w) pair h in
    (p.0, sym (join_with_byte-slice_split 61 w) ∙ ap (join_with_byte 61) p.1)

pair_word_back : (pair : Pair) → IsPair pair → pair_word (pair_text pair) ≡ Some pair
pair_word_back pair h =
    ap pair_of (split_join 61 (spelling pair.key) (spelling pair.value ∷ []) (spelling_apart pair.key h.0.2) (spelling_apart pair.value h.1.1, tt))
    ∙ ap (λ o. pair_from o (value_word (spelling pair.value))) (key_word_back pair.key h.0)
    ∙ ap (pair_from (Some pair.key)) (value_word_back pair.value h.1)

pub pair_free : (pair : Pair) → IsPair pair → IsFree 32 (pair_text pair)
pair_free pair h =
    join_free 32 61 (spelling pair.key ∷ spelling pair.value ∷ []) refl (spelling_free pair.key h.0.2, (spelling_free pair.value h.1.1, tt))

counted : (ws : List (List ℕ)) → 1 ≤ length ws → length ws ≤ 16 → is_one_to_sixteen ws ≡ true
counted ws l h = and_from (ltb 0 (length ws)) (ltb (length ws) 17) (lt-ltb 0 (length ws) (omega arith)) (lt-ltb (length ws) 17 (omega arith))

pub pairs_only : (ws : List (List ℕ)) (pairs : List Pair) → pairs_of ws ≡ Some pairs → ArePairs pairs × (ws ≡ map pair_text pairs)
pairs_only ws pairs h =
    let p = passed (is_one_to_sixteen ws) (each_of pair_word ws) pairs h in
    let q = and_parts (ltb 0 (length ws)) (ltb (length ws) 17) p.0 in
    let low : 0 < length ws = ltb-true 0 (length ws) q.0 in
    let high : length ws < 17 = ltb-true (length ws) 17 q.1 in
    let r = each_only pair_word IsPair pair_text pair_word_only ws pairs p.1 in
    let long : length ws ≡ length pairs = r.2 in
    ((omega arith, omega arith, r.0), r.1)

pub pairs_back : (pairs : List Pair) → ArePairs pairs → pairs_of (map pair_text pairs) ≡ Some pairs
pairs_back pairs h =
    let long : length (map pair_text pairs) ≡ length pairs = as_many pair_text pairs in
    let low : 1 ≤ length pairs = h.0 in
    let high : length pairs ≤ 16 = h.1 in
    cond-true (is_one_to_sixteen (map pair_text pairs)) (each_of pair_word (map pair_text pairs)) None (counted (map pair_text pairs) (omega arith) (omega arith))
    ∙ each_back pair_word IsPair pair_text pair_word_back pairs h.2

pub pairs_free : (pairs : List Pair) → ArePairs pairs → AreFree 32 (map pair_text pairs)
pairs_free pairs h = map_free 32 IsPair pair_text pair_free pairs h.2

-- ---- numbers that ascend

in_order_only : (o : Option (List ℕ)) (ns : List ℕ) → if_in_order o ≡ Some ns → (o ≡ Some ns) × (ascends nat_lt ns ≡ true)
in_order_only None ns h = cc
in_order_only (Some ms) ns h =
    let p = passed (ascends nat_lt ms) (Some ms) ns h in
    let same : ms ≡ ns = cc in
    (p.1, subst (λ (xs : List ℕ). ascends nat_lt xs ≡ true) same p.0)

numbers_only : (ws : List (List ℕ)) (ns : List ℕ) → numbers_of ws ≡ Some ns → AreMembers ns × (ws ≡ map decimal ns)
numbers_only ws ns h =
    let p = passed (is_one_to_sixteen ws) (if_in_order (each_of number_word ws)) ns h in
    let q = and_parts (ltb 0 (length ws)) (ltb (length ws) 17) p.0 in
    let low : 0 < length ws = ltb-true 0 (length ws) q.0 in
    let high : length ws < 17 = ltb-true (length ws) 17 q.1 in
    let s = in_order_only (each_of number_word ws) ns p.1 in
    let r = each_only number_word IsSmall decimal small_only ws ns s.0 in
    let long : length ws ≡ length ns = r.2 in
    ((omega arith, omega arith, r.0, s.1), r.1)

numbers_back : (ns : List ℕ) → AreMembers ns → numbers_of (map decimal ns) ≡ Some ns
numbers_back ns h =
    let long : length (map decimal ns) ≡ length ns = as_many decimal ns in
    let low : 1 ≤ length ns = h.0 in
    let high : length ns ≤ 16 = h.1 in
    cond-true (is_one_to_sixteen (map decimal ns)) (if_in_order (each_of number_word (map decimal ns))) None (counted (map decimal ns) (omega arith) (omega arith))
    ∙ ap if_in_order (each_back number_word IsSmall decimal small_back ns h.2)
    ∙ cond-true (ascends nat_lt ns) (Some ns) None h.3

pub members_only : (w : List ℕ) (ns : List ℕ) → members_word w ≡ Some ns → AreMembers ns × (w ≡ members_text ns)
members_only w ns h =
    let p = numbers_only (slice_split (λ b. b == 44) w) ns h in
    (p.0, sym (join_with_byte-slice_split 44 w) ∙ ap (join_with_byte 44) p.1)

small_free : (c : ℕ) → c < 48 → (n : ℕ) → IsSmall n → IsFree c (decimal n)
small_free c k n h = decimal_free c n k (omega arith)

members_split : (ns : List ℕ) → AreMembers ns → slice_split (λ b. b == 44) (members_text ns) ≡ map decimal ns
members_split [] h = let low : 1 ≤ 0 = h.0 in absurd (omega arith)
members_split (n ∷ ns) h =
    let free = map_free 44 IsSmall decimal (small_free 44 (omega arith)) (n ∷ ns) h.2 in
    split_join 44 (decimal n) (map decimal ns) free.0 free.1

pub members_back : (ns : List ℕ) → AreMembers ns → members_word (members_text ns) ≡ Some ns
members_back ns h = ap numbers_of (members_split ns h) ∙ numbers_back ns h

pub members_free : (ns : List ℕ) → AreMembers ns → IsFree 32 (members_text ns)
members_free ns h = join_free 32 44 (map decimal ns) refl (map_free 32 IsSmall decimal (small_free 32 (omega arith)) ns h.2)
