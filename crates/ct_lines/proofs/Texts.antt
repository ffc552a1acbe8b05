-- The bytes that no word of a line has.
use Rattle.std.proofs.Common.{◌≡◌, ◌≢◌, ℕ, ◌+◌, ◌*◌, ◌/◌, ◌%◌, ◌^◌, ◌<◌, ◌≤◌, ◌⊎◌, inl, inr, Bool, true, false, cond, eqb, List, [], ◌∷◌, ◌++◌, length, map, codes, Option, Some, None, refl, ap, sym, ◌∙◌, arith}
use Rattle.std.proofs.lemmas.Bool.{and_parts, cond_both, false≢true, ne_eqb, eq-eqb, false_from_ne_true}
use Rattle.std.proofs.lemmas.List.Elements.{All-head, All-tail, All-nil, All-cons, All-append, All-weaker}
use Rattle.std.proofs.lemmas.List.Splits.{slice_split_none, slice_split_at}
use Rattle.std.proofs.NetLemmas.Alphabet.{IsDigitOrDot, IsHexOrColon, All-ipv4_text, All-hex_groups_text}
use Rattle.std.specs.Fmt.{decimal}
use Rattle.std.specs.Int.{w128, to_be_bytes}
use Rattle.std.specs.List.{All, list_all, slice_split, join_with_byte}
use Rattle.ct_values.specs.declared.address.Address.{Address}
use Rattle.ct_values.specs.declared.address.Address.TheVariants.{V4, V6}
use Rattle.ct_values.specs.Address.{octets, groups, address_text}
use Rattle.ct_values.specs.Name.{is_allowed, is_letter, is_name_byte, bad_from}
use Rattle.ct_spelling.specs.Number.{IsDigit}
use Rattle.ct_spelling.specs.Spelling.{AreBytes, IsWordByte, spelling}
use Rattle.ct_spelling.proofs.Numbers.{decimal_digits}
use Rattle.ct_spelling.proofs.Spellings.{spelling_word_bytes}
use Rattle.ct_values.proofs.Addresses.{bytes_small, groups_small, below}

-- none of these bytes is c
abbrev pub IsFree : ℕ → List ℕ → Type 0
IsFree c w = All (λ b. eqb b c ≡ false) w

abbrev pub AreFree : ℕ → List (List ℕ) → Type 0
AreFree c [] = Unit {0}
AreFree c (w ∷ ws) = IsFree c w × AreFree c ws

-- words joined by c are cut into the same words
pub split_join : (c : ℕ) (w : List ℕ) (ws : List (List ℕ)) → IsFree c w → AreFree c ws → slice_split (λ b. eqb b c) (join_with_byte c (w ∷ ws)) ≡ w ∷ ws
split_join c w [] h k = slice_split_none (λ b. eqb b c) w h
split_join c w (v ∷ ws) h k =
    slice_split_at (λ b. eqb b c) w c (join_with_byte c (v ∷ ws)) h (eq-eqb c c refl) ∙ ap (λ (xs : List (List ℕ)). w ∷ xs) (split_join c v ws k.0 k.1)

-- a text of words that are free of c is free of it, where the byte between them is another
pub join_free : (c d : ℕ) (ws : List (List ℕ)) → eqb d c ≡ false → AreFree c ws → IsFree c (join_with_byte d ws)
join_free c d [] e h = All-nil (λ b. eqb b c ≡ false)
join_free c d (w ∷ []) e h = h.0
join_free c d (w ∷ v ∷ ws) e h =
    All-append (λ b. eqb b c ≡ false) w (d ∷ join_with_byte d (v ∷ ws)) h.0
    (All-cons (λ b. eqb b c ≡ false) d (join_with_byte d (v ∷ ws)) e (join_free c d (v ∷ ws) e h.1))

pub map_free : {X : Type 0} (c : ℕ) (P : X → Type 0) (text : X → List ℕ) → ((x : X) → P x → IsFree c (text x)) → (xs : List X) → All P xs → AreFree c (map text xs)
map_free c P text one [] h = tt
map_free c P text one (x ∷ xs) h = (one x (All-head P x xs h), map_free c P text one xs (All-tail P x xs h))

abbrev is_no_space : ℕ → Bool
is_no_space b = cond (eqb b 32) false true

no_space : (b : ℕ) → is_no_space b ≡ true → eqb b 32 ≡ false
no_space b h = false_from_ne_true (eqb b 32) (λ e. false≢true (sym (ap (λ (t : Bool). cond t false true) e) ∙ h))

-- of a word that is written out
pub written_free : (w : List ℕ) → list_all is_no_space w ≡ true → IsFree 32 w
written_free [] h = All-nil (λ b. eqb b 32 ≡ false)
written_free (b ∷ bs) h =
    let p = and_parts (is_no_space b) (list_all is_no_space bs) h in
    All-cons (λ x. eqb x 32 ≡ false) b bs (no_space b p.0) (written_free bs p.1)

pub decimal_free : (c n : ℕ) → c < 48 → n < 4611686018427387904 → IsFree c (decimal n)
decimal_free c n k h =
    All-weaker IsDigit (λ b. eqb b c ≡ false) (λ b d. ne_eqb b c (λ e. let low : 48 ≤ b = d.0 in omega arith)) (decimal n) (decimal_digits n (omega arith))

pub spelling_free : (bytes : List ℕ) → AreBytes bytes → IsFree 32 (spelling bytes)
spelling_free bytes h =
    All-weaker IsWordByte (λ b. eqb b 32 ≡ false) (λ b d. ne_eqb b 32 (λ e. let low : 33 ≤ b = d.0 in omega arith)) (spelling bytes) (spelling_word_bytes bytes h)

pub spelling_apart : (bytes : List ℕ) → AreBytes bytes → IsFree 61 (spelling bytes)
spelling_apart bytes h = All-weaker IsWordByte (λ b. eqb b 61 ≡ false) (λ b d. ne_eqb b 61 d.2) (spelling bytes) (spelling_word_bytes bytes h)

allowed_no_space : (i b : ℕ) → is_allowed i b ≡ true → eqb b 32 ≡ false
allowed_no_space i b h =
    ne_eqb b 32 (λ e.
    let no : is_allowed i 32 ≡ false = cond_both (eqb i 0) (is_letter 32) (is_name_byte 32) (λ (t : Bool). t ≡ false) (λ _. refl) (λ _. refl) in
    false≢true (sym no ∙ ap (is_allowed i) (sym e) ∙ h))

allowed_first : (t : Bool) (o : Option ℕ) (i : ℕ) → cond t o (Some i) ≡ None → (t ≡ true) × (o ≡ None)
allowed_first true o i h = (refl, h)
allowed_first false o i h = cc

pub name_free : (i : ℕ) (bs : List ℕ) → bad_from i bs ≡ None → IsFree 32 bs
name_free i [] h = All-nil (λ b. eqb b 32 ≡ false)
name_free i (b ∷ bs) h =
    let p = allowed_first (is_allowed i b) (bad_from (i + 1) bs) i h in
    All-cons (λ x. eqb x 32 ≡ false) b bs (allowed_no_space i b p.0) (name_free (i + 1) bs p.1)

-- ---- the text of an address

no_space_in_v4 : (b : ℕ) → IsDigitOrDot b → b ≢ 32
no_space_in_v4 b (inl p) e = let low : 48 ≤ b = p.0 in omega arith
no_space_in_v4 b (inr p) e = omega arith

no_space_in_v6 : (b : ℕ) → IsHexOrColon b → b ≢ 32
no_space_in_v6 b (inl p) e = let low : 48 ≤ b = p.0 in omega arith
no_space_in_v6 b (inr p) e = let low : 97 ≤ b = p.0 in omega arith

pub address_free : (a : Address) → IsFree 32 (address_text a)
unfolding octets groups
address_free (V4 n) =
    All-weaker IsDigitOrDot (λ b. eqb b 32 ≡ false) (λ b d. ne_eqb b 32 (no_space_in_v4 b d)) (address_text (V4 n))
    (All-ipv4_text (octets n) (below (2 ^ 8) (octets n) (omega arith) (bytes_small 4 n)))
address_free (V6 n) =
    All-weaker IsHexOrColon (λ b. eqb b 32 ≡ false) (λ b d. ne_eqb b 32 (no_space_in_v6 b d)) (address_text (V6 n))
    (All-hex_groups_text (groups n) (below (2 ^ 16) (groups n) (omega arith) (groups_small (to_be_bytes w128 n) (bytes_small 16 n))))
