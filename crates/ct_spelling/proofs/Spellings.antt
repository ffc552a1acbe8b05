-- The laws of the spelling.
use Rattle.std.proofs.Common.{◌≡◌, ◌≢◌, ℕ, ◌+◌, ◌-◌, ◌*◌, ◌/◌, ◌%◌, ◌<◌, ◌≤◌, Bool, true, false, cond, ◌&&◌, not, eqb, ltb, leb, List, [], ◌∷◌, ◌++◌, Option, Some, None, length, refl, ap, sym, ◌∙◌, subst, arith, append_assoc, inl, inr, ◌⊎◌, if◌then◌else◌, length-append}
use Rattle.std.proofs.lemmas.Bool.{and_parts, false≢true, cond-true, cond-false, cond_both, eqb-true, eqb-false, not-true, leb-true, ne_eqb, cases_Bool, ltb-true, ltb-false, lt-ltb, le-ltb, agree_below_at, false_from_ne_true}
use Rattle.std.proofs.lemmas.List.Elements.{All-head, All-tail, All-nil, All-cons, All-append}
use Rattle.std.specs.List.{flat_map, list_all, All}
use Rattle.std.specs.Prelude.{Result, Ok, Err, IfOk, IsErrOf}
use Rattle.ct_spelling.specs.declared.spelling.SpellFault.{SpellFault}
use Rattle.ct_spelling.specs.declared.spelling.SpellFault.TheVariants.{BadSpelling, NoMemory}
use Rattle.ct_spelling.specs.Spelling.{AreBytes, IsWordByte, is_plain, hex_digit, spelled_byte, is_dash, is_spelled_dash, spelling, hex_value, plain_byte, unless_plain, two_digits, escaped_byte, with_byte, unspelled_bytes, unspelled, Unspells}

-- bytes that come after those of a front
abbrev pub behind : List ℕ → Option (List ℕ) → Option (List ℕ)
behind front None = None
behind front (Some bs) = Some (front ++ bs)

pub behind_more : (front : List ℕ) (b : ℕ) (o : Option (List ℕ)) → behind (front ++ b ∷ []) o ≡ behind front (with_byte (Some b) o)
behind_more front b None = refl
behind_more front b (Some bs) = ap Some (append_assoc front (b ∷ []) bs)

pub behind_none : (o : Option (List ℕ)) → behind [] o ≡ o
behind_none None = refl
behind_none (Some bs) = refl

pub all_plain_spelled : (bytes : List ℕ) → list_all is_plain bytes ≡ true → flat_map spelled_byte bytes ≡ bytes
all_plain_spelled [] h = refl
all_plain_spelled (b ∷ bs) h =
    let p : (is_plain b ≡ true) × (list_all is_plain bs ≡ true) = and_parts (is_plain b) (list_all is_plain bs) h in
    ap (λ t. cond t (b ∷ []) (37 ∷ hex_digit (b / 16) ∷ hex_digit (b % 16) ∷ []) ++ flat_map spelled_byte bs) p.0
    ∙ ap (λ t. b ∷ t) (all_plain_spelled bs p.1)

plain_is : (b : ℕ) → is_plain b ≡ true → plain_byte b ≡ Some b
plain_is b h = ap (λ t. cond t (Some b) None) h

no_percent : (b : ℕ) → is_plain b ≡ true → eqb b 37 ≡ false
no_percent b h = ne_eqb b 37 (λ e. false≢true (subst (λ n. is_plain n ≡ true) e h))

pub unspelled_plain : (b : ℕ) (word : List ℕ) → is_plain b ≡ true → unspelled_bytes (b ∷ word) ≡ with_byte (Some b) (unspelled_bytes word)
unspelled_plain b [] h = ap (λ o. with_byte o (Some [])) (plain_is b h)
unspelled_plain b (c ∷ []) h = ap (λ o. with_byte o (unspelled_bytes (c ∷ []))) (plain_is b h)
unspelled_plain b (c ∷ d ∷ word) h =
    cond-false (eqb b 37) _ _ (no_percent b h) ∙ ap (λ o. with_byte o (unspelled_bytes (c ∷ d ∷ word))) (plain_is b h)

pub all_plain_unspelled : (word : List ℕ) → list_all is_plain word ≡ true → unspelled_bytes word ≡ Some word
all_plain_unspelled [] h = refl
all_plain_unspelled (b ∷ bs) h =
    let p : (is_plain b ≡ true) × (list_all is_plain bs ≡ true) = and_parts (is_plain b) (list_all is_plain bs) h in
    unspelled_plain b bs p.0 ∙ ap (λ o. with_byte (Some b) o) (all_plain_unspelled bs p.1)

-- is it this number?
abbrev holds : Option ℕ → ℕ → Bool
holds None n = false
holds (Some m) n = eqb m n

holds_is : (o : Option ℕ) (n : ℕ) → holds o n ≡ true → o ≡ Some n
holds_is None n h = cc
holds_is (Some m) n h = ap Some (eqb-true m n h)

hex_back : (n : ℕ) → n < 16 → hex_value (hex_digit n) ≡ Some n
hex_back n h = holds_is (hex_value (hex_digit n)) n (agree_below_at (λ k. holds (hex_value (hex_digit k)) k) (λ _. true) 16 n refl h)

escaped_back : (b : ℕ) → b < 256 → is_plain b ≡ false → escaped_byte (hex_digit (b / 16)) (hex_digit (b % 16)) ≡ Some b
escaped_back b h p =
    let high : hex_value (hex_digit (b / 16)) ≡ Some (b / 16) = hex_back (b / 16) (omega arith) in
    let low : hex_value (hex_digit (b % 16)) ≡ Some (b % 16) = hex_back (b % 16) (omega arith) in
    let whole : 16 * (b / 16) + b % 16 ≡ b = omega arith in
    ap (λ o. two_digits o (hex_value (hex_digit (b % 16)))) high
    ∙ ap (λ o. two_digits (Some (b / 16)) o) low
    ∙ ap unless_plain whole
    ∙ ap (λ t. cond t None (Some b)) p

unspelled_one : (b : ℕ) (word : List ℕ) → b < 256 → unspelled_bytes (spelled_byte b ++ word) ≡ with_byte (Some b) (unspelled_bytes word)
unspelled_one b word h =
    elim (cases_Bool (is_plain b)) [
      | inl p ↦ ap (λ t. unspelled_bytes (cond t (b ∷ []) (37 ∷ hex_digit (b / 16) ∷ hex_digit (b % 16) ∷ []) ++ word)) p ∙ unspelled_plain b word p
      | inr p ↦ ap (λ t. unspelled_bytes (cond t (b ∷ []) (37 ∷ hex_digit (b / 16) ∷ hex_digit (b % 16) ∷ []) ++ word)) p
          ∙ ap (λ o. with_byte o (unspelled_bytes word)) (escaped_back b h p)
    ]

unspelled_all : (bytes : List ℕ) → AreBytes bytes → unspelled_bytes (flat_map spelled_byte bytes) ≡ Some bytes
unspelled_all [] h = refl
unspelled_all (b ∷ bs) h =
    unspelled_one b (flat_map spelled_byte bs) (All-head (λ x. x < 256) b bs h)
    ∙ ap (λ o. with_byte (Some b) o) (unspelled_all bs (All-tail (λ x. x < 256) b bs h))

-- which way a test went
chosen : {X : Type 0} (b : Bool) (x y z : X) → cond b x y ≡ z → ((b ≡ true) × (x ≡ z)) ⊎ ((b ≡ false) × (y ≡ z))
chosen true x y z h = inl (refl, h)
chosen false x y z h = inr (refl, h)

hex_there : (d n : ℕ) → hex_value d ≡ Some n → (n < 16) × (hex_digit n ≡ d)
hex_there d n h =
    elim (chosen (leb 48 d && leb d 57) (Some (d - 48)) (if leb 97 d && leb d 102 then Some (d - 87) else None) (Some n) h) [
      | inl p ↦
          let low : 48 ≤ d = leb-true 48 d (and_parts (leb 48 d) (leb d 57) p.0).0 in
          let high : d ≤ 57 = leb-true d 57 (and_parts (leb 48 d) (leb d 57) p.0).1 in
          let e : d - 48 ≡ n = cc in
          let small : n < 10 = omega arith in
          let back : 48 + n ≡ d = omega arith in
          (omega arith, cond-true (ltb n 10) (48 + n) (87 + n) (lt-ltb n 10 small) ∙ back)
      | inr q ↦
          elim (chosen (leb 97 d && leb d 102) (Some (d - 87)) None (Some n) q.1) [
            | inl p ↦
                let low : 97 ≤ d = leb-true 97 d (and_parts (leb 97 d) (leb d 102) p.0).0 in
                let high : d ≤ 102 = leb-true d 102 (and_parts (leb 97 d) (leb d 102) p.0).1 in
                let e : d - 87 ≡ n = cc in
                let large : 10 ≤ n = omega arith in
                let back : 87 + n ≡ d = omega arith in
                (omega arith, cond-false (ltb n 10) (48 + n) (87 + n) (le-ltb n 10 large) ∙ back)
            | inr p ↦ cc
          ]
    ]

two_digits_some : (o p : Option ℕ) (b : ℕ) → two_digits o p ≡ Some b → (h : ℕ) × (l : ℕ) × (o ≡ Some h) × (p ≡ Some l) × (is_plain b ≡ false) × (b ≡ 16 * h + l)
two_digits_some None p b e = cc
two_digits_some (Some h) None b e = cc
two_digits_some (Some h) (Some l) b e =
    elim (chosen (is_plain (16 * h + l)) None (Some (16 * h + l)) (Some b) e) [
      | inl p ↦ cc
      | inr p ↦
          let same : 16 * h + l ≡ b = cc in
          (h, l, refl, refl, subst (λ n. is_plain n ≡ false) same p.0, sym same)
    ]

escaped_there : (d e b : ℕ) → escaped_byte d e ≡ Some b → (b < 256) × (spelled_byte b ≡ 37 ∷ d ∷ e ∷ [])
escaped_there d e b h =
    let w = two_digits_some (hex_value d) (hex_value e) b h in
    let high : (w.0 < 16) × (hex_digit w.0 ≡ d) = hex_there d w.0 w.2 in
    let low : (w.1 < 16) × (hex_digit w.1 ≡ e) = hex_there e w.1 w.3 in
    let whole : b ≡ 16 * w.0 + w.1 = w.5 in
    let first : b / 16 ≡ w.0 = omega arith in
    let second : b % 16 ≡ w.1 = omega arith in (
      omega arith,
      cond-false (is_plain b) (b ∷ []) (37 ∷ hex_digit (b / 16) ∷ hex_digit (b % 16) ∷ []) w.4
          ∙ ap (λ n. 37 ∷ hex_digit n ∷ hex_digit (b % 16) ∷ []) first
          ∙ ap (λ n. 37 ∷ hex_digit w.0 ∷ hex_digit n ∷ []) second
          ∙ ap (λ n. 37 ∷ n ∷ hex_digit w.1 ∷ []) high.1
          ∙ ap (λ n. 37 ∷ d ∷ n ∷ []) low.1,
    )

plain_parts : (b : ℕ) → is_plain b ≡ true → IsWordByte b
plain_parts b h =
    let p = and_parts (leb 33 b && leb b 126 && not (eqb b 37)) (not (eqb b 61)) h in
    let q = and_parts (leb 33 b && leb b 126) (not (eqb b 37)) p.0 in
    let r = and_parts (leb 33 b) (leb b 126) q.0 in
    (leb-true 33 b r.0, leb-true b 126 r.1, eqb-false b 61 (not-true (eqb b 61) p.1))

plain_there : (a b : ℕ) → plain_byte a ≡ Some b → (b < 256) × (spelled_byte b ≡ a ∷ [])
plain_there a b h =
    elim (chosen (is_plain a) (Some a) None (Some b) h) [
      | inl p ↦
          let same : a ≡ b = cc in
          let small : b ≤ 126 = (plain_parts b (subst (λ n. is_plain n ≡ true) same p.0)).1 in (
            omega arith,
            cond-true (is_plain b) (b ∷ []) (37 ∷ hex_digit (b / 16) ∷ hex_digit (b % 16) ∷ []) (subst (λ n. is_plain n ≡ true) same p.0)
                ∙ ap (λ n. n ∷ []) (sym same),
          )
      | inr p ↦ cc
    ]

-- these bytes have this word as their spelling, byte by byte
abbrev Spells : List ℕ → List ℕ → Type 0
Spells word bytes = AreBytes bytes × (flat_map spelled_byte bytes ≡ word)

spells_nothing : (bytes : List ℕ) → Some [] ≡ Some bytes → Spells [] bytes
spells_nothing [] h = (All-nil (λ x. x < 256), refl)
spells_nothing (b ∷ bs) h = cc

spells_more : (o : Option ℕ) (r : Option (List ℕ)) (bytes front word : List ℕ) → with_byte o r ≡ Some bytes
    → ((b : ℕ) → o ≡ Some b → (b < 256) × (spelled_byte b ≡ front))
    → ((bs : List ℕ) → r ≡ Some bs → Spells word bs)
    → Spells (front ++ word) bytes
spells_more None r bytes front word h one more = cc
spells_more (Some b) None bytes front word h one more = cc
spells_more (Some b) (Some bs) bytes front word h one more =
    let same : b ∷ bs ≡ bytes = cc in
    let first = one b refl in
    let rest = more bs refl in
    subst (λ (xs : List ℕ). Spells (front ++ word) xs) same (
      All-cons (λ x. x < 256) b bs first.0 rest.0,
      ap (λ t. t ++ flat_map spelled_byte bs) first.1 ∙ ap (λ t. front ++ t) rest.1,
    )

spells_back : (word bytes : List ℕ) → unspelled_bytes word ≡ Some bytes → Spells word bytes
spells_back [] bytes h = spells_nothing bytes h
spells_back (a ∷ []) bytes h = spells_more (plain_byte a) (Some []) bytes (a ∷ []) [] h (plain_there a) spells_nothing
spells_back (a ∷ b ∷ []) bytes h =
    spells_more (plain_byte a) (unspelled_bytes (b ∷ [])) bytes (a ∷ []) (b ∷ []) h (plain_there a) (λ bs e. spells_back (b ∷ []) bs e)
spells_back (a ∷ b ∷ c ∷ word) bytes h =
    elim (chosen (eqb a 37) (with_byte (escaped_byte b c) (unspelled_bytes word)) (with_byte (plain_byte a) (unspelled_bytes (b ∷ c ∷ word))) (Some bytes) h) [
      | inl p ↦
          subst (λ (x : ℕ). Spells (x ∷ b ∷ c ∷ word) bytes) (sym (eqb-true a 37 p.0))
          (spells_more (escaped_byte b c) (unspelled_bytes word) bytes (37 ∷ b ∷ c ∷ []) word p.1 (escaped_there b c) (λ bs e. spells_back word bs e))
      | inr p ↦
          spells_more (plain_byte a) (unspelled_bytes (b ∷ c ∷ word)) bytes (a ∷ []) (b ∷ c ∷ word) p.1 (plain_there a) (λ bs e. spells_back (b ∷ c ∷ word) bs e)
    ]

dash_is : (word : List ℕ) → is_dash word ≡ true → word ≡ 45 ∷ []
dash_is [] h = cc
dash_is (a ∷ []) h = ap (λ n. n ∷ []) (eqb-true a 45 h)
dash_is (a ∷ b ∷ word) h = cc

spelled_dash_is : (word : List ℕ) → is_spelled_dash word ≡ true → word ≡ 37 ∷ 50 ∷ 100 ∷ []
spelled_dash_is [] h = cc
spelled_dash_is (a ∷ []) h = cc
spelled_dash_is (a ∷ b ∷ []) h = cc
spelled_dash_is (a ∷ b ∷ c ∷ []) h =
    let p = and_parts (eqb a 37 && eqb b 50) (eqb c 100) h in
    let q = and_parts (eqb a 37) (eqb b 50) p.0 in
    let x : a ≡ 37 = eqb-true a 37 q.0 in
    let y : b ≡ 50 = eqb-true b 50 q.1 in
    let z : c ≡ 100 = eqb-true c 100 p.1 in
    cc
spelled_dash_is (a ∷ b ∷ c ∷ d ∷ word) h = cc

unspelled_long : (word bytes : List ℕ) → unspelled_bytes word ≡ Some bytes → is_dash bytes ≡ false → bytes ≢ [] → unspelled word ≡ Some bytes
unspelled_long [] bytes h d n = let e : [] ≡ bytes = cc in absurd (n (sym e))
unspelled_long (a ∷ word) bytes h d n =
    let no_dash : is_dash (a ∷ word) ≡ false = false_from_ne_true (is_dash (a ∷ word)) (λ e.
    let here : Some (45 ∷ []) ≡ Some bytes = sym (ap unspelled_bytes (dash_is (a ∷ word) e)) ∙ h in
    let same : 45 ∷ [] ≡ bytes = cc in
    false≢true (sym d ∙ ap is_dash (sym same))) in
    let no_spelled : is_spelled_dash (a ∷ word) ≡ false = false_from_ne_true (is_spelled_dash (a ∷ word)) (λ e.
    let here : None ≡ Some bytes = sym (ap unspelled_bytes (spelled_dash_is (a ∷ word) e)) ∙ h in
    cc) in
    cond-false (is_dash (a ∷ word)) (Some []) (if is_spelled_dash (a ∷ word) then Some (45 ∷ []) else unspelled_bytes (a ∷ word)) no_dash
    ∙ cond-false (is_spelled_dash (a ∷ word)) (Some (45 ∷ [])) (unspelled_bytes (a ∷ word)) no_spelled
    ∙ h

-- the spelling of bytes is read as these bytes
pub unspelled-spelling : (bytes : List ℕ) → AreBytes bytes → unspelled (spelling bytes) ≡ Some bytes
unspelled-spelling [] h = refl
unspelled-spelling (b ∷ bs) h =
    elim (cases_Bool (is_dash (b ∷ bs))) [
      | inl d ↦ ap (λ t. unspelled (cond t (37 ∷ 50 ∷ 100 ∷ []) (flat_map spelled_byte (b ∷ bs)))) d ∙ ap Some (sym (dash_is (b ∷ bs) d))
      | inr d ↦
          ap (λ t. unspelled (cond t (37 ∷ 50 ∷ 100 ∷ []) (flat_map spelled_byte (b ∷ bs)))) d
          ∙ unspelled_long (flat_map spelled_byte (b ∷ bs)) (b ∷ bs) (unspelled_all (b ∷ bs) h) d (λ e. cc)
    ]

spelling_long : (bytes : List ℕ) → is_dash bytes ≡ false → bytes ≢ [] → spelling bytes ≡ flat_map spelled_byte bytes
spelling_long [] d n = absurd (n refl)
spelling_long (b ∷ bs) d n = cond-false (is_dash (b ∷ bs)) (37 ∷ 50 ∷ 100 ∷ []) (flat_map spelled_byte (b ∷ bs)) d

-- a word that is read as bytes is their spelling
pub spelling-unspelled : (word bytes : List ℕ) → unspelled word ≡ Some bytes → AreBytes bytes × (spelling bytes ≡ word)
spelling-unspelled [] bytes h = cc
spelling-unspelled (a ∷ word) bytes h =
    elim (chosen (is_dash (a ∷ word)) (Some []) (if is_spelled_dash (a ∷ word) then Some (45 ∷ []) else unspelled_bytes (a ∷ word)) (Some bytes) h) [
      | inl p ↦
          let same : [] ≡ bytes = cc in
          subst (λ (xs : List ℕ). AreBytes xs × (spelling xs ≡ a ∷ word)) same (All-nil (λ x. x < 256), sym (dash_is (a ∷ word) p.0))
      | inr p ↦
          elim (chosen (is_spelled_dash (a ∷ word)) (Some (45 ∷ [])) (unspelled_bytes (a ∷ word)) (Some bytes) p.1) [
            | inl q ↦
                let same : 45 ∷ [] ≡ bytes = cc in
                subst (λ (xs : List ℕ). AreBytes xs × (spelling xs ≡ a ∷ word)) same
                (All-cons (λ x. x < 256) 45 [] (omega arith) (All-nil (λ x. x < 256)), sym (spelled_dash_is (a ∷ word) q.0))
            | inr q ↦
                let back : Spells (a ∷ word) bytes = spells_back (a ∷ word) bytes q.1 in
                let no_dash : is_dash bytes ≡ false = false_from_ne_true (is_dash bytes) (λ e.
                let here : 45 ∷ [] ≡ a ∷ word = sym (ap (λ (xs : List ℕ). flat_map spelled_byte xs) (dash_is bytes e)) ∙ back.1 in
                false≢true (sym p.0 ∙ ap is_dash (sym here))) in
                let some : bytes ≢ [] = λ e.
                let here : [] ≡ a ∷ word = sym (ap (λ (xs : List ℕ). flat_map spelled_byte xs) e) ∙ back.1 in
                cc in
                (back.0, spelling_long bytes no_dash some ∙ back.1)
          ]
    ]

hex_word_byte : (n : ℕ) → n < 16 → IsWordByte (hex_digit n)
hex_word_byte n h =
    cond_both (ltb n 10) (48 + n) (87 + n) IsWordByte
    (λ e. let small : n < 10 = ltb-true n 10 e in (omega arith, omega arith, λ f. omega arith))
    (λ e. let large : 10 ≤ n = ltb-false n 10 e in (omega arith, omega arith, λ f. omega arith))

one_word_byte : (x : ℕ) → IsWordByte x → All IsWordByte (x ∷ [])
one_word_byte x h = All-cons IsWordByte x [] h (All-nil IsWordByte)

spelled_byte_word : (b : ℕ) → b < 256 → All IsWordByte (spelled_byte b)
spelled_byte_word b h =
    cond_both (is_plain b) (b ∷ []) (37 ∷ hex_digit (b / 16) ∷ hex_digit (b % 16) ∷ []) (λ (xs : List ℕ). All IsWordByte xs)
    (λ p. one_word_byte b (plain_parts b p))
    (λ p. All-cons IsWordByte 37 (hex_digit (b / 16) ∷ hex_digit (b % 16) ∷ []) (omega arith, omega arith, λ f. omega arith)
    (All-cons IsWordByte (hex_digit (b / 16)) (hex_digit (b % 16) ∷ []) (hex_word_byte (b / 16) (omega arith))
    (one_word_byte (hex_digit (b % 16)) (hex_word_byte (b % 16) (omega arith)))))

spelled_bytes_word : (bytes : List ℕ) → AreBytes bytes → All IsWordByte (flat_map spelled_byte bytes)
spelled_bytes_word [] h = All-nil IsWordByte
spelled_bytes_word (b ∷ bs) h =
    All-append IsWordByte (spelled_byte b) (flat_map spelled_byte bs)
    (spelled_byte_word b (All-head (λ x. x < 256) b bs h))
    (spelled_bytes_word bs (All-tail (λ x. x < 256) b bs h))

-- no byte of a spelling is a space, a line feed or `=`
pub spelling_word_bytes : (bytes : List ℕ) → AreBytes bytes → All IsWordByte (spelling bytes)
spelling_word_bytes [] h = one_word_byte 45 (omega arith, omega arith, λ f. omega arith)
spelling_word_bytes (b ∷ bs) h =
    cond_both (is_dash (b ∷ bs)) (37 ∷ 50 ∷ 100 ∷ []) (flat_map spelled_byte (b ∷ bs)) (λ (xs : List ℕ). All IsWordByte xs)
    (λ d. All-cons IsWordByte 37 (50 ∷ 100 ∷ []) (omega arith, omega arith, λ f. omega arith)
    (All-cons IsWordByte 50 (100 ∷ []) (omega arith, omega arith, λ f. omega arith)
    (one_word_byte 100 (omega arith, omega arith, λ f. omega arith))))
    (λ d. spelled_bytes_word (b ∷ bs) h)

spelled_byte_some : (b : ℕ) → 0 < length (spelled_byte b)
spelled_byte_some b = cond_both (is_plain b) (b ∷ []) (37 ∷ hex_digit (b / 16) ∷ hex_digit (b % 16) ∷ []) (λ (xs : List ℕ). 0 < length xs) (λ p. omega arith) (λ p. omega arith)

pub spelling_some : (bytes : List ℕ) → 0 < length (spelling bytes)
spelling_some [] = omega arith
spelling_some (b ∷ bs) =
    cond_both (is_dash (b ∷ bs)) (37 ∷ 50 ∷ 100 ∷ []) (flat_map spelled_byte (b ∷ bs)) (λ (xs : List ℕ). 0 < length xs)
    (λ d. omega arith)
    (λ d. omega (arith, length-append (spelled_byte b) (flat_map spelled_byte bs), spelled_byte_some b))

-- where all bytes stand for themselves
pub plain_spelling : (bytes : List ℕ) → list_all is_plain bytes ≡ true → is_dash bytes ≡ false → 0 < length bytes → spelling bytes ≡ bytes
plain_spelling bytes p d n = spelling_long bytes d (λ e. let none : length bytes ≡ 0 = ap length e in omega arith) ∙ all_plain_spelled bytes p

pub plain_unspelled : (word : List ℕ) → list_all is_plain word ≡ true → is_dash word ≡ false → 0 < length word → unspelled word ≡ Some word
plain_unspelled word p d n = unspelled_long word word (all_plain_unspelled word p) d (λ e. let none : length word ≡ 0 = ap length e in omega arith)

-- a word of neither special form goes byte by byte
pub unspelled_rest : (word : List ℕ) → is_dash word ≡ false → is_spelled_dash word ≡ false → 0 < length word → unspelled word ≡ unspelled_bytes word
unspelled_rest [] d s n = absurd (omega arith)
unspelled_rest (a ∷ word) d s n =
    cond-false (is_dash (a ∷ word)) (Some []) (if is_spelled_dash (a ∷ word) then Some (45 ∷ []) else unspelled_bytes (a ∷ word)) d
    ∙ cond-false (is_spelled_dash (a ∷ word)) (Some (45 ∷ [])) (unspelled_bytes (a ∷ word)) s

-- what the answers of unspelling say of the word
pub found_bytes : {V : Type 0} (word : List ℕ) (r : Result V SpellFault) (view : V → List ℕ) → Unspells view r (unspelled word) → IfOk r (λ v. AreBytes (view v) × (spelling (view v) ≡ word))
found_bytes word (Ok v) view h = spelling-unspelled word (view v) h
found_bytes word (Err e) view h = tt

pub bad_word : {V : Type 0} (word : List ℕ) (r : Result V SpellFault) (view : V → List ℕ) → Unspells view r (unspelled word) → IsErrOf r BadSpelling → (bytes : List ℕ) → AreBytes bytes → spelling bytes ≢ word
bad_word word (Ok v) view h e bytes b s = cc
bad_word word (Err BadSpelling) view h e bytes b s =
    let here : Some bytes ≡ None = sym (unspelled-spelling bytes b) ∙ ap unspelled s ∙ h in cc
bad_word word (Err NoMemory) view h e bytes b s = cc
