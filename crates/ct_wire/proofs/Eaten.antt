-- Bytes that are taken together are as good as taken one after the other.
use Rattle.std.proofs.Common.{◌≡◌, ℕ, ◌+◌, ◌<◌, ◌≤◌, true, false, ltb, List, [], ◌∷◌, ◌++◌, length, refl, sym, ap, subst, ◌∙◌, append_assoc, take, drop, arith}
use Rattle.std.proofs.lemmas.Bool.{lt-ltb, le-ltb}
use Rattle.std.proofs.lemmas.List.{append-nil, length-append, take-append-drop}
use Rattle.ct_wire.specs.declared.cursor.Cursor.{Cursor}
use Rattle.ct_wire.specs.declared.cursor.Outcome.{Outcome}
use Rattle.ct_wire.specs.declared.cursor.Taken.{Taken}
use Rattle.ct_wire.specs.declared.cursor.Taken.TheVariants as taken
use Rattle.ct_wire.specs.Cursor.{field_read, outcome_of, width, IsSound, IsSoundTaken}
use Rattle.ct_wire.specs.Decoding.{End, after_field, eaten}

shorter : (raw bytes : List ℕ) (b w : ℕ) → length raw + length (b ∷ bytes) < w → ltb (length raw + 1) w ≡ true
shorter raw bytes b w short = lt-ltb _ _ (omega arith)

one_more : (raw : List ℕ) (b : ℕ) → length (raw ++ b ∷ []) ≡ length raw + 1
one_more raw b = length-append raw (b ∷ []) ∙ omega arith

-- bytes that don't complete the field
pub eaten_part : (c : Cursor) (raw part rest : List ℕ) → length raw + length part < width c → eaten c raw (part ++ rest) ≡ eaten c (raw ++ part) rest
unfolding eaten
eaten_part c raw [] rest short = ap (λ (r : List ℕ). eaten c r rest) (sym (append-nil raw))
eaten_part c raw (b ∷ part) rest short =
    let t : ltb (length raw + 1) (width c) ≡ true = shorter raw part b (width c) short in
    let one : eaten c raw ((b ∷ part) ++ rest) ≡ eaten c (raw ++ b ∷ []) (part ++ rest) = rw t refl in
    let more : length (raw ++ b ∷ []) + length part < width c = omega (arith, one_more raw b, short) in
    one ∙ eaten_part c (raw ++ b ∷ []) part rest more ∙ ap (λ (r : List ℕ). eaten c r rest) (append_assoc raw (b ∷ []) part)

-- bytes that complete it
pub eaten_field : (c : Cursor) (raw field rest : List ℕ) → length raw + length field ≡ width c → 0 < length field → eaten c raw (field ++ rest) ≡ after_field (field_read c (raw ++ field)) rest (λ next. eaten next [] rest)
unfolding eaten
eaten_field c raw [] rest whole some = absurd (omega (arith, some))
eaten_field c raw (b ∷ []) rest whole some =
    let t : ltb (length raw + 1) (width c) ≡ false = le-ltb _ _ (omega (arith, whole)) in
    rw t refl
eaten_field c raw (b ∷ d ∷ field) rest whole some =
    let t : ltb (length raw + 1) (width c) ≡ true = lt-ltb _ _ (omega (arith, whole)) in
    let one : eaten c raw ((b ∷ d ∷ field) ++ rest) ≡ eaten c (raw ++ b ∷ []) ((d ∷ field) ++ rest) = rw t refl in
    let more : length (raw ++ b ∷ []) + length (d ∷ field) ≡ width c = omega (arith, one_more raw b, whole) in
    one ∙ eaten_field c (raw ++ b ∷ []) (d ∷ field) rest more (omega arith)
    ∙ ap (λ (r : List ℕ). after_field (field_read c r) rest (λ next. eaten next [] rest)) (append_assoc raw (b ∷ []) (d ∷ field))

-- the same, where nothing of the field has come
pub eaten_whole : (c : Cursor) (field rest : List ℕ) → length field ≡ width c → 0 < length field → eaten c [] (field ++ rest) ≡ after_field (field_read c field) rest (λ next. eaten next [] rest)
eaten_whole c field rest whole some = eaten_field c [] field rest (omega (arith, whole)) some

-- what has come of a field waits
pub eaten_rest : (c : Cursor) (raw part : List ℕ) → length raw + length part < width c → eaten c raw part ≡ End.Waits (record { cursor = c; raw = raw ++ part })
unfolding eaten
eaten_rest c raw part short = ap (eaten c raw) (sym (append-nil part)) ∙ eaten_part c raw part [] short

-- a field that stands at the front
pub field_taken : (c : Cursor) (rest field behind : List ℕ) (k : ℕ) → field ≡ take k rest → behind ≡ drop k rest → length field ≡ k → k ≡ width c → 1 ≤ k
    → eaten c [] rest ≡ after_field (field_read c field) behind (λ next. eaten next [] behind)
field_taken c rest field behind k front back len is some =
    let whole : rest ≡ field ++ behind = rw (front, back) (sym (take-append-drop k rest)) in
    ap (eaten c []) whole ∙ eaten_whole c field behind (len ∙ is) (omega (arith, len, some))

-- what a field leads to, where it leads to this
pub leads_to : (o p : Outcome) (e : End) (behind : List ℕ) → e ≡ after_field o behind (λ next. eaten next [] behind) → o ≡ p → e ≡ after_field p behind (λ next. eaten next [] behind)
leads_to o p e behind given is = given ∙ ap (λ (x : Outcome). after_field x behind (λ next. eaten next [] behind)) is

-- what was taken of a field, where it is this
pub led_to : (t u : Taken) (c : Cursor) (o : Outcome) → t ≡ u → outcome_of t c ≡ o → o ≡ outcome_of u c
led_to t u c o is exact = sym exact ∙ ap (λ (x : Taken). outcome_of x c) is

pub sound_more : (t : Taken) (c : Cursor) → t ≡ taken.More → IsSoundTaken t c → IsSound c
sound_more t c is sound = subst (λ (x : Taken). IsSoundTaken x c) is sound

-- bytes at the front that complete a field of which some has come
pub field_filled : (c : Cursor) (raw bytes front behind : List ℕ) (k : ℕ) → front ≡ take k bytes → behind ≡ drop k bytes → length front ≡ k → length raw + k ≡ width c → 1 ≤ k
    → eaten c raw bytes ≡ after_field (field_read c (raw ++ front)) behind (λ next. eaten next [] behind)
field_filled c raw bytes front behind k taken dropped len is some =
    let whole : bytes ≡ front ++ behind = rw (taken, dropped) (sym (take-append-drop k bytes)) in
    ap (eaten c raw) whole ∙ eaten_field c raw front behind (omega (arith, len, is)) (omega (arith, len, some))
