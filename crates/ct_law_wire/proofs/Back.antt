-- One field at a time, backwards: where a frame was read, its fields stand at the front of the bytes.
use Rattle.std.proofs.Common.{◌≡◌, ℕ, ◌+◌, ◌*◌, ◌<◌, ◌^◌, ◌/◌, ◌%◌, Bool, true, false, cond, leb, eqb, not, ◌&&◌, List, [], ◌∷◌, ◌++◌, length, take, drop, refl, sym, ap, subst, ◌∙◌, append_assoc, arith, inl, inr}
use Rattle.std.specs.Int.{w16, w32, w64, to_be_bytes, from_be_bytes}
use Rattle.std.proofs.lemmas.Bool.{and_parts, cases_lt, eq-eqb, eqb-true, eqb-false}
use Rattle.std.proofs.lemmas.List.{get_or-drop, get_or-take, get_or_past, length-append, length-drop, length-take, take-append-drop}
use Rattle.std.proofs.lemmas.Nat.{be_bytes_2, be_bytes_4, be_bytes_8}
use Rattle.ct_values.specs.declared.address.Address.{Address}
use Rattle.ct_values.specs.declared.address.Address.TheVariants.{V4, V6}
use Rattle.ct_frame.specs.declared.frame.Frame.{Frame}
use Rattle.ct_wire_fields.specs.declared.place.NumberPlace.{NumberPlace}
use Rattle.ct_wire_fields.specs.declared.place.TextPlace.{TextPlace}
use Rattle.ct_wire_fields.specs.declared.place.AddressPlace.{AddressPlace}
use Rattle.ct_wire_fields.specs.declared.place.Place.TheVariants as place
use Rattle.ct_wire_fields.specs.declared.draft.Draft.{Draft}
use Rattle.ct_wire_fields.specs.declared.draft.Step.{Step}
use Rattle.ct_wire_fields.specs.declared.draft.Step.TheVariants as step
use Rattle.ct_wire_fields.specs.declared.version.Version.{Version}
use Rattle.ct_wire_fields.specs.Version.{names_families}
use Rattle.ct_wire_fields.specs.Reading.{to_number, to_text, to_address, number_read, text_read, address_read}
use Rattle.ct_wire.specs.declared.cursor.Cursor.{Cursor}
use Rattle.ct_wire.specs.declared.cursor.Outcome.{Outcome}
use Rattle.ct_wire.specs.declared.cursor.Outcome.TheVariants as outcome
use Rattle.ct_wire.specs.declared.cursor.Stage.TheVariants as stage
use Rattle.ct_wire.specs.Cursor.{after_family, field_read, number_of, number_width, text_width, is_text_length, last_is_v6, settled, wide_number_of, width}
use Rattle.ct_wire.specs.Decoding.{End, after_field, eaten}
use Rattle.ct_wire.specs.Spelling.{u32, u64, key, value, address}
use Rattle.ct_wire.proofs.Eaten.{eaten_rest, eaten_whole}
use Rattle.ct_law_wire.specs.Grammar.{SaysAddress}
use Rattle.ct_law_wire.proofs.Fields.{stands}
use Rattle.ct_law_wire.specs.Alone.{IsBytes}

-- ---- bytes

pub IsBytes-drop : (n : ℕ) (bytes : List ℕ) → IsBytes bytes → IsBytes (drop n bytes)
IsBytes-drop n bytes fits i = rw get_or-drop (fits (n + i))

IsBytes-take : (n : ℕ) (bytes : List ℕ) → IsBytes bytes → IsBytes (take n bytes)
IsBytes-take n bytes fits i =
    elim (cases_lt i n) [
      | inl lt ↦ rw (get_or-take n bytes i 0 lt) (fits i)
      | inr le ↦ rw (get_or_past (take n bytes) i 0 (omega (arith, length-take n bytes))) (omega arith)
    ]

-- what a reading took from the front, of which P holds, up to the end of the frame
pub record Taken (long at : ℕ) (bytes : List ℕ) (n : ℕ) (rest : List ℕ) (P : List ℕ → Type 0) : Type 0 where
  pub taken : List ℕ
  pub parts : bytes ≡ taken ++ rest
  pub fills : at + length taken ≡ long
  pub whole : n ≡ long
  pub holds : P taken

-- where reading goes on from this step to a frame of length `long`, Q holds of the bytes that are taken and the frame
pub record Backs (long : ℕ) (s : Step) (Q : List ℕ → Frame → Type 0) : Type 0 where
  pub back : (at : ℕ) (bytes : List ℕ) (f : Frame) (n : ℕ) (rest : List ℕ) → IsBytes bytes → after_field (settled long s at) bytes (λ next. eaten next [] bytes) ≡ End.Ends f n rest
      → Taken long at bytes n rest (λ taken. Q taken f)

pub broken_backs : (long at : ℕ) (Q : List ℕ → Frame → Type 0) → Backs long (step.Broken at) Q
broken_backs long at Q = record { back = λ here bytes f n rest fits e. absurd (cc) }

whole_back : (b : Bool) (long at : ℕ) (f : Frame) (Q : List ℕ → Frame → Type 0) → Q [] f → eqb at long ≡ b → (bytes : List ℕ) (g : Frame) (n : ℕ) (rest : List ℕ)
    → after_field (cond b (outcome.Whole f at) (outcome.Malformed at)) bytes (λ next. eaten next [] bytes) ≡ End.Ends g n rest → Taken long at bytes n rest (λ taken. Q taken g)
whole_back true long at f Q holds same bytes g n rest e =
    let frames : f ≡ g = cc in
    let ends : at ≡ n = cc in
    let behind : bytes ≡ rest = cc in
    record { taken = []; parts = behind; fills = omega (arith, eqb-true at long same); whole = omega (arith, ends, eqb-true at long same); holds = subst (λ (x : Frame). Q [] x) frames holds }
whole_back false long at f Q holds same bytes g n rest e = absurd (cc)

-- the last field was read
pub whole_backs : (long : ℕ) (f : Frame) (Q : List ℕ → Frame → Type 0) → Q [] f → Backs long (step.Whole f) Q
whole_backs long f Q holds = record { back = λ at bytes g n rest fits e. whole_back (eqb at long) long at f Q holds refl bytes g n rest e }

-- a field that passed its test
pub back_when : (long : ℕ) (t : Bool) (s : Step) (at : ℕ) (Q : List ℕ → Frame → Type 0) → (t ≡ true → Backs long s Q) → Backs long (cond t s (step.Broken at)) Q
back_when long true s at Q backs = backs refl
back_when long false s at Q backs = broken_backs long at Q

-- a field at the front, and what it led to
pub record Field (c : Cursor) (bytes : List ℕ) (f : Frame) (n : ℕ) (rest : List ℕ) : Type 0 where
  pub field : List ℕ
  pub more : List ℕ
  pub parts : bytes ≡ field ++ more
  pub size : length field ≡ width c
  pub field_fits : IsBytes field
  pub more_fits : IsBytes more
  pub ends : after_field (field_read c field) more (λ next. eaten next [] more) ≡ End.Ends f n rest

waits_or_ends : {A : Type 0} (c : Cursor) (raw : List ℕ) (f : Frame) (n : ℕ) (rest : List ℕ) → End.Waits (record { cursor = c; raw = raw }) ≡ End.Ends f n rest → A
waits_or_ends c raw f n rest e = absurd (cc)

pub field_of : (c : Cursor) (bytes : List ℕ) (f : Frame) (n : ℕ) (rest : List ℕ) → 0 < width c → IsBytes bytes → eaten c [] bytes ≡ End.Ends f n rest → Field c bytes f n rest
field_of c bytes f n rest some fits e =
    elim (cases_lt (length bytes) (width c)) [
      | inl short ↦ waits_or_ends c bytes f n rest (sym (eaten_rest c [] bytes (omega (arith, short))) ∙ e)
      | inr long ↦ let parts : bytes ≡ take (width c) bytes ++ drop (width c) bytes = sym (take-append-drop (width c) bytes) in
          let size : length (take (width c) bytes) ≡ width c = omega (arith, length-take (width c) bytes, long) in
          record {
            field = take (width c) bytes;
            more = drop (width c) bytes;
            parts = parts;
            size = size;
            field_fits = IsBytes-take (width c) bytes fits;
            more_fits = IsBytes-drop (width c) bytes fits;
            ends = sym (eaten_whole c (take (width c) bytes) (drop (width c) bytes) size (omega (arith, size, some))) ∙ ap (eaten c []) (sym parts) ∙ e;
          }
    ]

-- what was taken behind a field, with the field
behind : (long at w : ℕ) (bytes field more : List ℕ) (n : ℕ) (rest : List ℕ) (P : List ℕ → Type 0) → bytes ≡ field ++ more → length field ≡ w → Taken long (at + w) more n rest (λ taken. P (field ++ taken)) → Taken long at bytes n rest P
behind long at w bytes field more n rest P parts size t = record {
  taken = field ++ t.taken;
  parts = parts ∙ ap (λ (x : List ℕ). field ++ x) t.parts ∙ sym (append_assoc field t.taken rest);
  fills = omega (arith, t.fills, size, length-append field t.taken);
  whole = t.whole;
  holds = t.holds;
}

-- ---- numbers

number_back : (b : Bool) (d : Draft) (p : NumberPlace) (at : ℕ) (Q : List ℕ → Frame → Type 0) → 0 < number_width p
    → ((field : List ℕ) → length field ≡ number_width p → IsBytes field → Backs d.head.length (number_read d at (number_of field) p) (λ taken f. Q (field ++ taken) f))
    → (bytes : List ℕ) (f : Frame) (n : ℕ) (rest : List ℕ) → IsBytes bytes → after_field (cond b (outcome.More (stands d (place.Number p) at stage.Start)) (outcome.Malformed at)) bytes (λ next. eaten next [] bytes) ≡ End.Ends f n rest
    → Taken d.head.length at bytes n rest (λ taken. Q taken f)
number_back true d p at Q some backs bytes f n rest fits e =
    let x = field_of (stands d (place.Number p) at stage.Start) bytes f n rest some fits e in
    behind d.head.length at (number_width p) bytes x.field x.more n rest (λ taken. Q taken f) x.parts x.size ((backs x.field x.size x.field_fits).back (at + number_width p) x.more f n rest x.more_fits x.ends)
number_back false d p at Q some backs bytes f n rest fits e = absurd (cc)

number_backs : (d : Draft) (p : NumberPlace) (Q : List ℕ → Frame → Type 0) → 0 < number_width p
    → ((at : ℕ) (field : List ℕ) → length field ≡ number_width p → IsBytes field → Backs d.head.length (number_read d at (number_of field) p) (λ taken f. Q (field ++ taken) f))
    → Backs d.head.length (to_number d p) Q
number_backs d p Q some backs = record { back = λ at bytes f n rest fits e. number_back (leb (at + number_width p) d.head.length) d p at Q some (backs at) bytes f n rest fits e }

number_of_4 : (field : List ℕ) → length field ≡ 4 → number_of field ≡ from_be_bytes w32 field
number_of_4 [] size = absurd (omega (arith, size))
number_of_4 (a ∷ []) size = absurd (omega (arith, size))
number_of_4 (a ∷ b ∷ []) size = absurd (omega (arith, size))
number_of_4 (a ∷ b ∷ c ∷ []) size = absurd (omega (arith, size))
number_of_4 (a ∷ b ∷ c ∷ d ∷ []) size = refl
number_of_4 (a ∷ b ∷ c ∷ d ∷ e ∷ more) size = absurd (omega (arith, size))

number_of_8 : (field : List ℕ) → length field ≡ 8 → number_of field ≡ from_be_bytes w64 field
number_of_8 [] size = absurd (omega (arith, size))
number_of_8 (a ∷ []) size = absurd (omega (arith, size))
number_of_8 (a ∷ b ∷ []) size = absurd (omega (arith, size))
number_of_8 (a ∷ b ∷ c ∷ []) size = absurd (omega (arith, size))
number_of_8 (a ∷ b ∷ c ∷ d ∷ []) size = absurd (omega (arith, size))
number_of_8 (a ∷ b ∷ c ∷ d ∷ e ∷ []) size = absurd (omega (arith, size))
number_of_8 (a ∷ b ∷ c ∷ d ∷ e ∷ f ∷ []) size = absurd (omega (arith, size))
number_of_8 (a ∷ b ∷ c ∷ d ∷ e ∷ f ∷ g ∷ []) size = absurd (omega (arith, size))
number_of_8 (a ∷ b ∷ c ∷ d ∷ e ∷ f ∷ g ∷ h ∷ []) size = refl
number_of_8 (a ∷ b ∷ c ∷ d ∷ e ∷ f ∷ g ∷ h ∷ i ∷ more) size = absurd (omega (arith, size))

-- a field of four bytes is that of its number
pub word_of : (field : List ℕ) → length field ≡ 4 → IsBytes field → (u32 (number_of field) ≡ field) × (number_of field < 2 ^ 32)
word_of field size fits =
    let is = number_of_4 field size in
    (be_bytes_4 field (number_of field) size fits is, omega (arith, is, fits 0, fits 1, fits 2, fits 3))

long_of : (field : List ℕ) → length field ≡ 8 → IsBytes field → (u64 (number_of field) ≡ field) × (number_of field < 2 ^ 64)
long_of field size fits =
    let is = number_of_8 field size in
    (be_bytes_8 field (number_of field) size fits is, omega (arith, is, fits 0, fits 1, fits 2, fits 3, fits 4, fits 5, fits 6, fits 7))

pub word_backs : (d : Draft) (p : NumberPlace) (Q : List ℕ → Frame → Type 0) → number_width p ≡ 4
    → ((at n : ℕ) → n < 2 ^ 32 → Backs d.head.length (number_read d at n p) (λ taken f. Q (u32 n ++ taken) f)) → Backs d.head.length (to_number d p) Q
word_backs d p Q is backs =
    number_backs d p Q (omega (arith, is)) (λ at field size fits.
    (let w = word_of field (size ∙ is) fits in
    subst (λ (x : List ℕ). Backs d.head.length (number_read d at (number_of field) p) (λ taken f. Q (x ++ taken) f)) w.0 (backs at (number_of field) w.1)))

pub long_backs : (d : Draft) (p : NumberPlace) (Q : List ℕ → Frame → Type 0) → number_width p ≡ 8
    → ((at n : ℕ) → n < 2 ^ 64 → Backs d.head.length (number_read d at n p) (λ taken f. Q (u64 n ++ taken) f)) → Backs d.head.length (to_number d p) Q
long_backs d p Q is backs =
    number_backs d p Q (omega (arith, is)) (λ at field size fits.
    (let w = long_of field (size ∙ is) fits in
    subst (λ (x : List ℕ). Backs d.head.length (number_read d at (number_of field) p) (λ taken f. Q (x ++ taken) f)) w.0 (backs at (number_of field) w.1)))

one_of : (field : List ℕ) → length field ≡ 1 → number_of field ∷ [] ≡ field
one_of [] size = absurd (omega (arith, size))
one_of (a ∷ []) size = refl
one_of (a ∷ b ∷ more) size = absurd (omega (arith, size))

pub byte_backs : (d : Draft) (p : NumberPlace) (Q : List ℕ → Frame → Type 0) → number_width p ≡ 1
    → ((at n : ℕ) → Backs d.head.length (number_read d at n p) (λ taken f. Q (n ∷ taken) f)) → Backs d.head.length (to_number d p) Q
byte_backs d p Q is backs =
    number_backs d p Q (omega (arith, is)) (λ at field size fits.
    subst (λ (x : List ℕ). Backs d.head.length (number_read d at (number_of field) p) (λ taken f. Q (x ++ taken) f)) (one_of field (size ∙ is)) (backs at (number_of field)))

-- ---- texts

-- behind the length of a text that has bytes
text_back : (b : Bool) (d : Draft) (p : TextPlace) (at w n : ℕ) (Q : List ℕ → Frame → Type 0) → 0 < n → w ≡ text_width p
    → ((t : List ℕ) → length t ≡ n → Backs d.head.length (text_read d at t p) (λ taken f. Q (t ++ taken) f))
    → (bytes : List ℕ) (f : Frame) (m : ℕ) (rest : List ℕ) → IsBytes bytes → after_field (cond b (outcome.More (stands d (place.Text p) at (stage.Text n))) (outcome.Malformed (at + w))) bytes (λ next. eaten next [] bytes) ≡ End.Ends f m rest
    → Taken d.head.length (at + text_width p) bytes m rest (λ taken. Q taken f)
text_back true d p at w n Q some is backs bytes f m rest fits e =
    let x = field_of (stands d (place.Text p) at (stage.Text n)) bytes f m rest some fits e in
    behind d.head.length (at + text_width p) n bytes x.field x.more m rest (λ taken. Q taken f) x.parts x.size ((backs x.field x.size).back (at + text_width p + n) x.more f m rest x.more_fits x.ends)
text_back false d p at w n Q some is backs bytes f m rest fits e = absurd (cc)

-- behind any length
texts_back : (b zero_long : Bool) (d : Draft) (p : TextPlace) (at n : ℕ) (Q : List ℕ → Frame → Type 0) → is_text_length p n ≡ b → eqb n 0 ≡ zero_long
    → ((t : List ℕ) → n ≡ length t → is_text_length p (length t) ≡ true → Backs d.head.length (text_read d at t p) (λ taken f. Q (t ++ taken) f))
    → (bytes : List ℕ) (f : Frame) (m : ℕ) (rest : List ℕ) → IsBytes bytes
    → after_field (cond b (cond zero_long (settled d.head.length (text_read d at [] p) (at + text_width p)) (cond (leb (at + text_width p + n) d.head.length) (outcome.More (stands d (place.Text p) at (stage.Text n))) (outcome.Malformed (at + text_width p)))) (outcome.Malformed at)) bytes (λ next. eaten next [] bytes) ≡ End.Ends f m rest
    → Taken d.head.length (at + text_width p) bytes m rest (λ taken. Q taken f)
texts_back false zero_long d p at n Q ok is backs bytes f m rest fits e = absurd (cc)
texts_back true true d p at n Q ok is backs bytes f m rest fits e =
    let none : n ≡ 0 = eqb-true n 0 is in
    (backs [] none (subst (λ (k : ℕ). is_text_length p k ≡ true) none ok)).back (at + text_width p) bytes f m rest fits e
texts_back true false d p at n Q ok is backs bytes f m rest fits e =
    let some : 0 < n = omega (arith, eqb-false n 0 is) in
    text_back (leb (at + text_width p + n) d.head.length) d p at (text_width p) n Q some refl (λ t size. backs t (sym size) (subst (λ (k : ℕ). is_text_length p k ≡ true) (sym size) ok)) bytes f m rest fits e

count_back : (b : Bool) (d : Draft) (p : TextPlace) (at : ℕ) (Q : List ℕ → Frame → Type 0) → 0 < text_width p
    → ((count t : List ℕ) → length count ≡ text_width p → IsBytes count → number_of count ≡ length t → is_text_length p (length t) ≡ true → Backs d.head.length (text_read d at t p) (λ taken f. Q (count ++ (t ++ taken)) f))
    → (bytes : List ℕ) (f : Frame) (m : ℕ) (rest : List ℕ) → IsBytes bytes → after_field (cond b (outcome.More (stands d (place.Text p) at stage.Start)) (outcome.Malformed at)) bytes (λ next. eaten next [] bytes) ≡ End.Ends f m rest
    → Taken d.head.length at bytes m rest (λ taken. Q taken f)
count_back true d p at Q some backs bytes f m rest fits e =
    let x = field_of (stands d (place.Text p) at stage.Start) bytes f m rest some fits e in
    behind d.head.length at (text_width p) bytes x.field x.more m rest (λ taken. Q taken f) x.parts x.size
    (texts_back (is_text_length p (number_of x.field)) (eqb (number_of x.field) 0) d p at (number_of x.field) (λ taken g. Q (x.field ++ taken) g) refl refl
    (λ t is ok. backs x.field t x.size x.field_fits is ok) x.more f m rest x.more_fits x.ends)
count_back false d p at Q some backs bytes f m rest fits e = absurd (cc)

text_backs : (d : Draft) (p : TextPlace) (Q : List ℕ → Frame → Type 0) → 0 < text_width p
    → ((at : ℕ) (count t : List ℕ) → length count ≡ text_width p → IsBytes count → number_of count ≡ length t → is_text_length p (length t) ≡ true → Backs d.head.length (text_read d at t p) (λ taken f. Q (count ++ (t ++ taken)) f))
    → Backs d.head.length (to_text d p) Q
text_backs d p Q some backs = record { back = λ at bytes f m rest fits e. count_back (leb (at + text_width p) d.head.length) d p at Q some (backs at) bytes f m rest fits e }

pub key_backs : (d : Draft) (p : TextPlace) (Q : List ℕ → Frame → Type 0) → text_width p ≡ 1
    → ((at : ℕ) (k : List ℕ) → is_text_length p (length k) ≡ true → Backs d.head.length (text_read d at k p) (λ taken f. Q (key k ++ taken) f)) → Backs d.head.length (to_text d p) Q
key_backs d p Q is backs =
    text_backs d p Q (omega (arith, is)) (λ at count t size fits same ok.
    (let counted : length t ∷ [] ≡ count = ap (λ (n : ℕ). n ∷ []) (sym same) ∙ one_of count (size ∙ is) in
    subst (λ (x : List ℕ). Backs d.head.length (text_read d at t p) (λ taken f. Q (x ++ (t ++ taken)) f)) counted (backs at t ok)))

number_of_2 : (field : List ℕ) → length field ≡ 2 → number_of field ≡ from_be_bytes w16 field
number_of_2 [] size = absurd (omega (arith, size))
number_of_2 (a ∷ []) size = absurd (omega (arith, size))
number_of_2 (a ∷ b ∷ []) size = refl
number_of_2 (a ∷ b ∷ c ∷ more) size = absurd (omega (arith, size))

pub value_backs : (d : Draft) (p : TextPlace) (Q : List ℕ → Frame → Type 0) → text_width p ≡ 2
    → ((at : ℕ) (x : List ℕ) → is_text_length p (length x) ≡ true → Backs d.head.length (text_read d at x p) (λ taken f. Q (value x ++ taken) f)) → Backs d.head.length (to_text d p) Q
value_backs d p Q is backs =
    text_backs d p Q (omega (arith, is)) (λ at count t size fits same ok.
    (let two : to_be_bytes w16 (number_of count) ≡ count = be_bytes_2 count (number_of count) (size ∙ is) fits (number_of_2 count (size ∙ is)) in
    let counted : to_be_bytes w16 (length t) ≡ count = ap (to_be_bytes w16) (sym same) ∙ two in
    subst (λ (x : List ℕ). Backs d.head.length (text_read d at t p) (λ taken f. Q (x ++ (t ++ taken)) f)) counted (backs at t ok)))

-- ---- addresses

plain_is : (k : ℕ) → k < 2 ^ 32 → k % 4294967296 ≡ k
plain_is k small = omega (arith, small)

-- the halves of 16 bytes
wide_is : (field : List ℕ) → length field ≡ 16 → IsBytes field → (u64 (wide_number_of field / 2 ^ 64) ++ u64 (wide_number_of field % 2 ^ 64) ≡ field) × (wide_number_of field < 2 ^ 128)
wide_is field size fits =
    let high = long_of (take 8 field) (omega (arith, length-take 8 field, size)) (IsBytes-take 8 field fits) in
    let low = long_of (drop 8 field) (omega (arith, length-drop 8 field, size)) (IsBytes-drop 8 field fits) in
    let sixteen : eqb (length field) 16 ≡ true = eq-eqb _ _ size in
    let wide : wide_number_of field ≡ number_of (take 8 field) * 2 ^ 64 + number_of (drop 8 field) = rw sixteen refl in
    let first : wide_number_of field / 2 ^ 64 ≡ number_of (take 8 field) = omega (arith, wide, high.1, low.1) in
    let second : wide_number_of field % 2 ^ 64 ≡ number_of (drop 8 field) = omega (arith, wide, high.1, low.1) in
    (rw (first, second) (ap (λ (x : List ℕ). x ++ u64 (number_of (drop 8 field))) high.0 ∙ ap (λ (x : List ℕ). take 8 field ++ x) low.0 ∙ take-append-drop 8 field), omega (arith, wide, high.1, low.1))

-- an address as its version spells it
plain_spelled : (v : Version) (n : ℕ) (t : List ℕ) → names_families v ≡ false → u32 n ≡ t → address v (V4 n) ≡ t
plain_spelled v n t unnamed is = rw unnamed is

four_spelled : (v : Version) (n : ℕ) (t : List ℕ) → names_families v ≡ true → u32 n ≡ t → address v (V4 n) ≡ 4 ∷ t
four_spelled v n t named is = rw named (ap (λ (x : List ℕ). 4 ∷ x) is)

-- the first field of an address
plain_read : (d : Draft) (p : AddressPlace) (at n : ℕ) (field : List ℕ) → names_families d.head.version ≡ false → number_of field % 4294967296 ≡ n → field_read (stands d (place.Address p) at stage.Start) field ≡ settled d.head.length (address_read d at (V4 n) p) (at + 4)
plain_read d p at n field unnamed is = rw (unnamed, is) refl

four_read : (d : Draft) (p : AddressPlace) (at n : ℕ) (field : List ℕ) → number_of field % 4294967296 ≡ n → field_read (stands d (place.Address p) at stage.Four) field ≡ settled d.head.length (address_read d at (V4 n) p) (at + 5)
four_read d p at n field is = rw is refl

family_is_read : (d : Draft) (p : AddressPlace) (at : ℕ) (field : List ℕ) → names_families d.head.version ≡ true
    → field_read (stands d (place.Address p) at stage.Start) field ≡ cond (eqb (number_of field) 4 && not (last_is_v6 d p)) (after_family d at p stage.Four 4) (cond (eqb (number_of field) 6) (after_family d at p stage.Sixteen 16) (outcome.Malformed at))
family_is_read d p at field named = rw named refl

-- what is asked of the step behind an address
abbrev pub Onward : Draft → AddressPlace → (List ℕ → Frame → Type 0) → Type 0
Onward d p Q = (at : ℕ) (a : Address) → SaysAddress d.head.version a → Backs d.head.length (address_read d at a p) (λ taken f. Q (address d.head.version a ++ taken) f)

-- without a family
plain_back : (b : Bool) (d : Draft) (p : AddressPlace) (at : ℕ) (Q : List ℕ → Frame → Type 0) → names_families d.head.version ≡ false → Onward d p Q
    → (bytes : List ℕ) (f : Frame) (m : ℕ) (rest : List ℕ) → IsBytes bytes → after_field (cond b (outcome.More (stands d (place.Address p) at stage.Start)) (outcome.Malformed at)) bytes (λ next. eaten next [] bytes) ≡ End.Ends f m rest
    → Taken d.head.length at bytes m rest (λ taken. Q taken f)
plain_back false d p at Q unnamed backs bytes f m rest fits e = absurd (cc)
plain_back true d p at Q unnamed backs bytes f m rest fits e =
    let wide : width (stands d (place.Address p) at stage.Start) ≡ 4 = rw unnamed refl in
    let x = field_of (stands d (place.Address p) at stage.Start) bytes f m rest (omega (arith, wide)) fits e in
    let w = word_of x.field (x.size ∙ wide) x.field_fits in
    let number : number_of x.field % 4294967296 ≡ number_of x.field = plain_is (number_of x.field) w.1 in
    let field_is = plain_spelled d.head.version (number_of x.field) x.field unnamed w.0 in
    let read = plain_read d p at (number_of x.field) x.field unnamed number in
    let ends = ap (λ (o : Outcome). after_field o x.more (λ next. eaten next [] x.more)) (sym read) ∙ x.ends in
    behind d.head.length at 4 bytes x.field x.more m rest (λ taken. Q taken f) x.parts (x.size ∙ wide)
    (subst (λ (t : List ℕ). Taken d.head.length (at + 4) x.more m rest (λ taken. Q (t ++ taken) f)) field_is ((backs at (V4 (number_of x.field)) (w.1, tt)).back (at + 4) x.more f m rest x.more_fits ends))

-- behind the family of an IPv4 address
four_back : (b : Bool) (d : Draft) (p : AddressPlace) (at : ℕ) (Q : List ℕ → Frame → Type 0) → names_families d.head.version ≡ true → Onward d p Q
    → (bytes : List ℕ) (f : Frame) (m : ℕ) (rest : List ℕ) → IsBytes bytes → after_field (cond b (outcome.More (stands d (place.Address p) at stage.Four)) (outcome.Malformed (at + 1))) bytes (λ next. eaten next [] bytes) ≡ End.Ends f m rest
    → Taken d.head.length (at + 1) bytes m rest (λ taken. Q (4 ∷ taken) f)
four_back false d p at Q named backs bytes f m rest fits e = absurd (cc)
four_back true d p at Q named backs bytes f m rest fits e =
    let x = field_of (stands d (place.Address p) at stage.Four) bytes f m rest (omega arith) fits e in
    let w = word_of x.field x.size x.field_fits in
    let number : number_of x.field % 4294967296 ≡ number_of x.field = plain_is (number_of x.field) w.1 in
    let field_is = four_spelled d.head.version (number_of x.field) x.field named w.0 in
    let read = four_read d p at (number_of x.field) x.field number in
    let ends = ap (λ (o : Outcome). after_field o x.more (λ next. eaten next [] x.more)) (sym read) ∙ x.ends in
    let t = subst (λ (t : List ℕ). Taken d.head.length (at + 5) x.more m rest (λ taken. Q (t ++ taken) f)) field_is ((backs at (V4 (number_of x.field)) (w.1, tt)).back (at + 5) x.more f m rest x.more_fits ends) in
    behind d.head.length (at + 1) 4 bytes x.field x.more m rest (λ taken. Q (4 ∷ taken) f) x.parts x.size (rw (five at) t)
  where
    five : (n : ℕ) → n + 1 + 4 ≡ n + 5
    five n = omega arith

-- behind the family of an IPv6 address
sixteen_back : (b : Bool) (d : Draft) (p : AddressPlace) (at : ℕ) (Q : List ℕ → Frame → Type 0) → names_families d.head.version ≡ true → Onward d p Q
    → (bytes : List ℕ) (f : Frame) (m : ℕ) (rest : List ℕ) → IsBytes bytes → after_field (cond b (outcome.More (stands d (place.Address p) at stage.Sixteen)) (outcome.Malformed (at + 1))) bytes (λ next. eaten next [] bytes) ≡ End.Ends f m rest
    → Taken d.head.length (at + 1) bytes m rest (λ taken. Q (6 ∷ taken) f)
sixteen_back false d p at Q named backs bytes f m rest fits e = absurd (cc)
sixteen_back true d p at Q named backs bytes f m rest fits e =
    let x = field_of (stands d (place.Address p) at stage.Sixteen) bytes f m rest (omega arith) fits e in
    let w = wide_is x.field x.size x.field_fits in
    let field_is : address d.head.version (V6 (wide_number_of x.field)) ≡ 6 ∷ x.field = ap (λ (t : List ℕ). 6 ∷ t) w.0 in
    let t = subst (λ (t : List ℕ). Taken d.head.length (at + 17) x.more m rest (λ taken. Q (t ++ taken) f)) field_is ((backs at (V6 (wide_number_of x.field)) (w.1, named)).back (at + 17) x.more f m rest x.more_fits x.ends) in
    behind d.head.length (at + 1) 16 bytes x.field x.more m rest (λ taken. Q (6 ∷ taken) f) x.parts x.size (rw (seventeen at) t)
  where
    seventeen : (n : ℕ) → n + 1 + 16 ≡ n + 17
    seventeen n = omega arith

-- behind a byte that is to be a family
family_back : (is_4 is_6 : Bool) (d : Draft) (p : AddressPlace) (at k : ℕ) (Q : List ℕ → Frame → Type 0) → names_families d.head.version ≡ true → (is_4 ≡ true → k ≡ 4) → (is_6 ≡ true → k ≡ 6) → Onward d p Q
    → (bytes : List ℕ) (f : Frame) (m : ℕ) (rest : List ℕ) → IsBytes bytes
    → after_field (cond is_4 (after_family d at p stage.Four 4) (cond is_6 (after_family d at p stage.Sixteen 16) (outcome.Malformed at))) bytes (λ next. eaten next [] bytes) ≡ End.Ends f m rest
    → Taken d.head.length (at + 1) bytes m rest (λ taken. Q (k ∷ taken) f)
family_back true is_6 d p at k Q named four six backs bytes f m rest fits e =
    subst (λ (n : ℕ). Taken d.head.length (at + 1) bytes m rest (λ taken. Q (n ∷ taken) f)) (sym (four refl)) (four_back (leb (at + 1 + 4) d.head.length) d p at Q named backs bytes f m rest fits e)
family_back false true d p at k Q named four six backs bytes f m rest fits e =
    subst (λ (n : ℕ). Taken d.head.length (at + 1) bytes m rest (λ taken. Q (n ∷ taken) f)) (sym (six refl)) (sixteen_back (leb (at + 1 + 16) d.head.length) d p at Q named backs bytes f m rest fits e)
family_back false false d p at k Q named four six backs bytes f m rest fits e = absurd (cc)

named_back : (b : Bool) (d : Draft) (p : AddressPlace) (at : ℕ) (Q : List ℕ → Frame → Type 0) → names_families d.head.version ≡ true → Onward d p Q
    → (bytes : List ℕ) (f : Frame) (m : ℕ) (rest : List ℕ) → IsBytes bytes → after_field (cond b (outcome.More (stands d (place.Address p) at stage.Start)) (outcome.Malformed at)) bytes (λ next. eaten next [] bytes) ≡ End.Ends f m rest
    → Taken d.head.length at bytes m rest (λ taken. Q taken f)
named_back false d p at Q named backs bytes f m rest fits e = absurd (cc)
named_back true d p at Q named backs bytes f m rest fits e =
    let wide : width (stands d (place.Address p) at stage.Start) ≡ 1 = rw named refl in
    let x = field_of (stands d (place.Address p) at stage.Start) bytes f m rest (omega (arith, wide)) fits e in
    let k = number_of x.field in
    let read = family_is_read d p at x.field named in
    let ends = ap (λ (o : Outcome). after_field o x.more (λ next. eaten next [] x.more)) (sym read) ∙ x.ends in
    let t = family_back (eqb k 4 && not (last_is_v6 d p)) (eqb k 6) d p at k Q named (λ both. eqb-true k 4 (and_parts (eqb k 4) (not (last_is_v6 d p)) both).0) (λ same. eqb-true k 6 same) backs x.more f m rest x.more_fits ends in
    behind d.head.length at 1 bytes x.field x.more m rest (λ taken. Q taken f) x.parts (x.size ∙ wide)
    (subst (λ (t : List ℕ). Taken d.head.length (at + 1) x.more m rest (λ taken. Q (t ++ taken) f)) (one_of x.field (x.size ∙ wide)) t)

either_back : (v : Bool) (d : Draft) (p : AddressPlace) (at : ℕ) (Q : List ℕ → Frame → Type 0) → names_families d.head.version ≡ v → Onward d p Q
    → (bytes : List ℕ) (f : Frame) (m : ℕ) (rest : List ℕ) → IsBytes bytes → after_field (settled d.head.length (to_address d p) at) bytes (λ next. eaten next [] bytes) ≡ End.Ends f m rest
    → Taken d.head.length at bytes m rest (λ taken. Q taken f)
either_back true d p at Q named backs bytes f m rest fits e = named_back (leb (at + width (stands d (place.Address p) at stage.Start)) d.head.length) d p at Q named backs bytes f m rest fits e
either_back false d p at Q named backs bytes f m rest fits e = plain_back (leb (at + width (stands d (place.Address p) at stage.Start)) d.head.length) d p at Q named backs bytes f m rest fits e

pub address_backs : (d : Draft) (p : AddressPlace) (Q : List ℕ → Frame → Type 0) → Onward d p Q → Backs d.head.length (to_address d p) Q
address_backs d p Q backs = record { back = λ at bytes f m rest fits e. either_back (names_families d.head.version) d p at Q refl backs bytes f m rest fits e }
