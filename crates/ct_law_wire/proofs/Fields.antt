-- One field at a time: a field that stands at its place is read, and reading goes on behind it.
use Rattle.std.proofs.Common.{◌≡◌, ℕ, ◌+◌, ◌*◌, ◌<◌, ◌≤◌, ◌^◌, ◌/◌, ◌%◌, Bool, true, false, cond, leb, eqb, List, [], ◌∷◌, ◌++◌, length, refl, sym, ap, subst, ◌∙◌, append_assoc, arith}
use Rattle.std.specs.Int.{w16, to_be_bytes}
use Rattle.std.proofs.lemmas.Bool.{eq-eqb, le-leb, ne_eqb}
use Rattle.std.proofs.lemmas.List.{length-append}
use Rattle.std.proofs.lemmas.Nat.{from_be_bytes-to_be_bytes_2, from_be_bytes-to_be_bytes_4, from_be_bytes-to_be_bytes_8}
use Rattle.ct_values.specs.declared.address.Address.TheVariants.{V4, V6}
use Rattle.ct_frame.specs.declared.frame.Frame.{Frame}
use Rattle.ct_wire_fields.specs.declared.place.NumberPlace.{NumberPlace}
use Rattle.ct_wire_fields.specs.declared.place.TextPlace.{TextPlace}
use Rattle.ct_wire_fields.specs.declared.place.AddressPlace.{AddressPlace}
use Rattle.ct_wire_fields.specs.declared.place.Place.{Place}
use Rattle.ct_wire_fields.specs.declared.place.Place.TheVariants as place
use Rattle.ct_wire_fields.specs.declared.draft.Draft.{Draft}
use Rattle.ct_wire_fields.specs.declared.draft.Step.{Step}
use Rattle.ct_wire_fields.specs.declared.draft.Step.TheVariants as step
use Rattle.ct_wire_fields.specs.Version.{names_families}
use Rattle.ct_wire_fields.specs.Reading.{to_number, to_text, to_address, number_read, text_read, address_read}
use Rattle.ct_wire.specs.declared.cursor.Cursor.{Cursor}
use Rattle.ct_wire.specs.declared.cursor.Stage.{Stage}
use Rattle.ct_wire.specs.declared.cursor.Stage.TheVariants as stage
use Rattle.ct_wire.specs.Cursor.{field_read, number_of, number_width, text_width, is_text_length, last_is_v6, plain_address, settled, wide_number_of, width}
use Rattle.ct_wire.specs.Decoding.{End, after_field, eaten}
use Rattle.ct_wire.specs.Spelling.{u32, u64, key, value}
use Rattle.ct_wire.proofs.Eaten.{eaten_whole}

-- where a cursor stands in a frame
abbrev pub stands : Draft → Place → ℕ → Stage → Cursor
stands d p at s = record { reading = record { draft = d; place = p }; at = at; stage = s }

-- where these bytes are what is left of a frame of length `long`, reading goes on from this step to this frame, whatever
-- follows
pub record Goes (long : ℕ) (s : Step) (bytes : List ℕ) (f : Frame) : Type 0 where
  pub reads : (at : ℕ) → at + length bytes ≡ long → long ≤ 268435456 → (rest : List ℕ) → after_field (settled long s at) (bytes ++ rest) (λ next. eaten next [] (bytes ++ rest)) ≡ End.Ends f long rest

-- the last field was read
pub whole_goes : (long : ℕ) (f : Frame) → Goes long (step.Whole f) [] f
whole_goes long f = record {
  reads = λ at fills short rest.
      (let end : at ≡ long = omega (arith, fills) in
      let same : eqb at long ≡ true = eq-eqb _ _ end in
      rw same (ap (λ (n : ℕ). End.Ends f n rest) end));
}

-- a test that a field passes
pub when : {long : ℕ} {t : Bool} {s : Step} (e : Step) {bytes : List ℕ} {f : Frame} → t ≡ true → Goes long s bytes f → Goes long (cond t s e) bytes f
when {long = long} {s = s} e {bytes = bytes} {f = f} passes goes = subst (λ (t : Bool). Goes long (cond t s e) bytes f) (sym passes) goes

-- a field that is read where a cursor stands
pub field_eaten : (c : Cursor) (field bytes rest : List ℕ) → length field ≡ width c → 0 < length field → eaten c [] ((field ++ bytes) ++ rest) ≡ after_field (field_read c field) (bytes ++ rest) (λ next. eaten next [] (bytes ++ rest))
field_eaten c field bytes rest is some = ap (eaten c []) (append_assoc field bytes rest) ∙ eaten_whole c field (bytes ++ rest) is some

-- ---- numbers

number_goes : (d : Draft) (p : NumberPlace) (field bytes : List ℕ) (f : Frame) → length field ≡ number_width p → 0 < length field
    → ((at : ℕ) → Goes d.head.length (number_read d at (number_of field) p) bytes f) → Goes d.head.length (to_number d p) (field ++ bytes) f
number_goes d p field bytes f is some goes = record {
  reads = λ at fills short rest.
      (let fits : leb (at + number_width p) d.head.length ≡ true = le-leb _ _ (omega (arith, fills, is, length-append field bytes)) in
      let left : at + number_width p + length bytes ≡ d.head.length = omega (arith, fills, is, length-append field bytes) in
      rw fits (field_eaten (stands d (place.Number p) at stage.Start) field bytes rest is some ∙ (goes at).reads (at + number_width p) left short rest));
}

pub word_goes : (d : Draft) (p : NumberPlace) (n : ℕ) (bytes : List ℕ) (f : Frame) → number_width p ≡ 4 → n < 2 ^ 32
    → ((at : ℕ) → Goes d.head.length (number_read d at n p) bytes f) → Goes d.head.length (to_number d p) (u32 n ++ bytes) f
word_goes d p n bytes f is small goes =
    let read : number_of (u32 n) ≡ n = from_be_bytes-to_be_bytes_4 n small in
    number_goes d p (u32 n) bytes f (sym is) (omega arith) (λ at. subst (λ (k : ℕ). Goes d.head.length (number_read d at k p) bytes f) (sym read) (goes at))

pub long_goes : (d : Draft) (p : NumberPlace) (n : ℕ) (bytes : List ℕ) (f : Frame) → number_width p ≡ 8 → n < 2 ^ 64
    → ((at : ℕ) → Goes d.head.length (number_read d at n p) bytes f) → Goes d.head.length (to_number d p) (u64 n ++ bytes) f
long_goes d p n bytes f is small goes =
    let read : number_of (u64 n) ≡ n = from_be_bytes-to_be_bytes_8 n small in
    number_goes d p (u64 n) bytes f (sym is) (omega arith) (λ at. subst (λ (k : ℕ). Goes d.head.length (number_read d at k p) bytes f) (sym read) (goes at))

pub byte_goes : (d : Draft) (p : NumberPlace) (n : ℕ) (bytes : List ℕ) (f : Frame) → number_width p ≡ 1
    → ((at : ℕ) → Goes d.head.length (number_read d at n p) bytes f) → Goes d.head.length (to_number d p) (n ∷ bytes) f
byte_goes d p n bytes f is goes = number_goes d p (n ∷ []) bytes f (sym is) (omega arith) goes

-- ---- texts

text_goes : (d : Draft) (p : TextPlace) (count t bytes : List ℕ) (f : Frame) → length count ≡ text_width p → 0 < length count → number_of count ≡ length t → is_text_length p (length t) ≡ true
    → ((at : ℕ) → Goes d.head.length (text_read d at t p) bytes f) → Goes d.head.length (to_text d p) (count ++ (t ++ bytes)) f
text_goes d p count [] bytes f is some n ok goes = record {
  reads = λ at fills short rest.
      (let fits : leb (at + text_width p) d.head.length ≡ true = le-leb _ _ (omega (arith, fills, is, length-append count bytes)) in
      let left : at + text_width p + length bytes ≡ d.head.length = omega (arith, fills, is, length-append count bytes) in
      rw fits (field_eaten (stands d (place.Text p) at stage.Start) count bytes rest is some ∙ rw (n, ok) ((goes at).reads (at + text_width p) left short rest)));
}
text_goes d p count (b ∷ t) bytes f is some n ok goes = record {
  reads = λ at fills short rest.
      (let all : length (count ++ ((b ∷ t) ++ bytes)) ≡ length count + (length (b ∷ t) + length bytes) = length-append count ((b ∷ t) ++ bytes) ∙ ap (λ (k : ℕ). length count + k) (length-append (b ∷ t) bytes) in
      let fits : leb (at + text_width p) d.head.length ≡ true = le-leb _ _ (omega (arith, fills, is, all)) in
      let fits_all : leb (at + text_width p + length (b ∷ t)) d.head.length ≡ true = le-leb _ _ (omega (arith, fills, is, all)) in
      let left : at + text_width p + length (b ∷ t) + length bytes ≡ d.head.length = omega (arith, fills, is, all) in
      let some_more : eqb (length (b ∷ t)) 0 ≡ false = ne_eqb _ _ (λ e. omega (arith, e)) in
      let behind : eaten (stands d (place.Text p) at (stage.Text (length (b ∷ t)))) [] (((b ∷ t) ++ bytes) ++ rest) ≡ End.Ends f d.head.length rest =
      field_eaten (stands d (place.Text p) at (stage.Text (length (b ∷ t)))) (b ∷ t) bytes rest refl (omega arith) ∙ (goes at).reads (at + text_width p + length (b ∷ t)) left short rest in
      rw fits (field_eaten (stands d (place.Text p) at stage.Start) count ((b ∷ t) ++ bytes) rest is some ∙ rw (n, ok, some_more, fits_all) behind));
}

pub key_goes : (d : Draft) (p : TextPlace) (k bytes : List ℕ) (f : Frame) → text_width p ≡ 1 → is_text_length p (length k) ≡ true
    → ((at : ℕ) → Goes d.head.length (text_read d at k p) bytes f) → Goes d.head.length (to_text d p) (key k ++ bytes) f
key_goes d p k bytes f is ok goes = text_goes d p (length k ∷ []) k bytes f (sym is) (omega arith) refl ok goes

pub value_goes : (d : Draft) (p : TextPlace) (x bytes : List ℕ) (f : Frame) → text_width p ≡ 2 → length x < 1025 → is_text_length p (length x) ≡ true
    → ((at : ℕ) → Goes d.head.length (text_read d at x p) bytes f) → Goes d.head.length (to_text d p) (value x ++ bytes) f
value_goes d p x bytes f is few ok goes =
    let read : number_of (to_be_bytes w16 (length x)) ≡ length x = from_be_bytes-to_be_bytes_2 (length x) (omega (arith, few)) in
    text_goes d p (to_be_bytes w16 (length x)) x bytes f (sym is) (omega arith) read ok goes

-- ---- addresses

plain_of : (n : ℕ) → n < 2 ^ 32 → plain_address (u32 n) ≡ V4 n
plain_of n small =
    let read : number_of (u32 n) ≡ n = from_be_bytes-to_be_bytes_4 n small in
    let same : number_of (u32 n) % 4294967296 ≡ n = omega (arith, read, small) in
    ap V4 same

-- a number without a family
pub plain_goes : (d : Draft) (p : AddressPlace) (n : ℕ) (bytes : List ℕ) (f : Frame) → names_families d.head.version ≡ false → n < 2 ^ 32
    → ((at : ℕ) → Goes d.head.length (address_read d at (V4 n) p) bytes f) → Goes d.head.length (to_address d p) (u32 n ++ bytes) f
plain_goes d p n bytes f unnamed small goes = record {
  reads = λ at fills short rest.
      (let four : 4 ≡ width (stands d (place.Address p) at stage.Start) = rw unnamed refl in
      let fits : leb (at + width (stands d (place.Address p) at stage.Start)) d.head.length ≡ true = le-leb _ _ (omega (arith, fills, four)) in
      let left : at + 4 + length bytes ≡ d.head.length = omega (arith, fills) in
      rw fits (field_eaten (stands d (place.Address p) at stage.Start) (u32 n) bytes rest four (omega arith) ∙ rw (unnamed, plain_of n small) ((goes at).reads (at + 4) left short rest)));
}

-- a number behind its family
pub four_goes : (d : Draft) (p : AddressPlace) (n : ℕ) (bytes : List ℕ) (f : Frame) → names_families d.head.version ≡ true → last_is_v6 d p ≡ false → n < 2 ^ 32
    → ((at : ℕ) → Goes d.head.length (address_read d at (V4 n) p) bytes f) → Goes d.head.length (to_address d p) (4 ∷ (u32 n ++ bytes)) f
four_goes d p n bytes f named first small goes = record {
  reads = λ at fills short rest.
      (let one : 1 ≡ width (stands d (place.Address p) at stage.Start) = rw named refl in
      let fits : leb (at + width (stands d (place.Address p) at stage.Start)) d.head.length ≡ true = le-leb _ _ (omega (arith, fills, one)) in
      let fits_all : leb (at + 1 + 4) d.head.length ≡ true = le-leb _ _ (omega (arith, fills)) in
      let left : at + 5 + length bytes ≡ d.head.length = omega (arith, fills) in
      let behind : eaten (stands d (place.Address p) at stage.Four) [] ((u32 n ++ bytes) ++ rest) ≡ End.Ends f d.head.length rest =
      field_eaten (stands d (place.Address p) at stage.Four) (u32 n) bytes rest refl (omega arith) ∙ rw (plain_of n small) ((goes at).reads (at + 5) left short rest) in
      rw fits (field_eaten (stands d (place.Address p) at stage.Start) (4 ∷ []) (u32 n ++ bytes) rest one (omega arith) ∙ rw (named, first, fits_all) behind));
}

wide_of : (n : ℕ) → n < 2 ^ 128 → wide_number_of (u64 (n / 2 ^ 64) ++ u64 (n % 2 ^ 64)) ≡ n
wide_of n small =
    let high : number_of (u64 (n / 2 ^ 64)) ≡ n / 2 ^ 64 = from_be_bytes-to_be_bytes_8 (n / 2 ^ 64) (omega (arith, small)) in
    let low : number_of (u64 (n % 2 ^ 64)) ≡ n % 2 ^ 64 = from_be_bytes-to_be_bytes_8 (n % 2 ^ 64) (omega arith) in
    let whole : number_of (u64 (n / 2 ^ 64)) * 2 ^ 64 + number_of (u64 (n % 2 ^ 64)) ≡ n = omega (arith, high, low) in
    whole

pub sixteen_goes : (d : Draft) (p : AddressPlace) (n : ℕ) (bytes : List ℕ) (f : Frame) → names_families d.head.version ≡ true → n < 2 ^ 128
    → ((at : ℕ) → Goes d.head.length (address_read d at (V6 n) p) bytes f) → Goes d.head.length (to_address d p) (6 ∷ ((u64 (n / 2 ^ 64) ++ u64 (n % 2 ^ 64)) ++ bytes)) f
sixteen_goes d p n bytes f named small goes = record {
  reads = λ at fills short rest.
      (let one : 1 ≡ width (stands d (place.Address p) at stage.Start) = rw named refl in
      let fits : leb (at + width (stands d (place.Address p) at stage.Start)) d.head.length ≡ true = le-leb _ _ (omega (arith, fills, one)) in
      let fits_all : leb (at + 1 + 16) d.head.length ≡ true = le-leb _ _ (omega (arith, fills)) in
      let left : at + 17 + length bytes ≡ d.head.length = omega (arith, fills) in
      let behind : eaten (stands d (place.Address p) at stage.Sixteen) [] (((u64 (n / 2 ^ 64) ++ u64 (n % 2 ^ 64)) ++ bytes) ++ rest) ≡ End.Ends f d.head.length rest =
      field_eaten (stands d (place.Address p) at stage.Sixteen) (u64 (n / 2 ^ 64) ++ u64 (n % 2 ^ 64)) bytes rest refl (omega arith) ∙ rw (wide_of n small) ((goes at).reads (at + 17) left short rest) in
      rw fits (field_eaten (stands d (place.Address p) at stage.Start) (6 ∷ []) ((u64 (n / 2 ^ 64) ++ u64 (n % 2 ^ 64)) ++ bytes) rest one (omega arith) ∙ rw (named, fits_all) behind));
}
