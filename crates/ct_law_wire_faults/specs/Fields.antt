-- A frame field by field, from left to right: which field comes next, how many bytes it has, what it shows once they are
-- all there, and what a reader makes of the fields that the bytes have.
use Rattle.std.specs.Prelude.{ℕ, ◌+◌, ◌<◌, ◌≤◌, ◌≡◌, ◌≢◌, ◌&&◌, ◌==◌, not, List, [], ◌++◌, length, if◌then◌else◌}
use Rattle.ct_values.specs.declared.address.Address.TheVariants.{V6}
use Rattle.ct_frame.specs.declared.frame.Frame.{Frame}
use Rattle.ct_wire_fields.specs.declared.place.NumberPlace.{NumberPlace}
use Rattle.ct_wire_fields.specs.declared.place.NumberPlace.TheVariants as number
use Rattle.ct_wire_fields.specs.declared.place.TextPlace.{TextPlace}
use Rattle.ct_wire_fields.specs.declared.place.AddressPlace.{AddressPlace}
use Rattle.ct_wire_fields.specs.declared.place.Place.{Place}
use Rattle.ct_wire_fields.specs.declared.place.Place.TheVariants as place
use Rattle.ct_wire_fields.specs.declared.version.Version.{Version}
use Rattle.ct_wire_fields.specs.declared.draft.Draft.{Draft}
use Rattle.ct_wire_fields.specs.declared.draft.Step.{Step}
use Rattle.ct_wire_fields.specs.declared.draft.Step.TheVariants as step
use Rattle.ct_wire_fields.specs.Version.{names_families}
use Rattle.ct_wire_fields.specs.Reading.{no_draft, number_read, text_read, address_read}
use Rattle.ct_wire.specs.Cursor.{number_of, wide_number_of, plain_address, number_width, text_width, is_text_length, last_is_v6}

-- A field: a number; the length of a key or a value, and its bytes, of that length; an address in a version that names
-- no families; and else its family, and the 4 or 16 bytes of its number.
pub data Field : Type 0 where
  Number : NumberPlace → Field
  Size : TextPlace → Field
  Text : TextPlace → ℕ → Field
  Plain : AddressPlace → Field
  Family : AddressPlace → Field
  Four : AddressPlace → Field
  Sixteen : AddressPlace → Field

-- how many bytes it has
abbrev pub field_width : Field → ℕ
field_width (Number p) = number_width p
field_width (Size p) = text_width p
field_width (Text p n) = n
field_width (Plain p) = 4
field_width (Family p) = 1
field_width (Four p) = 4
field_width (Sixteen p) = 16

-- The next field, behind what was read. `at` is the offset of the number, the key, the value or the address that it is
-- a field of.
pub record Ahead : Type 0 where
  pub draft : Draft
  pub field : Field
  pub at : ℕ

-- where the field itself begins: the bytes of a key or a value behind its length, those of an address behind its family
abbrev pub field_start : Field → ℕ → ℕ
field_start (Text p n) at = at + text_width p
field_start (Four p) at = at + 1
field_start (Sixteen p) at = at + 1
field_start _ at = at

abbrev pub begin_of : Ahead → ℕ
begin_of a = field_start a.field a.at

abbrev pub field_end : Field → ℕ → ℕ
field_end field at = field_start field at + field_width field

abbrev pub end_of : Ahead → ℕ
end_of a = field_end a.field a.at

-- What a whole field shows: it keeps its rule, and this field comes next; it keeps its rule, and is the last of this
-- frame; or it breaks its rule, which is named by this offset.
pub data Judged : Type 0 where
  Keeps : Ahead → Judged
  Ends : Frame → Judged
  Breaks : ℕ → Judged

-- the first field at a place
abbrev pub first_field : Version → Place → Field
first_field v (place.Number p) = Number p
first_field v (place.Text p) = Size p
first_field v (place.Address p) = if names_families v then Family p else Plain p

-- what a number, a key, a value or an address shows that ends at `end`
abbrev pub step_judged : Step → ℕ → Judged
step_judged (step.Next r) end = Keeps (record { draft = r.draft; field = first_field r.draft.head.version r.place; at = end })
step_judged (step.Whole f) end = Ends f
step_judged (step.Broken offset) end = Breaks offset

-- a key has 1 to 255 bytes and a value at most 1,024, in a persistent database at least 1; and a value of no bytes is
-- whole with its length
abbrev pub size_judged : Draft → ℕ → TextPlace → ℕ → Judged
size_judged d at p n =
    if is_text_length p n
    then (if n == 0 then step_judged (text_read d at [] p) (field_end (Size p) at) else Keeps (record { draft = d; field = Text p n; at = at }))
    else Breaks at

-- the families are 4 and 6, and no IPv4 address comes after an IPv6 address
abbrev pub family_judged : Draft → ℕ → AddressPlace → ℕ → Judged
family_judged d at p n =
    if n == 4 && not (last_is_v6 d p) then Keeps (record { draft = d; field = Four p; at = at }) else (
    if n == 6 then Keeps (record { draft = d; field = Sixteen p; at = at }) else Breaks at)

abbrev pub field_judged : Draft → ℕ → Field → List ℕ → Judged
field_judged d at (Number p) bytes = step_judged (number_read d at (number_of bytes) p) (field_end (Number p) at)
field_judged d at (Size p) bytes = size_judged d at p (number_of bytes)
field_judged d at (Text p n) bytes = step_judged (text_read d at bytes p) (field_end (Text p n) at)
field_judged d at (Plain p) bytes = step_judged (address_read d at (plain_address bytes) p) (field_end (Plain p) at)
field_judged d at (Family p) bytes = family_judged d at p (number_of bytes)
field_judged d at (Four p) bytes = step_judged (address_read d at (plain_address bytes) p) (field_end (Four p) at)
field_judged d at (Sixteen p) bytes = step_judged (address_read d at (V6 (wide_number_of bytes)) p) (field_end (Sixteen p) at)

-- what these bytes show, all those of the next field
abbrev pub judged : Ahead → List ℕ → Judged
judged a bytes = field_judged a.draft a.at a.field bytes

-- a frame begins with its length
abbrev pub at_front : Ahead
at_front = record { draft = no_draft; field = Number number.Length; at = 0 }

-- The next field does not pass the frame's length, or it does. The first field says that length, and has room.
abbrev pub HasRoom : Ahead → Type 0
HasRoom a = 0 < begin_of a → end_of a ≤ a.draft.head.length

abbrev pub LacksRoom : Ahead → Type 0
LacksRoom a = (0 < begin_of a) × (a.draft.head.length < end_of a)

-- the next field is whole: it has room, and these are its bytes
abbrev pub AreField : Ahead → List ℕ → Type 0
AreField a field = HasRoom a × (length field ≡ field_width a.field)

-- all whole fields before this one keep their rules, and `rest` stands behind them
pub data KeptTo (bytes : List ℕ) : Ahead → List ℕ → Type 0 where
  Front : KeptTo bytes at_front bytes
  Behind : (a b : Ahead) (field rest : List ℕ) → KeptTo bytes a (field ++ rest) → AreField a field → judged a field ≡ Keeps b → KeptTo bytes b rest

-- the bytes begin with this frame, of this length: each field keeps its rule, and the last ends where the frame does
pub record IsRead (bytes : List ℕ) (f : Frame) (n : ℕ) : Type 0 where
  pub last : Ahead
  pub field : List ℕ
  pub rest : List ℕ
  pub kept : KeptTo bytes last (field ++ rest)
  pub whole : AreField last field
  pub ends : judged last field ≡ Ends f
  pub fills : end_of last ≡ last.draft.head.length
  pub size : n ≡ end_of last

-- the input ends before or inside a field, and each whole field before keeps its rule
pub record IsShort (bytes : List ℕ) : Type 0 where
  pub next : Ahead
  pub rest : List ℕ
  pub kept : KeptTo bytes next rest
  pub room : HasRoom next
  pub lacks : length rest < field_width next.field

-- The first whole field that breaks its rule is named by this offset. A field that would pass the frame's length breaks
-- its rule as soon as all before it is whole, and where a body ends before the frame's length, its end breaks a rule.
pub data IsMalformed (bytes : List ℕ) (offset : ℕ) : Type 0 where
  Passes : (a : Ahead) (rest : List ℕ) → KeptTo bytes a rest → LacksRoom a → offset ≡ begin_of a → IsMalformed bytes offset
  Fails : (a : Ahead) (field rest : List ℕ) → KeptTo bytes a (field ++ rest) → AreField a field → judged a field ≡ Breaks offset → IsMalformed bytes offset
  Lacks : (a : Ahead) (field rest : List ℕ) (f : Frame) → KeptTo bytes a (field ++ rest) → AreField a field → judged a field ≡ Ends f → end_of a ≢ a.draft.head.length → offset ≡ end_of a → IsMalformed bytes offset
