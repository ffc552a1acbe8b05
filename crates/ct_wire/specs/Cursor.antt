-- A frame's fields as bytes: how many bytes a field has, and what they lead to. A field that would pass the frame's
-- length breaks its rule at its offset, and so does the end of a body that comes before the frame's length.
use Rattle.std.specs.Prelude.{ℕ, ◌+◌, ◌*◌, ◌%◌, ◌^◌, ◌<◌, ◌≤◌, Bool, true, false, ◌&&◌, ◌==◌, not, nat_lt, nat_le, List, [], ◌∷◌, length, take, drop, Option, None, Some, if◌then◌else◌}
use Rattle.std.specs.Int.{w16, w32, w64, from_be_bytes}
use Rattle.ct_values.specs.declared.address.Address.{Address}
use Rattle.ct_values.specs.declared.address.Address.TheVariants.{V4, V6}
use Rattle.ct_frame.specs.declared.frame.Assigned.{Assigned}
use Rattle.ct_wire_fields.specs.declared.place.NumberPlace.{NumberPlace}
use Rattle.ct_wire_fields.specs.declared.place.NumberPlace.TheVariants as number
use Rattle.ct_wire_fields.specs.declared.place.TextPlace.{TextPlace}
use Rattle.ct_wire_fields.specs.declared.place.TextPlace.TheVariants as text
use Rattle.ct_wire_fields.specs.declared.place.AddressPlace.{AddressPlace}
use Rattle.ct_wire_fields.specs.declared.place.AddressPlace.TheVariants as address
use Rattle.ct_wire_fields.specs.declared.place.Place.{Place}
use Rattle.ct_wire_fields.specs.declared.place.Place.TheVariants as place
use Rattle.ct_wire_fields.specs.declared.version.Version.{Version}
use Rattle.ct_wire_fields.specs.declared.draft.Draft.{Draft}
use Rattle.ct_wire_fields.specs.declared.draft.Reading.{Reading}
use Rattle.ct_wire_fields.specs.declared.draft.Step.{Step}
use Rattle.ct_wire_fields.specs.declared.draft.Step.TheVariants.{Next, Whole, Broken}
use Rattle.ct_wire_fields.specs.Version.{names_families}
use Rattle.ct_wire_fields.specs.Check.{last_of}
use Rattle.ct_wire_fields.specs.Reading.{no_draft, number_read, text_read, address_read}
use Rattle.ct_wire.specs.declared.cursor.Cursor.{Cursor}
use Rattle.ct_wire.specs.declared.cursor.Outcome.{Outcome}
use Rattle.ct_wire.specs.declared.cursor.Outcome.TheVariants as outcome
use Rattle.ct_wire.specs.declared.cursor.Taken.{Taken}
use Rattle.ct_wire.specs.declared.cursor.Taken.TheVariants as taken
use Rattle.ct_wire.specs.declared.cursor.Stage.{Stage}
use Rattle.ct_wire.specs.declared.cursor.Stage.TheVariants as stage

abbrev pub number_width : NumberPlace → ℕ
number_width (number.Kind key) = 1
number_width number.Generation = 8
number_width number.Request = 8
number_width (number.Least key) = 8
number_width (number.Rsn key) = 8
number_width number.VolatileBase = 8
number_width number.PersistentBase = 8
number_width (number.RowRsn left key) = 8
number_width (number.PTableSeq left) = 8
number_width number.Seq = 8
number_width number.Run = 8
number_width _ = 4

-- the length of a key has one byte, and that of a value two
abbrev pub text_width : TextPlace → ℕ
text_width text.Key = 1
text_width (text.RowKey left start) = 1
text_width (text.PairKey left more) = 1
text_width (text.WriteKey left) = 1
text_width _ = 2

-- a key has 1 to 255 bytes, and a value at most 1,024; in a persistent database no value is empty
abbrev pub is_text_length : TextPlace → ℕ → Bool
is_text_length text.Key n = nat_lt 0 n && nat_lt n 256
is_text_length (text.RowKey left start) n = nat_lt 0 n && nat_lt n 256
is_text_length (text.PairKey left more) n = nat_lt 0 n && nat_lt n 256
is_text_length (text.WriteKey left) n = nat_lt 0 n && nat_lt n 256
is_text_length (text.PairValue left more key) n = nat_lt 0 n && nat_lt n 1025
is_text_length _ n = nat_lt n 1025

-- the number of one, two, four or eight bytes
abbrev pub number_of : List ℕ → ℕ
number_of (a ∷ []) = a
number_of (a ∷ b ∷ []) = from_be_bytes w16 (a ∷ b ∷ [])
number_of (a ∷ b ∷ c ∷ d ∷ []) = from_be_bytes w32 (a ∷ b ∷ c ∷ d ∷ [])
number_of (a ∷ b ∷ c ∷ d ∷ e ∷ f ∷ g ∷ h ∷ []) = from_be_bytes w64 (a ∷ b ∷ c ∷ d ∷ e ∷ f ∷ g ∷ h ∷ [])
number_of _ = 0

-- the number of 16 bytes, by its halves
abbrev pub wide_number_of : List ℕ → ℕ
wide_number_of bytes = if length bytes == 16 then number_of (take 8 bytes) * 2 ^ 64 + number_of (drop 8 bytes) else 0

abbrev pub is_v6 : Option Address → Bool
is_v6 (Some (V6 n)) = true
is_v6 _ = false

abbrev pub address_in : Option Assigned → Option Address
address_in None = None
address_in (Some a) = Some a.address

abbrev pub last_is_v6 : Draft → AddressPlace → Bool
last_is_v6 d (address.Held left) = is_v6 (last_of d.addresses)
last_is_v6 d (address.Assigned left) = is_v6 (address_in (last_of d.assigned))

-- the first field at a place
abbrev pub place_width : Version → Place → ℕ
place_width version (place.Number p) = number_width p
place_width version (place.Text p) = text_width p
place_width version (place.Address p) = if names_families version then 1 else 4

abbrev pub start_width : Reading → ℕ
start_width r = place_width r.draft.head.version r.place

-- the next field
abbrev pub stage_width : Version → Stage → Place → ℕ
stage_width version (stage.Text length) (place.Text p) = length
stage_width version stage.Four (place.Address p) = 4
stage_width version stage.Sixteen (place.Address p) = 16
stage_width version s p = place_width version p

abbrev pub width : Cursor → ℕ
width c = stage_width c.reading.draft.head.version c.stage c.reading.place

-- a field of this width does not pass the frame's length
abbrev pub has_room : ℕ → ℕ → ℕ → Bool
has_room length at width = nat_le (at + width) length

abbrev pub arrive : Reading → ℕ → Outcome
arrive r at = if has_room r.draft.head.length at (start_width r) then outcome.More (record { reading = r; at = at; stage = stage.Start }) else outcome.Malformed at

-- what a step leads to, in a frame of this length, where the fields read so far end at `at`
abbrev pub settled : ℕ → Step → ℕ → Outcome
settled length (Next r) at = arrive r at
settled length (Whole f) at = if at == length then outcome.Whole f at else outcome.Malformed at
settled length (Broken offset) at = outcome.Malformed offset

abbrev pub number_field : Draft → ℕ → NumberPlace → List ℕ → Outcome
number_field d at p field = settled d.head.length (number_read d at (number_of field) p) (at + number_width p)

-- a text of no bytes is whole with its length
abbrev pub text_length_read : Draft → ℕ → TextPlace → ℕ → Outcome
text_length_read d at p n =
    if is_text_length p n then (
    if n == 0 then settled d.head.length (text_read d at [] p) (at + text_width p) else (
    if has_room d.head.length (at + text_width p) n
    then outcome.More (record { reading = record { draft = d; place = place.Text p }; at = at; stage = stage.Text n })
    else outcome.Malformed (at + text_width p)))
    else outcome.Malformed at

abbrev pub text_field : Draft → ℕ → TextPlace → ℕ → List ℕ → Outcome
text_field d at p n field = settled d.head.length (text_read d at field p) (at + text_width p + n)

abbrev pub text_stage : Draft → ℕ → TextPlace → Stage → List ℕ → Outcome
text_stage d at p (stage.Text n) field = text_field d at p n field
text_stage d at p _ field = text_length_read d at p (number_of field)

abbrev pub address_field : Draft → ℕ → AddressPlace → Address → ℕ → Outcome
address_field d at p a end = settled d.head.length (address_read d at a p) end

abbrev pub after_family : Draft → ℕ → AddressPlace → Stage → ℕ → Outcome
after_family d at p s width =
    if has_room d.head.length (at + 1) width
    then outcome.More (record { reading = record { draft = d; place = place.Address p }; at = at; stage = s })
    else outcome.Malformed (at + 1)

-- the families are 4 and 6, and no IPv4 address comes after an IPv6 address
abbrev pub family_read : Draft → ℕ → AddressPlace → ℕ → Outcome
family_read d at p family =
    if family == 4 && not (last_is_v6 d p) then after_family d at p stage.Four 4 else (
    if family == 6 then after_family d at p stage.Sixteen 16 else outcome.Malformed at)

abbrev pub plain_address : List ℕ → Address
plain_address field = V4 (number_of field % 4294967296)

-- all of an address, or its family
abbrev pub address_start : Draft → ℕ → AddressPlace → List ℕ → Outcome
address_start d at p field = if names_families d.head.version then family_read d at p (number_of field) else address_field d at p (plain_address field) (at + 4)

abbrev pub address_stage : Draft → ℕ → AddressPlace → Stage → List ℕ → Outcome
address_stage d at p stage.Four field = address_field d at p (plain_address field) (at + 5)
address_stage d at p stage.Sixteen field = address_field d at p (V6 (wide_number_of field)) (at + 17)
address_stage d at p _ field = address_start d at p field

abbrev pub place_read : Draft → ℕ → Stage → Place → List ℕ → Outcome
place_read d at s (place.Number p) field = number_field d at p field
place_read d at s (place.Text p) field = text_stage d at p s field
place_read d at s (place.Address p) field = address_stage d at p s field

-- the next field, taken
abbrev pub field_read : Cursor → List ℕ → Outcome
field_read c field = place_read c.reading.draft c.at c.stage c.reading.place field

-- before the first field of a frame
abbrev pub start : Cursor
start = record { reading = record { draft = no_draft; place = place.Number number.Length }; at = 0; stage = stage.Start }

-- a text that is still to come has 1 to 1,024 bytes
abbrev pub IsSoundStage : Stage → Type 0
IsSoundStage (stage.Text n) = (1 ≤ n) × (n ≤ 1024)
IsSoundStage _ = Unit {0}

abbrev pub IsSound : Cursor → Type 0
IsSound c = IsSoundStage c.stage × (c.at < 2 ^ 32)

-- what a field leads to, with the cursor as it is left
abbrev pub outcome_of : Taken → Cursor → Outcome
outcome_of taken.More c = outcome.More c
outcome_of (taken.Whole f n) c = outcome.Whole f n
outcome_of (taken.Malformed offset) c = outcome.Malformed offset

abbrev pub IsSoundTaken : Taken → Cursor → Type 0
IsSoundTaken taken.More c = IsSound c
IsSoundTaken _ c = Unit {0}
