-- What a whole field shows is what reading its bytes one after the other leads to.
use Rattle.std.proofs.Common.{◌≡◌, ℕ, ◌+◌, ◌<◌, Bool, true, false, cond, eqb, not, ◌&&◌, List, [], ◌++◌, length, refl, sym, ap, subst, ◌∙◌, arith, if◌then◌else◌, ◌==◌}
use Rattle.std.proofs.lemmas.Bool.{eqb-false}
use Rattle.ct_values.specs.declared.address.Address.TheVariants.{V6}
use Rattle.ct_wire_fields.specs.declared.place.NumberPlace.{NumberPlace}
use Rattle.ct_wire_fields.specs.declared.place.NumberPlace.TheVariants as number
use Rattle.ct_wire_fields.specs.declared.place.TextPlace.{TextPlace}
use Rattle.ct_wire_fields.specs.declared.place.TextPlace.TheVariants as text
use Rattle.ct_wire_fields.specs.declared.place.AddressPlace.{AddressPlace}
use Rattle.ct_wire_fields.specs.declared.place.Place.{Place}
use Rattle.ct_wire_fields.specs.declared.place.Place.TheVariants as place
use Rattle.ct_wire_fields.specs.declared.version.Version.{Version}
use Rattle.ct_wire_fields.specs.declared.draft.Draft.{Draft}
use Rattle.ct_wire_fields.specs.declared.draft.Step.{Step}
use Rattle.ct_wire_fields.specs.declared.draft.Step.TheVariants as step
use Rattle.ct_wire_fields.specs.Version.{names_families}
use Rattle.ct_wire_fields.specs.Reading.{number_read, text_read, address_read}
use Rattle.ct_wire.specs.declared.cursor.Cursor.{Cursor}
use Rattle.ct_wire.specs.declared.cursor.Outcome.{Outcome}
use Rattle.ct_wire.specs.declared.cursor.Outcome.TheVariants as outcome
use Rattle.ct_wire.specs.declared.cursor.Stage.{Stage}
use Rattle.ct_wire.specs.declared.cursor.Stage.TheVariants as stage
use Rattle.ct_wire.specs.Cursor.{after_family, arrive, field_read, has_room, is_text_length, last_is_v6, number_of, number_width, plain_address, settled, text_width, wide_number_of, width}
use Rattle.ct_wire.specs.Decoding.{after_field, eaten}
use Rattle.ct_wire.proofs.Eaten.{eaten_whole}
use Rattle.ct_law_wire_faults.specs.Fields.{Field, Ahead, Judged, begin_of, end_of, field_end, field_width, first_field, judged, step_judged}

-- ---- where a reader of bytes stands

abbrev pub place_under : Field → Place
place_under (Field.Number p) = place.Number p
place_under (Field.Size p) = place.Text p
place_under (Field.Text p n) = place.Text p
place_under (Field.Plain p) = place.Address p
place_under (Field.Family p) = place.Address p
place_under (Field.Four p) = place.Address p
place_under (Field.Sixteen p) = place.Address p

abbrev pub stage_at : Field → Stage
stage_at (Field.Text p n) = stage.Text n
stage_at (Field.Four p) = stage.Four
stage_at (Field.Sixteen p) = stage.Sixteen
stage_at _ = stage.Start

abbrev pub cursor_at : Ahead → Cursor
cursor_at a = record { reading = record { draft = a.draft; place = place_under a.field }; at = a.at; stage = stage_at a.field }

-- ---- fields that can come next

-- an address has a family exactly where its version names families, and the bytes of a text are some
abbrev pub CanCome : Version → Field → Type 0
CanCome v (Field.Text p n) = 0 < n
CanCome v (Field.Plain p) = names_families v ≡ false
CanCome v (Field.Family p) = names_families v ≡ true
CanCome v _ = Unit {0}

abbrev pub MayCome : Ahead → Type 0
MayCome a = CanCome a.draft.head.version a.field

-- a field that comes next may come, and begins at this offset
abbrev pub ComesAt : ℕ → Judged → Type 0
ComesAt end (Judged.Keeps a) = MayCome a × (begin_of a ≡ end)
ComesAt end _ = Unit {0}

number_some : (p : NumberPlace) → 0 < number_width p
number_some (number.Kind key) = omega arith
number_some number.Generation = omega arith
number_some number.Request = omega arith
number_some (number.Least key) = omega arith
number_some (number.Rsn key) = omega arith
number_some number.VolatileBase = omega arith
number_some number.PersistentBase = omega arith
number_some (number.RowRsn left key) = omega arith
number_some (number.PTableSeq left) = omega arith
number_some number.Seq = omega arith
number_some number.Run = omega arith
number_some _ = omega arith

text_some : (p : TextPlace) → 0 < text_width p
text_some text.Key = omega arith
text_some (text.RowKey left start) = omega arith
text_some (text.PairKey left more) = omega arith
text_some (text.WriteKey left) = omega arith
text_some _ = omega arith

-- a field that comes has bytes
field_some : (v : Version) (x : Field) → CanCome v x → 0 < field_width x
field_some v (Field.Number p) can = number_some p
field_some v (Field.Size p) can = text_some p
field_some v (Field.Text p n) can = can
field_some v (Field.Plain p) can = omega arith
field_some v (Field.Family p) can = omega arith
field_some v (Field.Four p) can = omega arith
field_some v (Field.Sixteen p) can = omega arith

pub some_of : (a : Ahead) → MayCome a → 0 < field_width a.field
some_of a may = field_some a.draft.head.version a.field may

-- a reader of bytes waits for as many
width_as : (d : Draft) (x : Field) (at : ℕ) → CanCome d.head.version x → width (cursor_at (record { draft = d; field = x; at = at })) ≡ field_width x
width_as d (Field.Number p) at can = refl
width_as d (Field.Size p) at can = refl
width_as d (Field.Text p n) at can = refl
width_as d (Field.Plain p) at can = rw can refl
width_as d (Field.Family p) at can = rw can refl
width_as d (Field.Four p) at can = refl
width_as d (Field.Sixteen p) at can = refl

pub width_is : (a : Ahead) → MayCome a → width (cursor_at a) ≡ field_width a.field
width_is a may = width_as a.draft a.field a.at may

-- ---- what a whole field leads to

-- what a reader of bytes makes of what a field shows that ends at `end`, in a frame of this length
abbrev pub makes : ℕ → ℕ → Judged → Outcome
makes length end (Judged.Keeps a) = if has_room a.draft.head.length (begin_of a) (field_width a.field) then outcome.More (cursor_at a) else outcome.Malformed (begin_of a)
makes length end (Judged.Ends f) = if end == length then outcome.Whole f end else outcome.Malformed end
makes length end (Judged.Breaks offset) = outcome.Malformed offset

-- an address in a version that names families, or that does not
address_arrives : (b : Bool) (d : Draft) (p : AddressPlace) (length at : ℕ) → names_families d.head.version ≡ b
    → arrive (record { draft = d; place = place.Address p }) at ≡ makes length at (Judged.Keeps (record { draft = d; field = first_field d.head.version (place.Address p); at = at }))
address_arrives true d p length at is = rw is refl
address_arrives false d p length at is = rw is refl

arrives : (d : Draft) (p : Place) (length at : ℕ) → arrive (record { draft = d; place = p }) at ≡ makes length at (Judged.Keeps (record { draft = d; field = first_field d.head.version p; at = at }))
arrives d (place.Number p) length at = refl
arrives d (place.Text p) length at = refl
arrives d (place.Address p) length at = address_arrives (names_families d.head.version) d p length at refl

settles : (s : Step) (length end : ℕ) → settled length s end ≡ makes length end (step_judged s end)
settles (step.Next r) length end = arrives r.draft r.place length end
settles (step.Whole f) length end = refl
settles (step.Broken offset) length end = refl

size_makes : (ok none : Bool) (d : Draft) (at : ℕ) (p : TextPlace) (n : ℕ)
    → cond ok (cond none (settled d.head.length (text_read d at [] p) (at + text_width p))
    (cond (has_room d.head.length (at + text_width p) n) (outcome.More (record { reading = record { draft = d; place = place.Text p }; at = at; stage = stage.Text n })) (outcome.Malformed (at + text_width p)))) (outcome.Malformed at)
    ≡ makes d.head.length (at + text_width p) (cond ok (cond none (step_judged (text_read d at [] p) (at + text_width p)) (Judged.Keeps (record { draft = d; field = Field.Text p n; at = at }))) (Judged.Breaks at))
size_makes true true d at p n = settles (text_read d at [] p) d.head.length (at + text_width p)
size_makes true false d at p n = refl
size_makes false none d at p n = refl

family_makes : (is_4 is_6 : Bool) (d : Draft) (at end : ℕ) (p : AddressPlace)
    → cond is_4 (after_family d at p stage.Four 4) (cond is_6 (after_family d at p stage.Sixteen 16) (outcome.Malformed at))
    ≡ makes d.head.length end (cond is_4 (Judged.Keeps (record { draft = d; field = Field.Four p; at = at })) (cond is_6 (Judged.Keeps (record { draft = d; field = Field.Sixteen p; at = at })) (Judged.Breaks at)))
family_makes true is_6 d at end p = refl
family_makes false true d at end p = refl
family_makes false false d at end p = refl

-- an address behind its family
behind_family : (s : Step) (length at end w : ℕ) → end ≡ at + 1 + w → settled length s end ≡ makes length (at + 1 + w) (step_judged s (at + 1 + w))
behind_family s length at end w is = ap (settled length s) is ∙ settles s length (at + 1 + w)

field_makes : (d : Draft) (at : ℕ) (x : Field) (bytes : List ℕ) → CanCome d.head.version x
    → field_read (cursor_at (record { draft = d; field = x; at = at })) bytes ≡ makes d.head.length (field_end x at) (judged (record { draft = d; field = x; at = at }) bytes)
field_makes d at (Field.Number p) bytes can = settles (number_read d at (number_of bytes) p) d.head.length (at + number_width p)
field_makes d at (Field.Size p) bytes can = size_makes (is_text_length p (number_of bytes)) (eqb (number_of bytes) 0) d at p (number_of bytes)
field_makes d at (Field.Text p n) bytes can = settles (text_read d at bytes p) d.head.length (at + text_width p + n)
field_makes d at (Field.Plain p) bytes can = rw can (settles (address_read d at (plain_address bytes) p) d.head.length (at + 4))
field_makes d at (Field.Family p) bytes can = rw can (family_makes (eqb (number_of bytes) 4 && not (last_is_v6 d p)) (eqb (number_of bytes) 6) d at (at + 1) p)
field_makes d at (Field.Four p) bytes can = behind_family (address_read d at (plain_address bytes) p) d.head.length at (at + 5) 4 (omega arith)
field_makes d at (Field.Sixteen p) bytes can = behind_family (address_read d at (V6 (wide_number_of bytes)) p) d.head.length at (at + 17) 16 (omega arith)

-- the bytes of a whole field, with others behind them
pub field_eaten : (a : Ahead) (field rest : List ℕ) → MayCome a → length field ≡ field_width a.field
    → eaten (cursor_at a) [] (field ++ rest) ≡ after_field (makes a.draft.head.length (end_of a) (judged a field)) rest (λ next. eaten next [] rest)
field_eaten a field rest may size =
    let some = some_of a may in
    eaten_whole (cursor_at a) field rest (size ∙ sym (width_is a may)) (omega (arith, size, some))
    ∙ ap (λ (o : Outcome). after_field o rest (λ next. eaten next [] rest)) (field_makes a.draft a.at a.field field may)

-- ---- a field that comes next may come, and begins where the one before ends

address_comes : (b : Bool) (d : Draft) (p : AddressPlace) (at : ℕ) → names_families d.head.version ≡ b → ComesAt at (Judged.Keeps (record { draft = d; field = first_field d.head.version (place.Address p); at = at }))
address_comes true d p at is = rw is (is, refl)
address_comes false d p at is = rw is (is, refl)

place_comes : (d : Draft) (p : Place) (at : ℕ) → ComesAt at (Judged.Keeps (record { draft = d; field = first_field d.head.version p; at = at }))
place_comes d (place.Number p) at = (tt, refl)
place_comes d (place.Text p) at = (tt, refl)
place_comes d (place.Address p) at = address_comes (names_families d.head.version) d p at refl

step_comes : (s : Step) (end : ℕ) → ComesAt end (step_judged s end)
step_comes (step.Next r) end = place_comes r.draft r.place end
step_comes (step.Whole f) end = tt
step_comes (step.Broken offset) end = tt

size_comes : (ok none : Bool) (d : Draft) (at : ℕ) (p : TextPlace) (n : ℕ) → eqb n 0 ≡ none
    → ComesAt (at + text_width p) (cond ok (cond none (step_judged (text_read d at [] p) (at + text_width p)) (Judged.Keeps (record { draft = d; field = Field.Text p n; at = at }))) (Judged.Breaks at))
size_comes true true d at p n is = step_comes (text_read d at [] p) (at + text_width p)
size_comes true false d at p n is = (omega (arith, eqb-false n 0 is), refl)
size_comes false none d at p n is = tt

family_comes : (is_4 is_6 : Bool) (d : Draft) (at : ℕ) (p : AddressPlace)
    → ComesAt (at + 1) (cond is_4 (Judged.Keeps (record { draft = d; field = Field.Four p; at = at })) (cond is_6 (Judged.Keeps (record { draft = d; field = Field.Sixteen p; at = at })) (Judged.Breaks at)))
family_comes true is_6 d at p = (tt, refl)
family_comes false true d at p = (tt, refl)
family_comes false false d at p = tt

field_comes : (d : Draft) (at : ℕ) (x : Field) (bytes : List ℕ) → ComesAt (field_end x at) (judged (record { draft = d; field = x; at = at }) bytes)
field_comes d at (Field.Number p) bytes = step_comes (number_read d at (number_of bytes) p) (at + number_width p)
field_comes d at (Field.Size p) bytes = size_comes (is_text_length p (number_of bytes)) (eqb (number_of bytes) 0) d at p (number_of bytes) refl
field_comes d at (Field.Text p n) bytes = step_comes (text_read d at bytes p) (at + text_width p + n)
field_comes d at (Field.Plain p) bytes = step_comes (address_read d at (plain_address bytes) p) (at + 4)
field_comes d at (Field.Family p) bytes = family_comes (eqb (number_of bytes) 4 && not (last_is_v6 d p)) (eqb (number_of bytes) 6) d at p
field_comes d at (Field.Four p) bytes = step_comes (address_read d at (plain_address bytes) p) (at + 1 + 4)
field_comes d at (Field.Sixteen p) bytes = step_comes (address_read d at (V6 (wide_number_of bytes)) p) (at + 1 + 16)

pub next_comes : (a : Ahead) (field : List ℕ) (next : Ahead) → judged a field ≡ Judged.Keeps next → MayCome next × (begin_of next ≡ end_of a)
next_comes a field next is = subst (ComesAt (end_of a)) is (field_comes a.draft a.at a.field field)
