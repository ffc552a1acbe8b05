-- What is read at once leads to what its fields lead to, one after the other.
use Rattle.std.proofs.Common.{◌&&◌, ◌≡◌, ◌∙◌, ℕ, ◌+◌, ◌<◌, ◌≤◌, true, List, [], ◌∷◌, ◌++◌, length, Option, None, Some, refl, sym, ap, subst, arith}
use Rattle.std.specs.Prelude.{nat_lt, SomeIff}
use Rattle.std.proofs.lemmas.Bool.{eq-eqb, le-leb, lt-ltb, ne_eqb}
use Rattle.ct_frame.specs.Fields.{is_below_limit, is_db, is_from_one, is_node}
use Rattle.ct_frame.specs.declared.frame.CallKind.{CallKind}
use Rattle.ct_frame.specs.declared.frame.CallKind.TheVariants as kind
use Rattle.ct_frame.specs.declared.frame.Msg.{Msg}
use Rattle.ct_frame.specs.declared.frame.TableRow.{TableRow}
use Rattle.ct_wire_fields.specs.declared.draft.Draft.{Draft}
use Rattle.ct_wire_fields.specs.declared.draft.Step.{Step}
use Rattle.ct_wire_fields.specs.declared.draft.Head.{Head}
use Rattle.ct_wire_fields.specs.declared.place.NumberPlace.{NumberPlace}
use Rattle.ct_wire_fields.specs.declared.place.NumberPlace.TheVariants as number
use Rattle.ct_wire_fields.specs.declared.place.TextPlace.{TextPlace}
use Rattle.ct_wire_fields.specs.declared.place.TextPlace.TheVariants as text
use Rattle.ct_wire_fields.specs.declared.place.Place.{Place}
use Rattle.ct_wire_fields.specs.declared.place.Place.TheVariants as place
use Rattle.ct_wire_fields.specs.declared.place.Operation.{Operation}
use Rattle.ct_wire_fields.specs.declared.place.Operation.TheVariants.{Call, Recall}
use Rattle.ct_wire_fields.specs.declared.version.Version.{Version}
use Rattle.ct_wire_fields.specs.Reading.{may_have_row, after_db, after_key, after_kind, after_node, after_rsn, after_value, kind_read, begun, is_request, no_draft, operation_of, number_read, text_read, to_number, to_text, whole}
use Rattle.ct_wire_fields.specs.Check.{follows_db, follows_row, key_of, last_of, value_of}
use Rattle.ct_wire_fields.specs.Version.{names_masters, version_of}
use Rattle.ct_wire.specs.declared.cursor.Cursor.{Cursor}
use Rattle.ct_wire.specs.declared.cursor.Outcome.{Outcome}
use Rattle.ct_wire.specs.declared.cursor.Outcome.TheVariants as outcome
use Rattle.ct_wire.specs.declared.whole.CopyFields.{CopyFields}
use Rattle.ct_wire.specs.declared.whole.KeyFields.{KeyFields}
use Rattle.ct_wire.specs.declared.cursor.Stage.{Stage}
use Rattle.ct_wire.specs.declared.cursor.Stage.TheVariants as stage
use Rattle.ct_wire.specs.Cursor.{arrive, field_read, is_text_length, number_of, number_width, place_width, settled, stage_width, start, text_length_read, text_width, width}
use Rattle.ct_wire.specs.Decoding.{End, after_field, eaten}
use Rattle.ct_wire.specs.Whole.{at_number, first_place, front_head, gives_copy, headed, is_common, kind_number, CopyStands, KeyStands}
use Rattle.ct_wire.proofs.Eaten.{eaten_whole}

-- what an option holds, where it holds something exactly under a condition
pub held : {A : Type 0} (o : Option A) (P : Type 0) (v x : A) → o ≡ Some x → SomeIff o P v → x ≡ v
held o P v x is when = (subst (λ (it : Option _). SomeIff it P v) is when).1

-- a field that leads on
field_leads : (c d : Cursor) (field rest : List ℕ) → length field ≡ width c → 0 < length field → field_read c field ≡ outcome.More d → eaten c [] (field ++ rest) ≡ eaten d [] rest
field_leads c d field rest whole some is = eaten_whole c field rest whole some ∙ ap (λ (o : Outcome). after_field o rest (λ next. eaten next [] rest)) is

-- where a step leads to a place for which there is room
arrives : (d : Draft) (p : Place) (at : ℕ) → at + place_width d.head.version p ≤ d.head.length → arrive (record { draft = d; place = p }) at ≡ outcome.More (record { reading = record { draft = d; place = p }; at = at; stage = stage.Start })
arrives d p at room = rw (le-leb (at + place_width d.head.version p) d.head.length room) refl

-- ---- the header

length_leads : (size : ℕ) → 39 < size → size < 268435457 → settled 0 (number_read no_draft 0 size number.Length) 4 ≡ outcome.More (at_number (headed (record no_draft.head { length = size })) 4 number.Magic)
length_leads size least most = rw (lt-ltb 39 size (omega arith), lt-ltb size 268435457 most, le-leb 8 size (omega arith)) refl

magic_leads : (size n : ℕ) → 39 < size → n ≡ 1129595970 → settled size (number_read (headed (record no_draft.head { length = size })) 4 n number.Magic) 8 ≡ outcome.More (at_number (headed (record no_draft.head { length = size })) 8 number.Version)
magic_leads size n least is = rw (is, le-leb 12 size (omega arith)) refl

version_leads : (size n : ℕ) (version : Version) → 39 < size → version_of n ≡ Some version → settled size (number_read (headed (record no_draft.head { length = size })) 8 n number.Version) 12 ≡ outcome.More (at_number (headed (record no_draft.head { length = size; version = version })) 12 number.Generation)
version_leads size n version least is = rw (is, le-leb 20 size (omega arith)) refl

generation_leads : (size : ℕ) (version : Version) (generation : ℕ) → 39 < size → is_from_one generation ≡ true → settled size (number_read (headed (record no_draft.head { length = size; version = version })) 12 generation number.Generation) 20 ≡ outcome.More (at_number (headed (front_head size version generation)) 20 number.Operation)
generation_leads size version generation least is = rw (is, le-leb 24 size (omega arith)) refl

pub front_taken : (l m v g rest : List ℕ) (size : ℕ) (version : Version) (generation : ℕ) → length l ≡ 4 → length m ≡ 4 → length v ≡ 4 → length g ≡ 8
    → size ≡ number_of l → generation ≡ number_of g → 39 < size → size < 268435457 → number_of m ≡ 1129595970 → version_of (number_of v) ≡ Some version → is_from_one generation ≡ true
    → eaten start [] (l ++ (m ++ (v ++ (g ++ rest)))) ≡ eaten (at_number (headed (front_head size version generation)) 20 number.Operation) [] rest
front_taken l m v g rest size version generation lw mw vw gw size_is generation_is least most magic known keeps =
    let lengthed = headed (record no_draft.head { length = size }) in
    let versioned = headed (record no_draft.head { length = size; version = version }) in
    field_leads start (at_number lengthed 4 number.Magic) l (m ++ (v ++ (g ++ rest))) lw (omega arith) (ap (λ (n : ℕ). settled 0 (number_read no_draft 0 n number.Length) 4) (sym size_is) ∙ length_leads size least most)
    ∙ field_leads (at_number lengthed 4 number.Magic) (at_number lengthed 8 number.Version) m (v ++ (g ++ rest)) mw (omega arith) (magic_leads size (number_of m) least magic)
    ∙ field_leads (at_number lengthed 8 number.Version) (at_number versioned 12 number.Generation) v (g ++ rest) vw (omega arith) (version_leads size (number_of v) version least known)
    ∙ field_leads (at_number versioned 12 number.Generation) (at_number (headed (front_head size version generation)) 20 number.Operation) g rest gw (omega arith) (ap (λ (n : ℕ). settled size (number_read versioned 12 n number.Generation) 20) (sym generation_is) ∙ generation_leads size version generation least keeps)

-- ---- the second half of the header

operation_leads : (h : Head) (n : ℕ) (o : Operation) → 39 < h.length → operation_of n ≡ Some o
    → settled h.length (number_read (headed (front_head h.length h.version h.generation)) 20 n number.Operation) 24 ≡ outcome.More (at_number (headed (record (front_head h.length h.version h.generation) { operation = o })) 24 number.Receiver)
operation_leads h n o least known = rw (known, le-leb 28 h.length (omega arith)) refl

receiver_leads : (d : Head) (n : ℕ) → 39 < d.length → is_node n ≡ true
    → settled d.length (number_read (headed d) 24 n number.Receiver) 28 ≡ outcome.More (at_number (headed (record d { receiver = n })) 28 number.Sender)
receiver_leads d n least keeps = rw (keeps, le-leb 32 d.length (omega arith)) refl

sender_leads : (d : Head) (n : ℕ) → 39 < d.length → is_node n ≡ true
    → settled d.length (number_read (headed d) 28 n number.Sender) 32 ≡ outcome.More (at_number (headed (record d { sender = n })) 32 number.Request)
sender_leads d n least keeps = rw (keeps, le-leb 40 d.length (omega arith)) refl

common_begun : (d : Draft) (o : Operation) → is_common o ≡ true → begun d o ≡ to_number d (first_place o)
common_begun d o common = grind arith

pub copy_first : (o : Operation) → gives_copy o ≡ true → first_place o ≡ number.Db
copy_first o gives = grind arith

request_leads : (d : Head) (n : ℕ) → 40 + number_width (first_place d.operation) ≤ d.length → is_common d.operation ≡ true → is_request d.operation n ≡ true
    → settled d.length (number_read (headed d) 32 n number.Request) 40 ≡ outcome.More (at_number (headed (record d { request = n })) 40 (first_place d.operation))
request_leads d n room common keeps =
    rw (keeps, common_begun (headed (record d { request = n })) d.operation common) (arrives (headed (record d { request = n })) (place.Number (first_place d.operation)) 40 room)

pub names_taken : (o r s q rest : List ℕ) (h : Head) → length o ≡ 4 → length r ≡ 4 → length s ≡ 4 → length q ≡ 8
    → h.receiver ≡ number_of r → h.sender ≡ number_of s → h.request ≡ number_of q
    → 40 + number_width (first_place h.operation) ≤ h.length → operation_of (number_of o) ≡ Some h.operation → is_common h.operation ≡ true → is_node h.receiver ≡ true → is_node h.sender ≡ true → is_request h.operation h.request ≡ true
    → eaten (at_number (headed (front_head h.length h.version h.generation)) 20 number.Operation) [] (o ++ (r ++ (s ++ (q ++ rest)))) ≡ eaten (at_number (headed h) 40 (first_place h.operation)) [] rest
names_taken o r s q rest h ow rw_ sw qw receiver_is sender_is request_is room known common receiver_keeps sender_keeps request_keeps =
    let least : 39 < h.length = omega (arith, room) in
    let front = front_head h.length h.version h.generation in
    let named = record front { operation = h.operation } in
    let received = record named { receiver = h.receiver } in
    let sent = record received { sender = h.sender } in
    field_leads (at_number (headed front) 20 number.Operation) (at_number (headed named) 24 number.Receiver) o (r ++ (s ++ (q ++ rest))) ow (omega arith) (operation_leads h (number_of o) h.operation least known)
    ∙ field_leads (at_number (headed named) 24 number.Receiver) (at_number (headed received) 28 number.Sender) r (s ++ (q ++ rest)) rw_ (omega arith) (ap (λ (n : ℕ). settled h.length (number_read (headed named) 24 n number.Receiver) 28) (sym receiver_is) ∙ receiver_leads named h.receiver least receiver_keeps)
    ∙ field_leads (at_number (headed received) 28 number.Sender) (at_number (headed sent) 32 number.Request) s (q ++ rest) sw (omega arith) (ap (λ (n : ℕ). settled h.length (number_read (headed received) 28 n number.Sender) 32) (sym sender_is) ∙ sender_leads received h.sender least sender_keeps)
    ∙ field_leads (at_number (headed sent) 32 number.Request) (at_number (headed h) 40 (first_place h.operation)) q rest qw (omega arith) (ap (λ (n : ℕ). settled h.length (number_read (headed sent) 32 n number.Request) 40) (sym request_is) ∙ request_leads sent h.request room common request_keeps)

-- ---- a key or value

-- this text comes next
abbrev at_text : Draft → ℕ → TextPlace → Cursor
at_text d at p = record { reading = record { draft = d; place = place.Text p }; at = at; stage = stage.Start }

-- the rest of a text is to come
abbrev in_text : Draft → ℕ → TextPlace → ℕ → Cursor
in_text d at p n = record { reading = record { draft = d; place = place.Text p }; at = at; stage = stage.Text n }

none_length : (d : Draft) (at : ℕ) (p : TextPlace) (n : ℕ) → n ≡ 0 → is_text_length p 0 ≡ true → text_length_read d at p n ≡ settled d.head.length (text_read d at [] p) (at + text_width p + 0)
none_length d at p n is keeps =
    let same : at + text_width p ≡ at + text_width p + 0 = omega arith in
    rw (is, keeps) (ap (settled d.head.length (text_read d at [] p)) same)

some_length : (d : Draft) (at : ℕ) (p : TextPlace) (n m : ℕ) → n ≡ m → 0 < m → is_text_length p m ≡ true → at + text_width p + m ≤ d.head.length → text_length_read d at p n ≡ outcome.More (in_text d at p m)
some_length d at p n m is some keeps room = rw (is, keeps, ne_eqb m 0 (λ e. omega (arith, e)), le-leb (at + text_width p + m) d.head.length room) refl

-- its length, and then its bytes, if there are any
text_leads : (d : Draft) (at : ℕ) (p : TextPlace) (size text rest : List ℕ) → length size ≡ text_width p → 0 < text_width p → number_of size ≡ length text → is_text_length p (length text) ≡ true → at + text_width p + length text ≤ d.head.length
    → eaten (at_text d at p) [] (size ++ (text ++ rest)) ≡ after_field (settled d.head.length (text_read d at text p) (at + text_width p + length text)) rest (λ next. eaten next [] rest)
text_leads d at p size [] rest wide some is keeps room =
    eaten_whole (at_text d at p) size rest wide (omega (arith, wide, some)) ∙ ap (λ (o : Outcome). after_field o rest (λ next. eaten next [] rest)) (none_length d at p (number_of size) is keeps)
text_leads d at p size (b ∷ text) rest wide some is keeps room =
    field_leads (at_text d at p) (in_text d at p (length (b ∷ text))) size ((b ∷ text) ++ rest) wide (omega (arith, wide, some)) (some_length d at p (number_of size) (length (b ∷ text)) is (omega arith) keeps room)
    ∙ eaten_whole (in_text d at p (length (b ∷ text))) (b ∷ text) rest refl (omega arith)

settles : (o : Outcome) (c : Cursor) (e : End) (rest : List ℕ) → e ≡ after_field o rest (λ next. eaten next [] rest) → o ≡ outcome.More c → e ≡ eaten c [] rest
settles o c e rest leads is = leads ∙ ap (λ (x : Outcome). after_field x rest (λ next. eaten next [] rest)) is

key_is : (key : List ℕ) → 0 < length key → length key < 256 → key_of key ≡ Some key
key_is key some most = rw (lt-ltb 0 (length key) some, lt-ltb (length key) 256 most) refl

key_length_is : (n : ℕ) → 0 < n → n < 256 → nat_lt 0 n && nat_lt n 256 ≡ true
key_length_is n some most = rw (lt-ltb 0 n some, lt-ltb n 256 most) refl

value_is : (value : List ℕ) → length value < 1025 → value_of value ≡ Some value
value_is value most = rw (lt-ltb (length value) 1025 most) refl

-- ---- a frame that gives a copy

copy_after_db : (d : Draft) (o : Operation) → gives_copy o ≡ true → after_db d o ≡ to_text d text.Key
copy_after_db d o gives = grind arith

copy_after_key : (d : Draft) (key : List ℕ) (o : Operation) → gives_copy o ≡ true → after_key d key o ≡ to_number d (number.Rsn key)
copy_after_key d key o gives = grind arith

copy_after_rsn : (d : Draft) (at : ℕ) (key : List ℕ) (o : Operation) → gives_copy o ≡ true → after_rsn d at key o ≡ to_text d (text.Value key)
copy_after_rsn d at key o gives = grind arith

db_leads : (h : Head) (n db : ℕ) → n ≡ db → is_db db ≡ true → gives_copy h.operation ≡ true → 45 ≤ h.length
    → settled h.length (number_read (headed h) 40 n number.Db) 44 ≡ outcome.More (at_text (record (headed h) { db = db }) 44 text.Key)
db_leads h n db is keeps gives room = rw (is, keeps, copy_after_db (record (headed h) { db = db }) h.operation gives) (arrives (record (headed h) { db = db }) (place.Text text.Key) 44 room)

key_leads : (d : Draft) (at end : ℕ) (key : List ℕ) → 0 < length key → length key < 256 → gives_copy d.head.operation ≡ true → end + 8 ≤ d.head.length
    → settled d.head.length (text_read d at key text.Key) end ≡ outcome.More (at_number d end (number.Rsn key))
key_leads d at end key some most gives room = rw (key_is key some most, copy_after_key d key d.head.operation gives) (arrives d (place.Number (number.Rsn key)) end room)

rsn_leads : (d : Draft) (at end n rsn : ℕ) (key : List ℕ) → n ≡ rsn → is_below_limit rsn ≡ true → gives_copy d.head.operation ≡ true → end + 2 ≤ d.head.length
    → settled d.head.length (number_read d at n (number.Rsn key)) end ≡ outcome.More (at_text (record d { rsn = rsn }) end (text.Value key))
rsn_leads d at end n rsn key is keeps gives room = rw (is, keeps, copy_after_rsn (record d { rsn = rsn }) at key d.head.operation gives) (arrives (record d { rsn = rsn }) (place.Text (text.Value key)) end room)

value_leads : (d : Draft) (at end : ℕ) (key value : List ℕ) → length value < 1025 → settled d.head.length (text_read d at value (text.Value key)) end ≡ settled d.head.length (after_value d key value d.head.operation) end
value_leads d at end key value most = rw (value_is value most) refl

pub copy_taken : (h : Head) (bytes : List ℕ) (x : CopyFields) → CopyStands bytes x → gives_copy h.operation ≡ true → length x.key.now + length x.value.now + 55 ≡ h.length
    → eaten (at_number (headed h) 40 number.Db) [] bytes ≡ after_field (settled h.length (after_value (record (headed h) { db = x.db; rsn = x.rsn }) x.key.now x.value.now h.operation) h.length) x.rest.now (λ next. eaten next [] x.rest.now)
copy_taken h bytes x k gives is_whole =
    let key = x.key.now in
    let value = x.value.now in
    let rest = x.rest.now in
    let in_db = record (headed h) { db = x.db } in
    let all = record in_db { rsn = x.rsn } in
    let behind_key = 45 + length key in
    let behind_rsn = 45 + length key + 8 in
    let to_value = k.value_length ++ (value ++ rest) in
    let to_rsn = k.rsn_field ++ to_value in
    let to_key = k.key_length ++ (key ++ to_rsn) in
    let same_end : behind_rsn + 2 + length value ≡ h.length = omega (arith, is_whole) in
    ap (eaten (at_number (headed h) 40 number.Db) []) k.bytes_are
    ∙ field_leads (at_number (headed h) 40 number.Db) (at_text in_db 44 text.Key) k.db_field to_key k.db_width (omega (arith, k.db_width)) (db_leads h (number_of k.db_field) x.db k.db_is k.db_keeps gives (omega (arith, is_whole)))
    ∙ settles _ (at_number in_db behind_key (number.Rsn key)) _ to_rsn (text_leads in_db 44 text.Key k.key_length key to_rsn k.key_length_width (omega arith) k.key_length_is (key_length_is (length key) k.key_some k.key_most) (omega (arith, is_whole))) (key_leads in_db 44 behind_key key k.key_some k.key_most gives (omega (arith, is_whole)))
    ∙ field_leads (at_number in_db behind_key (number.Rsn key)) (at_text all behind_rsn (text.Value key)) k.rsn_field to_value k.rsn_width (omega (arith, k.rsn_width)) (rsn_leads in_db behind_key behind_rsn (number_of k.rsn_field) x.rsn key k.rsn_is k.rsn_keeps gives (omega (arith, is_whole)))
    ∙ text_leads all behind_rsn (text.Value key) k.value_length value rest k.value_length_width (omega arith) k.value_length_is (lt-ltb (length value) 1025 k.value_most) (omega (arith, is_whole))
    ∙ ap (λ (o : Outcome). after_field o rest (λ next. eaten next [] rest)) (value_leads all behind_rsn (behind_rsn + 2 + length value) key value k.value_most ∙ ap (settled h.length (after_value all key value h.operation)) same_end)

-- ---- a frame that asks for a record

-- a database and key that lead to a number
record_db_leads : (h : Head) (n db : ℕ) → n ≡ db → is_db db ≡ true → after_db (record (headed h) { db = db }) h.operation ≡ to_text (record (headed h) { db = db }) text.Key → 45 ≤ h.length
    → settled h.length (number_read (headed h) 40 n number.Db) 44 ≡ outcome.More (at_text (record (headed h) { db = db }) 44 text.Key)
record_db_leads h n db is keeps to room = rw (is, keeps, to) (arrives (record (headed h) { db = db }) (place.Text text.Key) 44 room)

record_key_leads : (d : Draft) (at end : ℕ) (key : List ℕ) (p : NumberPlace) → 0 < length key → length key < 256 → after_key d key d.head.operation ≡ to_number d p → end + number_width p ≤ d.head.length
    → settled d.head.length (text_read d at key text.Key) end ≡ outcome.More (at_number d end p)
record_key_leads d at end key p some most to room = rw (key_is key some most, to) (arrives d (place.Number p) end room)

key_taken : (h : Head) (bytes : List ℕ) (x : KeyFields) (p : NumberPlace) → KeyStands bytes x
    → after_db (record (headed h) { db = x.db }) h.operation ≡ to_text (record (headed h) { db = x.db }) text.Key
    → after_key (record (headed h) { db = x.db }) x.key.now h.operation ≡ to_number (record (headed h) { db = x.db }) p
    → 45 + length x.key.now + number_width p ≤ h.length
    → eaten (at_number (headed h) 40 number.Db) [] bytes ≡ eaten (at_number (record (headed h) { db = x.db }) (45 + length x.key.now) p) [] x.rest.now
key_taken h bytes x p k to_key to_number_there room =
    let key = x.key.now in
    let rest = x.rest.now in
    let in_db = record (headed h) { db = x.db } in
    let behind_key = 45 + length key in
    let to_key_bytes = k.key_length ++ (key ++ rest) in
    ap (eaten (at_number (headed h) 40 number.Db) []) k.bytes_are
    ∙ field_leads (at_number (headed h) 40 number.Db) (at_text in_db 44 text.Key) k.db_field to_key_bytes k.db_width (omega (arith, k.db_width)) (record_db_leads h (number_of k.db_field) x.db k.db_is k.db_keeps to_key (omega (arith, room)))
    ∙ settles _ (at_number in_db behind_key p) _ rest (text_leads in_db 44 text.Key k.key_length key rest k.key_length_width (omega arith) k.key_length_is (key_length_is (length key) k.key_some k.key_most) (omega (arith, room))) (record_key_leads in_db 44 behind_key key p k.key_some k.key_most to_number_there room)

kind_found : (d : Draft) (at n : ℕ) (key : List ℕ) (k : CallKind) → n ≡ kind_number k → kind_read d at key n ≡ after_kind d key k d.head.operation
kind_found d at n key kind.Lock is = rw is refl
kind_found d at n key kind.Read is = rw is refl

-- the kind is the last field
kind_taken : (d : Draft) (at end : ℕ) (key field rest : List ℕ) (k : CallKind) → length field ≡ 1 → number_of field ≡ kind_number k → at + 1 ≡ end
    → eaten (at_number d at (number.Kind key)) [] (field ++ rest) ≡ after_field (settled d.head.length (after_kind d key k d.head.operation) end) rest (λ next. eaten next [] rest)
kind_taken d at end key field rest k width is ends =
    eaten_whole (at_number d at (number.Kind key)) field rest width (omega (arith, width))
    ∙ ap (λ (s : Step). after_field (settled d.head.length s (at + 1)) rest (λ next. eaten next [] rest)) (kind_found d at (number_of field) key k is)
    ∙ ap (λ (n : ℕ). after_field (settled d.head.length (after_kind d key k d.head.operation) n) rest (λ next. eaten next [] rest)) ends

pub call_taken : (h : Head) (bytes : List ℕ) (x : KeyFields) (field rest : List ℕ) (k : CallKind) → KeyStands bytes x → h.operation ≡ Call
    → x.rest.now ≡ field ++ rest → length field ≡ 1 → number_of field ≡ kind_number k → length x.key.now + 46 ≡ h.length
    → eaten (at_number (headed h) 40 number.Db) [] bytes ≡ after_field (settled h.length (after_kind (record (headed h) { db = x.db }) x.key.now k h.operation) h.length) rest (λ next. eaten next [] rest)
call_taken h bytes x field rest k stands is rest_is width kind_is is_whole =
    let key = x.key.now in
    let in_db = record (headed h) { db = x.db } in
    key_taken h bytes x (number.Kind key) stands (ap (after_db in_db) is) (ap (after_key in_db key) is) (omega (arith, is_whole))
    ∙ ap (eaten (at_number in_db (45 + length key) (number.Kind key)) []) rest_is
    ∙ kind_taken in_db (45 + length key) h.length key field rest k width kind_is (omega (arith, is_whole))

least_leads : (d : Draft) (at end n least : ℕ) (key : List ℕ) → n ≡ least → is_below_limit least ≡ true → end + 4 ≤ d.head.length
    → settled d.head.length (number_read d at n (number.Least key)) end ≡ outcome.More (at_number (record d { rsn = least }) end (number.Node key))
least_leads d at end n least key is keeps room = rw (is, keeps) (arrives (record d { rsn = least }) (place.Number (number.Node key)) end room)

node_leads : (d : Draft) (at end n node : ℕ) (key : List ℕ) → n ≡ node → is_node node ≡ true → after_node (record d { node = node }) key d.head.operation ≡ to_number (record d { node = node }) (number.Kind key) → end + 1 ≤ d.head.length
    → settled d.head.length (number_read d at n (number.Node key)) end ≡ outcome.More (at_number (record d { node = node }) end (number.Kind key))
node_leads d at end n node key is keeps to room = rw (is, keeps, to) (arrives (record d { node = node }) (place.Number (number.Kind key)) end room)

pub recall_taken : (h : Head) (bytes : List ℕ) (x : KeyFields) (l n field rest : List ℕ) (least node : ℕ) (k : CallKind) → KeyStands bytes x → h.operation ≡ Recall
    → x.rest.now ≡ l ++ (n ++ (field ++ rest)) → length l ≡ 8 → length n ≡ 4 → length field ≡ 1
    → number_of l ≡ least → number_of n ≡ node → number_of field ≡ kind_number k → is_below_limit least ≡ true → is_node node ≡ true → length x.key.now + 58 ≡ h.length
    → eaten (at_number (headed h) 40 number.Db) [] bytes ≡ after_field (settled h.length (after_kind (record (headed h) { db = x.db; rsn = least; node = node }) x.key.now k h.operation) h.length) rest (λ next. eaten next [] rest)
recall_taken h bytes x l n field rest least node k stands is rest_is lw nw width least_is node_is kind_is least_keeps node_keeps is_whole =
    let key = x.key.now in
    let in_db = record (headed h) { db = x.db } in
    let from = record in_db { rsn = least } in
    let all = record from { node = node } in
    let behind_key = 45 + length key in
    let behind_least = 45 + length key + 8 in
    let behind_node = 45 + length key + 8 + 4 in
    key_taken h bytes x (number.Least key) stands (ap (after_db in_db) is) (ap (after_key in_db key) is) (omega (arith, is_whole))
    ∙ ap (eaten (at_number in_db behind_key (number.Least key)) []) rest_is
    ∙ field_leads (at_number in_db behind_key (number.Least key)) (at_number from behind_least (number.Node key)) l (n ++ (field ++ rest)) lw (omega (arith, lw)) (least_leads in_db behind_key behind_least (number_of l) least key least_is least_keeps (omega (arith, is_whole)))
    ∙ field_leads (at_number from behind_least (number.Node key)) (at_number all behind_node (number.Kind key)) n (field ++ rest) nw (omega (arith, nw)) (node_leads from behind_least behind_node (number_of n) node key node_is node_keeps (ap (after_node all key) is) (omega (arith, is_whole)))
    ∙ kind_taken all behind_node h.length key field rest k width kind_is (omega (arith, is_whole))

-- ---- the end of a frame

-- a step that ends a frame at its length
pub frame_ends : (h : Head) (m : Msg) (s : Step) (rest : List ℕ) → s ≡ whole h m → after_field (settled h.length s h.length) rest (λ next. eaten next [] rest) ≡ End.Ends (record { generation = h.generation; sender = h.sender; receiver = h.receiver; msg = m }) h.length rest
frame_ends h m s rest is = rw (is, eq-eqb h.length h.length refl) refl

-- ---- a row up to its data master

row_before : (last : Option TableRow) (db : ℕ) (key : List ℕ) → follows_row last db key ≡ true → follows_db last db ≡ true
row_before None db key follows = refl
row_before (Some last) db key follows = grind arith

named_row : (d : Draft) (o : Operation) → names_masters d.head.version ≡ true → may_have_row d o ≡ true
named_row d o names = grind arith

row_db_leads : (d : Draft) (at left n db : ℕ) → n ≡ db → is_db db ≡ true → follows_db (last_of d.table) db ≡ true → names_masters d.head.version ≡ true → at + 5 ≤ d.head.length
    → settled d.head.length (number_read d at n (number.RowDb left)) (at + 4) ≡ outcome.More (at_text (record d { db = db }) (at + 4) (text.RowKey left at))
row_db_leads d at left n db is keeps follows names room = rw (is, keeps, follows, named_row d d.head.operation names) (arrives (record d { db = db }) (place.Text (text.RowKey left at)) (at + 4) (omega (arith, room)))

row_key_leads : (d : Draft) (at end left start : ℕ) (key : List ℕ) → 0 < length key → length key < 256 → follows_row (last_of d.table) d.db key ≡ true → end + 8 ≤ d.head.length
    → settled d.head.length (text_read d at key (text.RowKey left start)) end ≡ outcome.More (at_number d end (number.RowRsn left key))
row_key_leads d at end left start key some most follows room = rw (key_is key some most, follows) (arrives d (place.Number (number.RowRsn left key)) end room)

row_rsn_leads : (d : Draft) (at end left n rsn : ℕ) (key : List ℕ) → n ≡ rsn → is_below_limit rsn ≡ true → end + 2 ≤ d.head.length
    → settled d.head.length (number_read d at n (number.RowRsn left key)) end ≡ outcome.More (at_text (record d { rsn = rsn }) end (text.RowValue left key))
row_rsn_leads d at end left n rsn key is keeps room = rw (is, keeps) (arrives (record d { rsn = rsn }) (place.Text (text.RowValue left key)) end room)

row_value_leads : (d : Draft) (at end left : ℕ) (key value : List ℕ) → length value < 1025 → names_masters d.head.version ≡ true → end + 4 ≤ d.head.length
    → settled d.head.length (text_read d at value (text.RowValue left key)) end ≡ outcome.More (at_number d end (number.RowMaster left key value))
row_value_leads d at end left key value most names room = rw (value_is value most, names) (arrives d (place.Number (number.RowMaster left key value)) end room)

number_wide : (version : Version) (s : Stage) (p : NumberPlace) → stage_width version s (place.Number p) ≡ number_width p
number_wide version stage.Start p = refl
number_wide version (stage.Text n) p = refl
number_wide version stage.Four p = refl
number_wide version stage.Sixteen p = refl

pub row_taken : (d : Draft) (at left : ℕ) (s : Stage) (bytes : List ℕ) (x : CopyFields) → CopyStands bytes x → names_masters d.head.version ≡ true → follows_row (last_of d.table) x.db x.key.now ≡ true
    → at + 15 + (length x.key.now + length x.value.now) + 4 ≤ d.head.length
    → eaten (record { reading = record { draft = d; place = place.Number (number.RowDb left) }; at = at; stage = s }) [] bytes ≡ eaten (at_number (record d { db = x.db; rsn = x.rsn }) (at + 15 + (length x.key.now + length x.value.now)) (number.RowMaster left x.key.now x.value.now)) [] x.rest.now
row_taken d at left s bytes x k names follows room =
    let key = x.key.now in
    let value = x.value.now in
    let rest = x.rest.now in
    let first : Cursor = record { reading = record { draft = d; place = place.Number (number.RowDb left) }; at = at; stage = s } in
    let in_db = record d { db = x.db } in
    let all = record in_db { rsn = x.rsn } in
    let behind_key = at + 4 + 1 + length key in
    let behind_rsn = behind_key + 8 in
    let to_value = k.value_length ++ (value ++ rest) in
    let to_rsn = k.rsn_field ++ to_value in
    let to_key = k.key_length ++ (key ++ to_rsn) in
    let same_end : behind_rsn + 2 + length value ≡ at + 15 + (length key + length value) = omega arith in
    ap (eaten first []) k.bytes_are
    ∙ field_leads first (at_text in_db (at + 4) (text.RowKey left at)) k.db_field to_key (k.db_width ∙ sym (number_wide d.head.version s (number.RowDb left))) (omega (arith, k.db_width)) (row_db_leads d at left (number_of k.db_field) x.db k.db_is k.db_keeps (row_before (last_of d.table) x.db key follows) names (omega (arith, room)))
    ∙ settles _ (at_number in_db behind_key (number.RowRsn left key)) _ to_rsn (text_leads in_db (at + 4) (text.RowKey left at) k.key_length key to_rsn k.key_length_width (omega arith) k.key_length_is (key_length_is (length key) k.key_some k.key_most) (omega (arith, room))) (row_key_leads in_db (at + 4) behind_key left at key k.key_some k.key_most follows (omega (arith, room)))
    ∙ field_leads (at_number in_db behind_key (number.RowRsn left key)) (at_text all behind_rsn (text.RowValue left key)) k.rsn_field to_value k.rsn_width (omega (arith, k.rsn_width)) (row_rsn_leads in_db behind_key behind_rsn left (number_of k.rsn_field) x.rsn key k.rsn_is k.rsn_keeps (omega (arith, room)))
    ∙ settles _ (at_number all (behind_rsn + 2 + length value) (number.RowMaster left key value)) _ rest (text_leads all behind_rsn (text.RowValue left key) k.value_length value rest k.value_length_width (omega arith) k.value_length_is (lt-ltb (length value) 1025 k.value_most) (omega (arith, room))) (row_value_leads all behind_rsn (behind_rsn + 2 + length value) left key value k.value_most names (omega (arith, room)))
    ∙ ap (λ (n : ℕ). eaten (at_number all n (number.RowMaster left key value)) [] rest) same_end
