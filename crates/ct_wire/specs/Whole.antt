-- What stands whole in the bytes and is read at once: the header of a common frame, a record's database and key, and a
-- record's copy.
use Rattle.std.specs.Prelude.{ℕ, ◌≡◌, ◌<◌, Bool, true, false, List, [], ◌++◌, length}
use Rattle.ct_frame.specs.declared.frame.CallKind.{CallKind}
use Rattle.ct_frame.specs.declared.frame.CallKind.TheVariants as kind
use Rattle.ct_frame.specs.Fields.{is_below_limit, is_db}
use Rattle.ct_wire_fields.specs.declared.draft.Draft.{Draft}
use Rattle.ct_wire_fields.specs.declared.draft.Head.{Head}
use Rattle.ct_wire_fields.specs.declared.place.NumberPlace.{NumberPlace}
use Rattle.ct_wire_fields.specs.declared.place.NumberPlace.TheVariants as number
use Rattle.ct_wire_fields.specs.declared.place.Operation.{Operation}
use Rattle.ct_wire_fields.specs.declared.place.Operation.TheVariants.{Call, Recall, Give, Pass, Refuse, Grant, Done, Revoke, RevokeAck, PullReply, Push, PUpdate, PAck}
use Rattle.ct_wire_fields.specs.declared.place.Place.TheVariants as place
use Rattle.ct_wire_fields.specs.declared.version.Version.{Version}
use Rattle.ct_wire_fields.specs.Reading.{no_draft}
use Rattle.ct_wire.specs.declared.cursor.Cursor.{Cursor}
use Rattle.ct_wire.specs.declared.cursor.Stage.TheVariants as stage
use Rattle.ct_wire.specs.declared.whole.CopyFields.{CopyFields}
use Rattle.ct_wire.specs.declared.whole.KeyFields.{KeyFields}
use Rattle.ct_wire.specs.Cursor.{number_of}

-- what gives a record's copy
abbrev pub gives_copy : Operation → Bool
gives_copy Give = true
gives_copy Pass = true
gives_copy Grant = true
gives_copy _ = false

-- what is read at once from its header on
abbrev pub is_common : Operation → Bool
is_common Call = true
is_common Recall = true
is_common Refuse = true
is_common Done = true
is_common Revoke = true
is_common RevokeAck = true
is_common PullReply = true
is_common Push = true
is_common PUpdate = true
is_common PAck = true
is_common o = gives_copy o

-- the first field of the body of such a frame
abbrev pub first_place : Operation → NumberPlace
first_place PullReply = number.VolatileBase
first_place Push = number.NodeCount
first_place _ = number.Db

-- nothing but this header has been read
abbrev pub headed : Head → Draft
headed h = record no_draft { head = h }

-- the first half of a header
abbrev pub front_head : ℕ → Version → ℕ → Head
front_head length version generation = record no_draft.head { length = length; version = version; generation = generation }

-- this number comes next
abbrev pub at_number : Draft → ℕ → NumberPlace → Cursor
at_number d at p = record { reading = record { draft = d; place = place.Number p }; at = at; stage = stage.Start }

-- a record's database, key, RSN and value stand at the front of these bytes, and each keeps its rule
pub record CopyStands (bytes : List ℕ) (x : CopyFields) : Type 0 where
  pub db_field : List ℕ
  pub key_length : List ℕ
  pub rsn_field : List ℕ
  pub value_length : List ℕ
  pub db_width : length db_field ≡ 4
  pub key_length_width : length key_length ≡ 1
  pub rsn_width : length rsn_field ≡ 8
  pub value_length_width : length value_length ≡ 2
  pub db_is : number_of db_field ≡ x.db
  pub key_length_is : number_of key_length ≡ length x.key.now
  pub rsn_is : number_of rsn_field ≡ x.rsn
  pub value_length_is : number_of value_length ≡ length x.value.now
  pub db_keeps : is_db x.db ≡ true
  pub key_some : 0 < length x.key.now
  pub key_most : length x.key.now < 256
  pub rsn_keeps : is_below_limit x.rsn ≡ true
  pub value_most : length x.value.now < 1025
  pub bytes_are : bytes ≡ db_field ++ (key_length ++ (x.key.now ++ (rsn_field ++ (value_length ++ (x.value.now ++ x.rest.now)))))

-- the number of a kind
abbrev pub kind_number : CallKind → ℕ
kind_number kind.Lock = 0
kind_number kind.Read = 1

-- a record's database and key stand at the front of these bytes, and each keeps its rule
pub record KeyStands (bytes : List ℕ) (x : KeyFields) : Type 0 where
  pub db_field : List ℕ
  pub key_length : List ℕ
  pub db_width : length db_field ≡ 4
  pub key_length_width : length key_length ≡ 1
  pub db_is : number_of db_field ≡ x.db
  pub key_length_is : number_of key_length ≡ length x.key.now
  pub db_keeps : is_db x.db ≡ true
  pub key_some : 0 < length x.key.now
  pub key_most : length x.key.now < 256
  pub bytes_are : bytes ≡ db_field ++ (key_length ++ (x.key.now ++ x.rest.now))

-- nothing of a body has been read but items of lists
abbrev pub HasNoNumbers : Draft → Type 0
HasNoNumbers d = (d.db ≡ 0) × (d.rsn ≡ 0) × (d.node ≡ 0) × (d.seq ≡ 0) × (d.run ≡ 0) × (d.vbase ≡ 0) × (d.pbase ≡ 0)

-- no list has an item yet
abbrev pub HasNoItems : Draft → Type 0
HasNoItems d = (d.nodes ≡ []) × (d.table ≡ []) × (d.ptables ≡ []) × (d.pairs ≡ []) × (d.addresses ≡ []) × (d.assigned ≡ [])
