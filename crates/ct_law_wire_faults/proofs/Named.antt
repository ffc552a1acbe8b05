-- Which offset a field names that breaks its rule.
use Rattle.std.proofs.Common.{◌≡◌, ℕ, ◌+◌, ◌-◌, Bool, true, false, cond, eqb, ltb, not, ◌&&◌, List, [], ◌∷◌, ◌++◌, length, Option, None, Some, refl, subst, inl, inr}
use Rattle.ct_values.specs.declared.address.Address.{Address}
use Rattle.ct_values.specs.declared.address.Address.TheVariants.{V6}
use Rattle.ct_frame.specs.declared.frame.CallKind.{CallKind}
use Rattle.ct_frame.specs.declared.frame.CallKind.TheVariants as kind
use Rattle.ct_wire_fields.specs.declared.place.Operation.{Operation}
use Rattle.ct_wire_fields.specs.declared.place.Operation.TheVariants as operation
use Rattle.ct_wire_fields.specs.declared.place.NumberPlace.{NumberPlace}
use Rattle.ct_wire_fields.specs.declared.place.NumberPlace.TheVariants as number
use Rattle.ct_wire_fields.specs.declared.place.TextPlace.{TextPlace}
use Rattle.ct_wire_fields.specs.declared.place.TextPlace.TheVariants as text
use Rattle.ct_wire_fields.specs.declared.place.AddressPlace.{AddressPlace}
use Rattle.ct_wire_fields.specs.declared.place.AddressPlace.TheVariants as address
use Rattle.ct_wire_fields.specs.declared.place.Place.{Place}
use Rattle.ct_wire_fields.specs.declared.place.Place.TheVariants as place
use Rattle.ct_wire_fields.specs.declared.version.Version.{Version}
use Rattle.ct_wire_fields.specs.declared.draft.Draft.{Draft}
use Rattle.ct_wire_fields.specs.declared.draft.Step.{Step}
use Rattle.ct_wire_fields.specs.declared.draft.Step.TheVariants as step
use Rattle.ct_wire_fields.specs.Version.{names_families, names_masters, version_of}
use Rattle.ct_frame.specs.Fields.{is_below_limit, is_from_one, is_node, is_db}
use Rattle.ct_wire_fields.specs.Check.{is_count, last_of, key_of, value_of, follows_node, follows_db, follows_row, follows_pair, follows_ptable, follows_address, follows_assigned}
use Rattle.ct_wire_fields.specs.Reading.{address_read, addresses_left, addresses_whole, after_db, after_key, after_kind, after_node, after_nodes, after_ptables, after_rsn, after_run, after_seq, after_value, assigned_left, assigned_whole, begun, is_request, key_found, master_of, may_have_row, next_node, next_write, number_read, operation_found, operation_of, pair_key_found, pair_value_found, pairs_left, plain_master, ptables_left, row_key_found, row_master_found, row_value_found, rows_left, text_read, value_found, version_found, with_row, write_key_found, write_value_found}
use Rattle.ct_wire.specs.Cursor.{is_text_length, last_is_v6, number_of, number_width, plain_address, text_width, wide_number_of}
use Rattle.ct_law_wire_faults.specs.Fields.{Field, Ahead, Judged, KeptTo, first_field, judged, step_judged}
use Rattle.ct_law_wire_faults.specs.Offsets.{FaultsAreNamed, Names, TextNames}

-- the key of a row stands 4 bytes behind the row's first byte
abbrev TextStarts : TextPlace → ℕ → Type 0
TextStarts (text.RowKey left start) at = start + 4 ≡ at
TextStarts _ at = Unit {0}

abbrev pub Starts : Field → ℕ → Type 0
Starts (Field.Size p) at = TextStarts p at
Starts (Field.Text p n) at = TextStarts p at
Starts _ at = Unit {0}

abbrev PlaceStarts : Place → ℕ → Type 0
PlaceStarts (place.Text p) at = TextStarts p at
PlaceStarts _ at = Unit {0}

-- this step leads to a place that begins at `end`, and P holds of the offset that it names
abbrev StepShows : (ℕ → Type 0) → ℕ → Step → Type 0
StepShows P end (step.Next r) = PlaceStarts r.place end
StepShows P end (step.Whole f) = Unit {0}
StepShows P end (step.Broken offset) = P offset

record Named (P : ℕ → Type 0) (end : ℕ) (s : Step) : Type 0 where
  shown : StepShows P end s

so : {P : ℕ → Type 0} {end : ℕ} {s : Step} → StepShows P end s → Named P end s
so shown = record { shown = shown }

either : {P : ℕ → Type 0} {end : ℕ} (b : Bool) {s t : Step} → Named P end s → Named P end t → Named P end (cond b s t)
either true one other = one
either false one other = other

-- ---- which place comes next

begun_named : {P : ℕ → Type 0} {end : ℕ} (d : Draft) (o : Operation) → Named P end (begun d o)
begun_named d operation.Freeze = so tt
begun_named d _ = so tt

after_db_named : {P : ℕ → Type 0} {end : ℕ} (d : Draft) (o : Operation) → Named P end (after_db d o)
after_db_named d operation.PUpdate = so tt
after_db_named d _ = so tt

after_key_named : {P : ℕ → Type 0} {end : ℕ} (d : Draft) (key : List ℕ) (o : Operation) → Named P end (after_key d key o)
after_key_named d key operation.Call = so tt
after_key_named d key _ = so tt

after_node_named : {P : ℕ → Type 0} {end : ℕ} (d : Draft) (key : List ℕ) (o : Operation) → Named P end (after_node d key o)
after_node_named d key operation.Recall = so tt
after_node_named d key _ = so tt

after_kind_named : {P : ℕ → Type 0} {end : ℕ} (d : Draft) (key : List ℕ) (k : CallKind) (o : Operation) → Named P end (after_kind d key k o)
after_kind_named d key k operation.Recall = so tt
after_kind_named d key k _ = so tt

after_rsn_named : {end : ℕ} (d : Draft) (at : ℕ) (key : List ℕ) (o : Operation) → Named (λ offset. offset ≡ at) end (after_rsn d at key o)
after_rsn_named d at key operation.Give = so tt
after_rsn_named d at key operation.Pass = so tt
after_rsn_named d at key operation.Grant = so tt
after_rsn_named d at key operation.Refuse = so tt
after_rsn_named d at key operation.Revoke = so tt
after_rsn_named d at key operation.RevokeAck = so tt
after_rsn_named d at key operation.VStore = so tt
after_rsn_named d at key operation.VStored = so tt
after_rsn_named d at key operation.VDelete = so tt
after_rsn_named d at key operation.VDeleted = so tt
after_rsn_named d at key _ = so refl

after_value_named : {P : ℕ → Type 0} {end : ℕ} (d : Draft) (key value : List ℕ) (o : Operation) → Named P end (after_value d key value o)
after_value_named d key value operation.Give = so tt
after_value_named d key value _ = so tt

after_seq_named : {P : ℕ → Type 0} {end : ℕ} (d : Draft) (o : Operation) → Named P end (after_seq d o)
after_seq_named d operation.PUpdate = so tt
after_seq_named d _ = so tt

after_nodes_named : {P : ℕ → Type 0} {end : ℕ} (d : Draft) (o : Operation) → Named P end (after_nodes d o)
after_nodes_named d operation.Freeze = so tt
after_nodes_named d _ = so tt

after_ptables_named : {P : ℕ → Type 0} {end : ℕ} (d : Draft) (o : Operation) → Named P end (after_ptables d o)
after_ptables_named d operation.PullReply = so tt
after_ptables_named d _ = so tt

after_run_named : {P : ℕ → Type 0} {end : ℕ} (d : Draft) (o : Operation) → Named P end (after_run d o)
after_run_named d operation.Release = so tt
after_run_named d _ = so tt

addresses_whole_named : {P : ℕ → Type 0} {end : ℕ} (d : Draft) (o : Operation) → Named P end (addresses_whole d o)
addresses_whole_named d operation.Release = so tt
addresses_whole_named d _ = so tt

assigned_whole_named : {P : ℕ → Type 0} {end : ℕ} (d : Draft) (o : Operation) → Named P end (assigned_whole d o)
assigned_whole_named d operation.Take = so tt
assigned_whole_named d _ = so tt

next_node_named : {P : ℕ → Type 0} {end : ℕ} (d : Draft) (left : ℕ) → Named P end (next_node d left)
next_node_named d left = either (ltb 1 left) (so tt) (after_nodes_named d d.head.operation)

next_write_named : {P : ℕ → Type 0} {end : ℕ} (d : Draft) (left : ℕ) → Named P end (next_write d left)
next_write_named d left = either (ltb 1 left) (so tt) (so tt)

rows_left_named : {P : ℕ → Type 0} {end : ℕ} (d : Draft) (left : ℕ) → Named P end (rows_left d left)
rows_left_named d left = either (ltb 0 left) (so tt) (so tt)

ptables_left_named : {P : ℕ → Type 0} {end : ℕ} (d : Draft) (left : ℕ) → Named P end (ptables_left d left)
ptables_left_named d left = either (ltb 0 left) (so tt) (after_ptables_named d d.head.operation)

pairs_left_named : {P : ℕ → Type 0} {end : ℕ} (d : Draft) (left more : ℕ) → Named P end (pairs_left d left more)
pairs_left_named d left more = either (ltb 0 more) (so tt) (ptables_left_named (record d { ptables = d.ptables ++ record { db = d.db; seq = d.seq; pairs = d.pairs } ∷ []; pairs = [] }) (left - 1))

addresses_left_named : {P : ℕ → Type 0} {end : ℕ} (d : Draft) (left : ℕ) → Named P end (addresses_left d left)
addresses_left_named d left = either (ltb 0 left) (so tt) (addresses_whole_named d d.head.operation)

assigned_left_named : {P : ℕ → Type 0} {end : ℕ} (d : Draft) (left : ℕ) → Named P end (assigned_left d left)
assigned_left_named d left = either (ltb 0 left) (so tt) (assigned_whole_named d d.head.operation)

-- ---- numbers

version_named : {end : ℕ} (d : Draft) (at : ℕ) (v : Option Version) → Named (λ offset. offset ≡ at) end (version_found d at v)
version_named d at None = so refl
version_named d at (Some v) = so tt

operation_named : {end : ℕ} (d : Draft) (at : ℕ) (o : Option Operation) → Named (λ offset. offset ≡ at) end (operation_found d at o)
operation_named d at None = so refl
operation_named d at (Some o) = so tt

master_named : {end : ℕ} (d : Draft) (at left : ℕ) (key value : List ℕ) (m : Option (Option ℕ)) → Named (λ offset. offset ≡ at) end (row_master_found d at left key value m)
master_named d at left key value None = so refl
master_named d at left key value (Some m) = rows_left_named (with_row d key value m) (left - 1)

number_named : (d : Draft) (at n : ℕ) (p : NumberPlace) → Named (λ offset. offset ≡ at) (at + number_width p) (number_read d at n p)
number_named d at n number.Length = either (ltb 39 n && ltb n 268435457) (so tt) (so refl)
number_named d at n number.Magic = either (eqb n 1129595970) (so tt) (so refl)
number_named d at n number.Version = version_named d at (version_of n)
number_named d at n number.Generation = either (is_from_one n) (so tt) (so refl)
number_named d at n number.Operation = operation_named d at (operation_of n)
number_named d at n number.Receiver = either (is_node n) (so tt) (so refl)
number_named d at n number.Sender = either (is_node n) (so tt) (so refl)
number_named d at n number.Request = either (is_request d.head.operation n) (begun_named (record d { head = record d.head { request = n } }) d.head.operation) (so refl)
number_named d at n number.Db = either (is_db n) (after_db_named (record d { db = n }) d.head.operation) (so refl)
number_named d at n (number.Kind key) = either (eqb n 0) (after_kind_named d key kind.Lock d.head.operation) (either (eqb n 1) (after_kind_named d key kind.Read d.head.operation) (so refl))
number_named d at n (number.Least key) = either (is_below_limit n) (so tt) (so refl)
number_named d at n (number.Node key) = either (is_node n) (after_node_named (record d { node = n }) key d.head.operation) (so refl)
number_named d at n (number.Rsn key) = either (is_below_limit n) (after_rsn_named (record d { rsn = n }) at key d.head.operation) (so refl)
number_named d at n number.NodeCount = either (is_count n) (so tt) (so refl)
number_named d at n (number.NodeItem left) = either (is_node n && follows_node (last_of d.nodes) n) (next_node_named (record d { nodes = d.nodes ++ n ∷ [] }) left) (so refl)
number_named d at n number.VolatileBase = either (is_below_limit n) (so tt) (so refl)
number_named d at n number.PersistentBase = either (is_below_limit n) (so tt) (so refl)
number_named d at n number.RowCount = rows_left_named d n
number_named d at n (number.RowDb left) = either (is_db n && follows_db (last_of d.table) n && may_have_row d d.head.operation) (so refl) (so refl)
number_named d at n (number.RowRsn left key) = either (is_below_limit n) (so tt) (so refl)
number_named d at n (number.RowMaster left key value) = master_named d at left key value (master_of d n d.head.operation)
number_named d at n number.PTableCount = ptables_left_named d n
number_named d at n (number.PTableDb left) = either (is_db n && follows_ptable (last_of d.ptables) n) (so tt) (so refl)
number_named d at n (number.PTableSeq left) = either (is_below_limit n) (so tt) (so refl)
number_named d at n (number.PairCount left) = pairs_left_named d left n
number_named d at n number.AddressCount = addresses_left_named d n
number_named d at n number.AssignedCount = assigned_left_named d n
number_named d at n (number.AssignedNode left a) = either (is_node n) (assigned_left_named (record d { assigned = d.assigned ++ record { address = a; node = Some n } ∷ [] }) (left - 1)) (so refl)
number_named d at n number.Seq = either (is_from_one n) (after_seq_named (record d { seq = n }) d.head.operation) (so refl)
number_named d at n number.WriteCount = either (is_count n) (so tt) (so refl)
number_named d at n number.Run = either (is_from_one n) (after_run_named (record d { run = n }) d.head.operation) (so refl)

-- ---- keys, values and addresses

key_named : {end : ℕ} (d : Draft) (at : ℕ) (t : Option (List ℕ)) → Named (TextNames text.Key at) end (key_found d at t)
key_named d at None = so refl
key_named d at (Some key) = after_key_named d key d.head.operation

value_named : {end : ℕ} (d : Draft) (at : ℕ) (key : List ℕ) (t : Option (List ℕ)) → Named (TextNames (text.Value key) at) end (value_found d at key t)
value_named d at key None = so refl
value_named d at key (Some value) = after_value_named d key value d.head.operation

row_key_named : {end : ℕ} (d : Draft) (at left start : ℕ) (t : Option (List ℕ)) → start + 4 ≡ at → Named (TextNames (text.RowKey left start) at) end (row_key_found d at left start t)
row_key_named d at left start None is = so (inl refl)
row_key_named d at left start (Some key) is = either (follows_row (last_of d.table) d.db key) (so tt) (so (inr is))

row_value_named : {end : ℕ} (d : Draft) (at left : ℕ) (key : List ℕ) (t : Option (List ℕ)) → Named (TextNames (text.RowValue left key) at) end (row_value_found d at left key t)
row_value_named d at left key None = so refl
row_value_named d at left key (Some value) = either (names_masters d.head.version) (so tt) (rows_left_named (with_row d key value (plain_master d d.head.operation)) (left - 1))

pair_key_named : {end : ℕ} (d : Draft) (at left more : ℕ) (t : Option (List ℕ)) → Named (TextNames (text.PairKey left more) at) end (pair_key_found d at left more t)
pair_key_named d at left more None = so refl
pair_key_named d at left more (Some key) = either (follows_pair (last_of d.pairs) key) (so tt) (so refl)

pair_value_named : {end : ℕ} (d : Draft) (at left more : ℕ) (key : List ℕ) (t : Option (List ℕ)) → Named (TextNames (text.PairValue left more key) at) end (pair_value_found d at left more key t)
pair_value_named d at left more key None = so refl
pair_value_named d at left more key (Some value) = either (ltb 0 (length value)) (pairs_left_named (record d { pairs = d.pairs ++ record { key = key; value = value } ∷ [] }) left (more - 1)) (so refl)

write_key_named : {end : ℕ} (d : Draft) (at left : ℕ) (t : Option (List ℕ)) → Named (TextNames (text.WriteKey left) at) end (write_key_found d at left t)
write_key_named d at left None = so refl
write_key_named d at left (Some key) = so tt

write_value_named : {end : ℕ} (d : Draft) (at left : ℕ) (key : List ℕ) (t : Option (List ℕ)) → Named (TextNames (text.WriteValue left key) at) end (write_value_found d at left key t)
write_value_named d at left key None = so refl
write_value_named d at left key (Some value) = next_write_named (record d { pairs = d.pairs ++ record { key = key; value = value } ∷ [] }) left

text_named : {end : ℕ} (d : Draft) (at : ℕ) (t : List ℕ) (p : TextPlace) → TextStarts p at → Named (TextNames p at) end (text_read d at t p)
text_named d at t text.Key is = key_named d at (key_of t)
text_named d at t (text.Value key) is = value_named d at key (value_of t)
text_named d at t (text.RowKey left start) is = row_key_named d at left start (key_of t) is
text_named d at t (text.RowValue left key) is = row_value_named d at left key (value_of t)
text_named d at t (text.PairKey left more) is = pair_key_named d at left more (key_of t)
text_named d at t (text.PairValue left more key) is = pair_value_named d at left more key (value_of t)
text_named d at t (text.WriteKey left) is = write_key_named d at left (key_of t)
text_named d at t (text.WriteValue left key) is = write_value_named d at left key (value_of t)

address_named : {end : ℕ} (d : Draft) (at : ℕ) (a : Address) (p : AddressPlace) → Named (λ offset. offset ≡ at) end (address_read d at a p)
address_named d at a (address.Held left) = either (follows_address (last_of d.addresses) a) (addresses_left_named (record d { addresses = d.addresses ++ a ∷ [] }) (left - 1)) (so refl)
address_named d at a (address.Assigned left) = either (follows_assigned (last_of d.assigned) a) (so tt) (so refl)

-- ---- whole fields

-- the next field stands where its place begins, and P holds of the offset that is named
abbrev Shows : (ℕ → Type 0) → Judged → Type 0
Shows P (Judged.Keeps a) = Starts a.field a.at
Shows P (Judged.Ends f) = Unit {0}
Shows P (Judged.Breaks offset) = P offset

address_starts : (b : Bool) (v : Version) (p : AddressPlace) (end : ℕ) → names_families v ≡ b → Starts (first_field v (place.Address p)) end
address_starts true v p end is = rw is tt
address_starts false v p end is = rw is tt

place_starts : (v : Version) (p : Place) (end : ℕ) → PlaceStarts p end → Starts (first_field v p) end
place_starts v (place.Number p) end starts = tt
place_starts v (place.Text p) end starts = starts
place_starts v (place.Address p) end starts = address_starts (names_families v) v p end refl

step_shows : (P : ℕ → Type 0) (end : ℕ) (s : Step) → Named P end s → Shows P (step_judged s end)
step_shows P end (step.Next r) n = place_starts r.draft.head.version r.place end n.shown
step_shows P end (step.Whole f) n = tt
step_shows P end (step.Broken offset) n = n.shown

names_own : (p : TextPlace) (at : ℕ) → TextNames p at at
names_own (text.RowKey left start) at = inl refl
names_own _ at = refl

size_shows : (ok none : Bool) (d : Draft) (at : ℕ) (p : TextPlace) (n : ℕ) → TextStarts p at
    → Shows (TextNames p at) (cond ok (cond none (step_judged (text_read d at [] p) (at + text_width p)) (Judged.Keeps (record { draft = d; field = Field.Text p n; at = at }))) (Judged.Breaks at))
size_shows true true d at p n is = step_shows (TextNames p at) (at + text_width p) (text_read d at [] p) (text_named d at [] p is)
size_shows true false d at p n is = is
size_shows false none d at p n is = names_own p at

family_shows : (is_4 is_6 : Bool) (d : Draft) (at : ℕ) (p : AddressPlace)
    → Shows (λ offset. offset ≡ at) (cond is_4 (Judged.Keeps (record { draft = d; field = Field.Four p; at = at })) (cond is_6 (Judged.Keeps (record { draft = d; field = Field.Sixteen p; at = at })) (Judged.Breaks at)))
family_shows true is_6 d at p = tt
family_shows false true d at p = tt
family_shows false false d at p = refl

field_shows : (d : Draft) (at : ℕ) (x : Field) (bytes : List ℕ) → Starts x at → Shows (Names x at) (judged (record { draft = d; field = x; at = at }) bytes)
field_shows d at (Field.Number p) bytes is = step_shows (λ offset. offset ≡ at) (at + number_width p) (number_read d at (number_of bytes) p) (number_named d at (number_of bytes) p)
field_shows d at (Field.Size p) bytes is = size_shows (is_text_length p (number_of bytes)) (eqb (number_of bytes) 0) d at p (number_of bytes) is
field_shows d at (Field.Text p n) bytes is = step_shows (TextNames p at) (at + text_width p + n) (text_read d at bytes p) (text_named d at bytes p is)
field_shows d at (Field.Plain p) bytes is = step_shows (λ offset. offset ≡ at) (at + 4) (address_read d at (plain_address bytes) p) (address_named d at (plain_address bytes) p)
field_shows d at (Field.Family p) bytes is = family_shows (eqb (number_of bytes) 4 && not (last_is_v6 d p)) (eqb (number_of bytes) 6) d at p
field_shows d at (Field.Four p) bytes is = step_shows (λ offset. offset ≡ at) (at + 1 + 4) (address_read d at (plain_address bytes) p) (address_named d at (plain_address bytes) p)
field_shows d at (Field.Sixteen p) bytes is = step_shows (λ offset. offset ≡ at) (at + 1 + 16) (address_read d at (V6 (wide_number_of bytes)) p) (address_named d at (V6 (wide_number_of bytes)) p)

kept_starts : {bytes : List ℕ} {a : Ahead} {rest : List ℕ} → KeptTo bytes a rest → Starts a.field a.at
kept_starts KeptTo.Front = tt
kept_starts (KeptTo.Behind a b field rest kept whole is) = subst (Shows (Names a.field a.at)) is (field_shows a.draft a.at a.field field (kept_starts kept))

pub faults_are_named : FaultsAreNamed
faults_are_named bytes field rest a offset kept whole is = subst (Shows (Names a.field a.at)) is (field_shows a.draft a.at a.field field (kept_starts kept))
