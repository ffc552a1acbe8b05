-- The body of each message is read.
use Rattle.std.proofs.Common.{◌≡◌, ℕ, ◌<◌, ◌^◌, Bool, true, false, ltb, eqb, ◌&&◌, ◌||◌, List, [], ◌∷◌, ◌++◌, length, Option, Some, None, refl, sym, subst, append_assoc, arith, ⊎_elim}
use Rattle.std.specs.Prelude.{nat_eq}
use Rattle.std.specs.List.{flat_map, AllByRecursion, list_all, list_any}
use Rattle.std.proofs.lemmas.Bool.{cond_both, and_parts, eqb-true, ltb-true, ne_eqb, or_cases}
use Rattle.std.proofs.lemmas.List.{append-nil, length-append}
use Rattle.ct_values.specs.Address.{address_before}
use Rattle.ct_values.specs.declared.address.Address.{Address}
use Rattle.ct_values.specs.declared.address.Address.TheVariants.{V4, V6}
use Rattle.ct_values.specs.declared.client.Pair.{Pair}
use Rattle.ct_frame.specs.declared.frame.Assigned.{Assigned}
use Rattle.ct_frame.specs.declared.frame.CallKind.{CallKind}
use Rattle.ct_frame.specs.declared.frame.CallKind.TheVariants as kinds
use Rattle.ct_frame.specs.declared.frame.Frame.{Frame}
use Rattle.ct_frame.specs.declared.frame.Msg.{Msg}
use Rattle.ct_frame.specs.declared.frame.Msg.TheVariants as msg
use Rattle.ct_frame.specs.declared.frame.PTable.{PTable}
use Rattle.ct_frame.specs.declared.frame.TableRow.{TableRow}
use Rattle.ct_frame.specs.Fields.{are_addresses, are_assigned, are_nodes, are_ptables, are_rows, ascends, assigned_before, is_assigned, is_below_limit, is_db, is_from_one, is_kept, is_member, is_message, is_node, is_one_to_sixteen, is_own_or_none, is_ptable, is_row, is_some_node, pair_before, ptable_before, row_before}
use Rattle.ct_wire_fields.specs.declared.place.Operation.{Operation}
use Rattle.ct_wire_fields.specs.declared.place.Operation.TheVariants as operation
use Rattle.ct_wire_fields.specs.declared.place.NumberPlace.TheVariants as number
use Rattle.ct_wire_fields.specs.declared.place.TextPlace.TheVariants as text
use Rattle.ct_wire_fields.specs.declared.draft.Draft.{Draft}
use Rattle.ct_wire_fields.specs.declared.draft.Head.{Head}
use Rattle.ct_wire_fields.specs.declared.draft.Step.{Step}
use Rattle.ct_wire_fields.specs.declared.version.Version.{Version}
use Rattle.ct_wire_fields.specs.Version.{names_families, names_masters}
use Rattle.ct_wire_fields.specs.Check.{follows_address, follows_assigned, follows_node, follows_pair, follows_ptable, follows_row}
use Rattle.ct_wire_fields.specs.Reading.{addresses_whole, after_db, after_key, after_kind, after_nodes, after_ptables, after_rsn, after_value, assigned_whole, begun, number_read, to_number, to_text, whole}
use Rattle.ct_wire.specs.Spelling.{address, assigned, bases, body, held, key, kind, list, node_or_none, pair, ptable, request, row, u32, u64, value}
use Rattle.ct_wire.specs.Whole.{headed}
use Rattle.ct_law_wire.specs.Grammar.{IsKey, IsPair, IsPTable, IsValue, Says, SaysAddress, SaysAssigned, SaysRow}
use Rattle.ct_law_wire.proofs.Fields.{Goes, byte_goes, key_goes, long_goes, value_goes, when, whole_goes, word_goes}
use Rattle.ct_law_wire.proofs.Lists.{count_goes, in_order, key_is, key_length, nodes_go, regrouped_4, regrouped_5, small_db, small_node, small_number, value_is, value_length, writes_go}
use Rattle.ct_law_wire.proofs.Tables.{IsGiven, IsKeptPair, IsNext, IsNextPTable, Masters, addresses_go, assigned_go, ptables_go, rows_go}

-- ---- what is read of the header

abbrev pub op_of : Msg → Operation
op_of (msg.Call db k q call) = operation.Call
op_of (msg.Recall db k least node q call) = operation.Recall
op_of (msg.Give db k rsn x) = operation.Give
op_of (msg.Pass db k q rsn x) = operation.Pass
op_of (msg.Refuse db k q rsn) = operation.Refuse
op_of (msg.Grant db k q rsn x) = operation.Grant
op_of (msg.Done db k node q) = operation.Done
op_of (msg.Revoke db k rsn) = operation.Revoke
op_of (msg.RevokeAck db k rsn) = operation.RevokeAck
op_of (msg.VStore db k rsn) = operation.VStore
op_of (msg.VStored db k rsn) = operation.VStored
op_of (msg.VDelete db k rsn) = operation.VDelete
op_of (msg.VDeleted db k rsn) = operation.VDeleted
op_of (msg.Freeze members) = operation.Freeze
op_of msg.FreezeAck = operation.FreezeAck
op_of msg.Pull = operation.Pull
op_of (msg.PullReply vbase pbase table ptables addresses) = operation.PullReply
op_of (msg.Push members table ptables assigns) = operation.Push
op_of msg.PushAck = operation.PushAck
op_of msg.Thaw = operation.Thaw
op_of (msg.PUpdate db seq writes) = operation.PUpdate
op_of (msg.PAck db seq) = operation.PAck
op_of (msg.Release run keep) = operation.Release
op_of (msg.ReleaseAck run) = operation.ReleaseAck
op_of (msg.Take run assigns) = operation.Take

-- the header of a frame of this message
abbrev pub head_of : ℕ → Version → ℕ → ℕ → ℕ → Msg → Head
head_of long v generation receiver sender m = record { length = long; version = v; generation = generation; operation = op_of m; receiver = receiver; sender = sender; request = request m }

abbrev pub framed : ℕ → ℕ → ℕ → Msg → Frame
framed generation receiver sender m = record { generation = generation; sender = sender; receiver = receiver; msg = m }

-- ---- messages of one record

pub small_from_one : (n : ℕ) → is_from_one n ≡ true → n < 2 ^ 64
small_from_one n is = omega (arith, ltb-true n (2 ^ 62) (and_parts _ _ is).1)

-- nothing stands behind
ended : {long : ℕ} {s : Step} {bytes : List ℕ} {f : Frame} → Goes long s (bytes ++ []) f → Goes long s bytes f
ended {long = long} {s = s} {bytes = bytes} {f = f} goes = subst (λ (t : List ℕ). Goes long s t f) (append-nil bytes) goes

named_goes : (d : Draft) (db : ℕ) (k bytes : List ℕ) (f : Frame) → is_db db ≡ true → IsKey k → after_db (record d { db = db }) d.head.operation ≡ to_text (record d { db = db }) text.Key
    → Goes d.head.length (after_key (record d { db = db }) k d.head.operation) bytes f → Goes d.head.length (to_number d number.Db) (u32 db ++ (key k ++ bytes)) f
named_goes d db k bytes f is is_key then goes =
    let keyed : Goes d.head.length (to_text (record d { db = db }) text.Key) (key k ++ bytes) f =
    key_goes (record d { db = db }) text.Key k bytes f refl (key_length k is_key) (λ at. rw (key_is k is_key) goes) in
    word_goes d number.Db db (key k ++ bytes) f refl (small_db db is) (λ at. when _ is (rw then keyed))

rsn_goes : (d : Draft) (k : List ℕ) (rsn : ℕ) (bytes : List ℕ) (f : Frame) → is_below_limit rsn ≡ true
    → ((at : ℕ) → Goes d.head.length (number_read d at rsn (number.Rsn k)) bytes f) → Goes d.head.length (to_number d (number.Rsn k)) (u64 rsn ++ bytes) f
rsn_goes d k rsn bytes f is goes = long_goes d (number.Rsn k) rsn bytes f refl (small_number rsn is) goes

kind_goes : (d : Draft) (k : List ℕ) (call : CallKind) (f : Frame) → Goes d.head.length (after_kind d k call d.head.operation) [] f → Goes d.head.length (to_number d (number.Kind k)) (kind call) f
kind_goes d k kinds.Lock f goes = byte_goes d (number.Kind k) 0 [] f refl (λ at. goes)
kind_goes d k kinds.Read f goes = byte_goes d (number.Kind k) 1 [] f refl (λ at. goes)

-- the body of this message is read
abbrev Reads : ℕ → Version → ℕ → ℕ → ℕ → Msg → Type 0
Reads long v g r s m = Goes long (begun (headed (head_of long v g r s m)) (op_of m)) (body v m) (framed g r s m)

-- a number and a value stand behind the key
copy_reads : (h : Head) (db : ℕ) (k : List ℕ) (rsn : ℕ) (x : List ℕ) (f : Frame) → is_db db ≡ true → is_below_limit rsn ≡ true → IsKey k → IsValue x
    → after_db (record (headed h) { db = db }) h.operation ≡ to_text (record (headed h) { db = db }) text.Key
    → after_key (record (headed h) { db = db }) k h.operation ≡ to_number (record (headed h) { db = db }) (number.Rsn k)
    → ((at : ℕ) → after_rsn (record (headed h) { db = db; rsn = rsn }) at k h.operation ≡ to_text (record (headed h) { db = db; rsn = rsn }) (text.Value k))
    → Goes h.length (after_value (record (headed h) { db = db; rsn = rsn }) k x h.operation) [] f
    → Goes h.length (to_number (headed h) number.Db) (u32 db ++ key k ++ u64 rsn ++ value x) f
copy_reads h db k rsn x f is_d is_r is_k is_x then_key then_rsn then_value goes =
    let valued : Goes h.length (to_text (record (headed h) { db = db; rsn = rsn }) (text.Value k)) (value x) f =
    ended (value_goes (record (headed h) { db = db; rsn = rsn }) (text.Value k) x [] f refl is_x (value_length x is_x) (λ at. rw (value_is x is_x) goes)) in
    let numbered : Goes h.length (to_number (record (headed h) { db = db }) (number.Rsn k)) (u64 rsn ++ value x) f =
    rsn_goes (record (headed h) { db = db }) k rsn (value x) f is_r (λ at. when _ is_r (rw (then_value at) valued)) in
    rw (regrouped_4 (u32 db) (key k) (u64 rsn) (value x)) (named_goes (headed h) db k (u64 rsn ++ value x) f is_d is_k then_key (rw then_rsn numbered))

-- a number stands behind the key
short_reads : (h : Head) (db : ℕ) (k : List ℕ) (rsn : ℕ) (f : Frame) → is_db db ≡ true → is_below_limit rsn ≡ true → IsKey k
    → after_db (record (headed h) { db = db }) h.operation ≡ to_text (record (headed h) { db = db }) text.Key
    → after_key (record (headed h) { db = db }) k h.operation ≡ to_number (record (headed h) { db = db }) (number.Rsn k)
    → ((at : ℕ) → Goes h.length (after_rsn (record (headed h) { db = db; rsn = rsn }) at k h.operation) [] f)
    → Goes h.length (to_number (headed h) number.Db) (u32 db ++ key k ++ u64 rsn) f
short_reads h db k rsn f is_d is_r is_k then_key then_rsn goes =
    let numbered : Goes h.length (to_number (record (headed h) { db = db }) (number.Rsn k)) (u64 rsn) f =
    rsn_goes (record (headed h) { db = db }) k rsn [] f is_r (λ at. when _ is_r (goes at)) in
    named_goes (headed h) db k (u64 rsn) f is_d is_k then_key (rw then_rsn numbered)

-- ---- lists of nodes

nodes_kept : (xs : List ℕ) → list_all is_node xs ≡ true → AllByRecursion (λ n. is_node n ≡ true) xs
nodes_kept [] are = tt
nodes_kept (x ∷ xs) are = let both = and_parts (is_node x) (list_all is_node xs) are in (both.0, nodes_kept xs both.1)

-- a list of nodes behind its number
members_go : (h : Head) (xs : List ℕ) (bytes : List ℕ) (f : Frame) → are_nodes xs ≡ true
    → Goes h.length (after_nodes (record (headed h) { nodes = xs }) h.operation) bytes f → Goes h.length (to_number (headed h) number.NodeCount) (u32 (length xs) ++ (flat_map u32 xs ++ bytes)) f
members_go h [] bytes f are goes = absurd (cc)
members_go h (x ∷ xs) bytes f are goes =
    let all = and_parts (is_one_to_sixteen (x ∷ xs) && list_all is_node (x ∷ xs)) (ascends ltb (x ∷ xs)) are in
    let two = and_parts (is_one_to_sixteen (x ∷ xs)) (list_all is_node (x ∷ xs)) all.0 in
    let few = ltb-true (length (x ∷ xs)) 17 (and_parts (ltb 0 (length (x ∷ xs))) (ltb (length (x ∷ xs)) 17) two.0).1 in
    word_goes (headed h) number.NodeCount (length (x ∷ xs)) (flat_map u32 (x ∷ xs) ++ bytes) f refl (omega (arith, few))
    (λ at. when _ two.0 (nodes_go (headed h) [] x xs bytes f (nodes_kept (x ∷ xs) two.1) (in_order ltb follows_node (λ a b. refl) (λ a. refl) (x ∷ xs) all.1) goes))

-- the writes of a commit behind their number
writes_count : (d : Draft) (xs : List Pair) (f : Frame) → is_one_to_sixteen xs ≡ true → AllByRecursion IsPair xs
    → Goes d.head.length (whole d.head (msg.PUpdate d.db d.seq xs)) [] f → Goes d.head.length (to_number (record d { pairs = [] }) number.WriteCount) (list pair xs) f
writes_count d [] f are says goes = absurd (cc)
writes_count d (x ∷ xs) f are says goes =
    let few = ltb-true (length (x ∷ xs)) 17 (and_parts (ltb 0 (length (x ∷ xs))) (ltb (length (x ∷ xs)) 17) are).1 in
    word_goes (record d { pairs = [] }) number.WriteCount (length (x ∷ xs)) (flat_map pair (x ∷ xs)) f refl (omega (arith, few))
    (λ at. when _ are (ended (writes_go d [] x xs [] f says goes)))

-- ---- rows

rows_ready : (h : Head) (nodes : List ℕ) (may : Option ℕ → Bool) (plain : Option ℕ) → ((m : Option ℕ) → may m ≡ true → (names_masters h.version ≡ false → m ≡ plain) → Masters h nodes m)
    → (rs : List TableRow) → list_all (is_row may) rs ≡ true → AllByRecursion (SaysRow h.version plain) rs → AllByRecursion (IsNext h nodes) rs
rows_ready h nodes may plain ready [] are says = tt
rows_ready h nodes may plain ready (r ∷ rs) are says =
    let both = and_parts (is_row may r) (list_all (is_row may) rs) are in
    let kept = and_parts (is_db r.db && is_below_limit r.rsn) (may r.master) both.0 in
    let two = and_parts (is_db r.db) (is_below_limit r.rsn) kept.0 in
    (record { db = two.0; rsn = two.1; key = says.0.0; value = says.0.1; masters = ready r.master kept.1 says.0.2 }, rows_ready h nodes may plain ready rs both.1 says.1)

-- a member names itself or none
own_masters : (long : ℕ) (v : Version) (g r s q : ℕ) (nodes : List ℕ) (m : Option ℕ) → is_node s ≡ true → is_own_or_none s m ≡ true → (names_masters v ≡ false → m ≡ None)
    → Masters (record { length = long; version = v; generation = g; operation = operation.PullReply; receiver = r; sender = s; request = q }) nodes m
own_masters long v g r s q nodes None is own plain = record { may = λ d. refl; plain = λ d unnamed. refl; n = 4294967295; spelled = refl; small = omega arith; named = λ d. refl }
own_masters long v g r s q nodes (Some k) is own plain =
    let same : eqb k s ≡ true = own in
    let lt = ltb-true s 16 is in
    let some : eqb k 4294967295 ≡ false = ne_eqb k 4294967295 (λ e. omega (arith, eqb-true k s own, e, lt)) in
    record { may = λ d. refl; plain = λ d unnamed. sym (plain unnamed); n = k; spelled = refl; small = omega (arith, eqb-true k s own, lt); named = λ d. rw (some, same) refl }

member_is_node : (k : ℕ) (nodes : List ℕ) → list_all is_node nodes ≡ true → list_any (nat_eq k) nodes ≡ true → is_node k ≡ true
member_is_node k [] are among = absurd (cc)
member_is_node k (x ∷ xs) are among =
    let both = and_parts (is_node x) (list_all is_node xs) are in
    ⊎_elim (λ (same : nat_eq k x ≡ true). subst (λ (n : ℕ). is_node n ≡ true) (sym (eqb-true k x same)) both.0) (λ (later : list_any (nat_eq k) xs ≡ true). member_is_node k xs both.1 later)
    (or_cases (nat_eq k x) (list_any (nat_eq k) xs) among)

some_same : (k s : ℕ) → Some k ≡ Some s → k ≡ s
some_same k s is = cc

or_later : (b c : Bool) → (b ≡ false → c ≡ true) → (b || c) ≡ true
or_later true c later = refl
or_later false c later = later refl

-- the leader names one of the nodes
member_masters : (long : ℕ) (v : Version) (g r s q : ℕ) (nodes : List ℕ) (m : Option ℕ) → list_all is_node nodes ≡ true → is_member nodes m ≡ true → (names_masters v ≡ false → m ≡ Some s)
    → Masters (record { length = long; version = v; generation = g; operation = operation.Push; receiver = r; sender = s; request = q }) nodes m
member_masters long v g r s q nodes None are member plain = absurd (cc)
member_masters long v g r s q nodes (Some k) are member plain =
    let is : is_node k ≡ true = member_is_node k nodes are member in
    record {
      may = λ d. or_later (names_masters v) (list_any (nat_eq s) nodes) (λ unnamed. subst (λ (n : ℕ). list_any (nat_eq n) nodes ≡ true) (some_same k s (plain unnamed)) member);
      plain = λ d unnamed. sym (plain unnamed);
      n = k;
      spelled = refl;
      small = small_node k is;
      named = λ d. rw (is, member) refl;
    }

row_some : (v : Version) (r : TableRow) → 0 < length (row v r)
row_some v r = omega arith

ptable_some : (t : PTable) → 0 < length (ptable t)
unfolding ptable
ptable_some t = omega arith

-- ---- persistent databases

pairs_kept : (xs : List Pair) → list_all is_kept xs ≡ true → AllByRecursion IsPair xs → AllByRecursion IsKeptPair xs
pairs_kept [] are says = tt
pairs_kept (x ∷ xs) are says = let both = and_parts (is_kept x) (list_all is_kept xs) are in (record { says = says.0; kept = both.0 }, pairs_kept xs both.1 says.1)

ptable_ready : (t : PTable) → is_ptable t ≡ true → IsPTable t → IsNextPTable t
ptable_ready t is says =
    let all = and_parts (is_db t.db && is_below_limit t.seq && list_all is_kept t.pairs) (ascends pair_before t.pairs) is in
    let three = and_parts (is_db t.db && is_below_limit t.seq) (list_all is_kept t.pairs) all.0 in
    let two = and_parts (is_db t.db) (is_below_limit t.seq) three.0 in
    record { db = two.0; seq = two.1; pairs = pairs_kept t.pairs three.1 says; up = in_order pair_before (λ last p. follows_pair last p.key) (λ a b. refl) (λ a. refl) t.pairs all.1 }

ptables_ready : (ts : List PTable) → list_all is_ptable ts ≡ true → AllByRecursion IsPTable ts → AllByRecursion IsNextPTable ts
ptables_ready [] are says = tt
ptables_ready (t ∷ ts) are says = let both = and_parts (is_ptable t) (list_all is_ptable ts) are in (ptable_ready t both.0 says.0, ptables_ready ts both.1 says.1)

-- ---- addresses

address_some : (v : Version) (a : Address) → 0 < length (address v a)
address_some v (V4 n) = cond_both (names_families v) (4 ∷ u32 n) (u32 n) (λ (t : List ℕ). 0 < length t) (λ named. omega arith) (λ unnamed. omega arith)
address_some v (V6 n) = omega arith

assigned_some : (v : Version) (a : Assigned) → 0 < length (assigned v a)
assigned_some v a = omega (arith, address_some v a.address, length-append (address v a.address) (node_or_none a.node))

given_of : (a : Assigned) (m : Option ℕ) → a.node ≡ m → is_some_node m ≡ true → IsGiven a
given_of a None is node = absurd (cc)
given_of a (Some n) is node = record { n = n; node = is; is = node }

given_ready : (xs : List Assigned) → list_all is_assigned xs ≡ true → AllByRecursion IsGiven xs
given_ready [] are = tt
given_ready (a ∷ xs) are = let both = and_parts (is_assigned a) (list_all is_assigned xs) are in (given_of a a.node refl both.0, given_ready xs both.1)

addresses_count : (d : Draft) (xs : List Address) (f : Frame) → AllByRecursion (SaysAddress d.head.version) xs → are_addresses xs ≡ true
    → Goes d.head.length (addresses_whole (record d { addresses = xs }) d.head.operation) [] f
    → Goes d.head.length (to_number (record d { addresses = [] }) number.AddressCount) (list (address d.head.version) xs) f
addresses_count d xs f says are goes =
    ended (count_goes (address d.head.version) (address_some d.head.version) (record d { addresses = [] }) number.AddressCount xs [] f refl
    (λ at. addresses_go d [] xs [] f says (in_order address_before follows_address (λ a b. refl) (λ a. refl) xs are) goes))

assigned_count : (d : Draft) (xs : List Assigned) (f : Frame) → AllByRecursion (SaysAssigned d.head.version) xs → are_assigned xs ≡ true
    → Goes d.head.length (assigned_whole (record d { assigned = xs }) d.head.operation) [] f
    → Goes d.head.length (to_number (record d { assigned = [] }) number.AssignedCount) (list (assigned d.head.version) xs) f
assigned_count d xs f says are goes =
    let both = and_parts (list_all is_assigned xs) (ascends assigned_before xs) are in
    ended (count_goes (assigned d.head.version) (assigned_some d.head.version) (record d { assigned = [] }) number.AssignedCount xs [] f refl
    (λ at. assigned_go d [] xs [] f says (given_ready xs both.0) (in_order assigned_before (λ last a. follows_assigned last a.address) (λ a b. refl) (λ a. refl) xs both.1) goes))

-- a table and the persistent databases behind it
tables_count : (d : Draft) (may : Option ℕ → Bool) (plain : Option ℕ) (rs : List TableRow) (ts : List PTable) (bytes : List ℕ) (f : Frame)
    → ((m : Option ℕ) → may m ≡ true → (names_masters d.head.version ≡ false → m ≡ plain) → Masters d.head d.nodes m)
    → are_rows may rs ≡ true → AllByRecursion (SaysRow d.head.version plain) rs → are_ptables ts ≡ true → AllByRecursion IsPTable ts
    → ((db rsn seq : ℕ) → Goes d.head.length (after_ptables (record d { db = db; rsn = rsn; seq = seq; table = rs; ptables = ts; pairs = [] }) d.head.operation) bytes f)
    → Goes d.head.length (to_number (record d { table = []; ptables = []; pairs = [] }) number.RowCount) (list (row d.head.version) rs ++ (list ptable ts ++ bytes)) f
tables_count d may plain rs ts bytes f ready are says kept held goes =
    let rows = and_parts (list_all (is_row may) rs) (ascends row_before rs) are in
    let dbs = and_parts (list_all is_ptable ts) (ascends ptable_before ts) kept in
    let tables : (db rsn : ℕ) → Goes d.head.length (to_number (record d { db = db; rsn = rsn; table = rs; ptables = []; pairs = [] }) number.PTableCount) (u32 (length ts) ++ (flat_map ptable ts ++ bytes)) f =
    λ db rsn. count_goes ptable ptable_some (record d { db = db; rsn = rsn; table = rs; ptables = []; pairs = [] }) number.PTableCount ts bytes f refl
    (λ at. ptables_go (record d { db = db; rsn = rsn; table = rs }) [] ts bytes f (ptables_ready ts dbs.0 held) (in_order ptable_before (λ last t. follows_ptable last t.db) (λ a b. refl) (λ a. refl) ts dbs.1) (λ other seq. goes other rsn seq)) in
    count_goes (row d.head.version) (row_some d.head.version) (record d { table = []; ptables = []; pairs = [] }) number.RowCount rs (u32 (length ts) ++ (flat_map ptable ts ++ bytes)) f refl
    (λ at. rows_go (record d { ptables = []; pairs = [] }) [] rs (u32 (length ts) ++ (flat_map ptable ts ++ bytes)) f (rows_ready d.head d.nodes may plain ready rs rows.0 says) (in_order row_before (λ last r. follows_row last r.db r.key) (λ a b. refl) (λ a. refl) rs rows.1) tables)

-- ---- every message

pub body_goes : (long : ℕ) (v : Version) (g r s : ℕ) (m : Msg) → Says v s m → is_node s ≡ true → is_message s m ≡ true → Reads long v g r s m
unfolding body bases held
body_goes long v g r s (msg.Call db k q call) says is kept =
    let two = and_parts (is_db db) (is_from_one q) kept in
    let h = head_of long v g r s (msg.Call db k q call) in
    named_goes (headed h) db k (kind call) (framed g r s (msg.Call db k q call)) two.0 says refl
    (kind_goes (record (headed h) { db = db }) k call (framed g r s (msg.Call db k q call)) (whole_goes long (framed g r s (msg.Call db k q call))))
body_goes long v g r s (msg.Recall db k least node q call) says is kept =
    let three = and_parts (is_db db && is_below_limit least && is_node node) (is_from_one q) kept in
    let two = and_parts (is_db db && is_below_limit least) (is_node node) three.0 in
    let one = and_parts (is_db db) (is_below_limit least) two.0 in
    let h = head_of long v g r s (msg.Recall db k least node q call) in
    let f = framed g r s (msg.Recall db k least node q call) in
    let kinded = kind_goes (record (headed h) { db = db; rsn = least; node = node }) k call f (whole_goes long f) in
    let noded = word_goes (record (headed h) { db = db; rsn = least }) (number.Node k) node (kind call) f refl (small_node node two.1) (λ at. when _ two.1 kinded) in
    let leasted = long_goes (record (headed h) { db = db }) (number.Least k) least (u32 node ++ kind call) f refl (small_number least one.1) (λ at. when _ one.1 noded) in
    rw (regrouped_5 (u32 db) (key k) (u64 least) (u32 node) (kind call)) (named_goes (headed h) db k (u64 least ++ (u32 node ++ kind call)) f one.0 says refl leasted)
body_goes long v g r s (msg.Give db k rsn x) says is kept =
    let two = and_parts (is_db db) (is_below_limit rsn) kept in
    let f = framed g r s (msg.Give db k rsn x) in
    copy_reads (head_of long v g r s (msg.Give db k rsn x)) db k rsn x f two.0 two.1 says.0 says.1 refl refl (λ at. refl) (whole_goes long f)
body_goes long v g r s (msg.Pass db k q rsn x) says is kept =
    let three = and_parts (is_db db && is_from_one q) (is_below_limit rsn) kept in
    let two = and_parts (is_db db) (is_from_one q) three.0 in
    let f = framed g r s (msg.Pass db k q rsn x) in
    copy_reads (head_of long v g r s (msg.Pass db k q rsn x)) db k rsn x f two.0 three.1 says.0 says.1 refl refl (λ at. refl) (whole_goes long f)
body_goes long v g r s (msg.Refuse db k q rsn) says is kept =
    let three = and_parts (is_db db && is_from_one q) (is_below_limit rsn) kept in
    let two = and_parts (is_db db) (is_from_one q) three.0 in
    let f = framed g r s (msg.Refuse db k q rsn) in
    short_reads (head_of long v g r s (msg.Refuse db k q rsn)) db k rsn f two.0 three.1 says refl refl (λ at. whole_goes long f)
body_goes long v g r s (msg.Grant db k q rsn x) says is kept =
    let three = and_parts (is_db db && is_from_one q) (is_below_limit rsn) kept in
    let two = and_parts (is_db db) (is_from_one q) three.0 in
    let f = framed g r s (msg.Grant db k q rsn x) in
    copy_reads (head_of long v g r s (msg.Grant db k q rsn x)) db k rsn x f two.0 three.1 says.0 says.1 refl refl (λ at. refl) (whole_goes long f)
body_goes long v g r s (msg.Done db k node q) says is kept =
    let three = and_parts (is_db db && is_node node) (is_from_one q) kept in
    let two = and_parts (is_db db) (is_node node) three.0 in
    let h = head_of long v g r s (msg.Done db k node q) in
    let f = framed g r s (msg.Done db k node q) in
    let noded = word_goes (record (headed h) { db = db }) (number.Node k) node [] f refl (small_node node two.1) (λ at. when _ two.1 (whole_goes long f)) in
    named_goes (headed h) db k (u32 node) f two.0 says refl noded
body_goes long v g r s (msg.Revoke db k rsn) says is kept =
    let two = and_parts (is_db db) (is_below_limit rsn) kept in
    let f = framed g r s (msg.Revoke db k rsn) in
    short_reads (head_of long v g r s (msg.Revoke db k rsn)) db k rsn f two.0 two.1 says refl refl (λ at. whole_goes long f)
body_goes long v g r s (msg.RevokeAck db k rsn) says is kept =
    let two = and_parts (is_db db) (is_below_limit rsn) kept in
    let f = framed g r s (msg.RevokeAck db k rsn) in
    short_reads (head_of long v g r s (msg.RevokeAck db k rsn)) db k rsn f two.0 two.1 says refl refl (λ at. whole_goes long f)
body_goes long v g r s (msg.VStore db k rsn) says is kept =
    let two = and_parts (is_db db) (is_below_limit rsn) kept in
    let f = framed g r s (msg.VStore db k rsn) in
    short_reads (head_of long v g r s (msg.VStore db k rsn)) db k rsn f two.0 two.1 says refl refl (λ at. whole_goes long f)
body_goes long v g r s (msg.VStored db k rsn) says is kept =
    let two = and_parts (is_db db) (is_below_limit rsn) kept in
    let f = framed g r s (msg.VStored db k rsn) in
    short_reads (head_of long v g r s (msg.VStored db k rsn)) db k rsn f two.0 two.1 says refl refl (λ at. whole_goes long f)
body_goes long v g r s (msg.VDelete db k rsn) says is kept =
    let two = and_parts (is_db db) (is_below_limit rsn) kept in
    let f = framed g r s (msg.VDelete db k rsn) in
    short_reads (head_of long v g r s (msg.VDelete db k rsn)) db k rsn f two.0 two.1 says refl refl (λ at. whole_goes long f)
body_goes long v g r s (msg.VDeleted db k rsn) says is kept =
    let two = and_parts (is_db db) (is_below_limit rsn) kept in
    let f = framed g r s (msg.VDeleted db k rsn) in
    short_reads (head_of long v g r s (msg.VDeleted db k rsn)) db k rsn f two.0 two.1 says refl refl (λ at. whole_goes long f)
body_goes long v g r s (msg.Freeze members) says is kept =
    let f = framed g r s (msg.Freeze members) in
    ended (members_go (head_of long v g r s (msg.Freeze members)) members [] f kept (whole_goes long f))
body_goes long v g r s msg.FreezeAck says is kept = whole_goes long (framed g r s msg.FreezeAck)
body_goes long v g r s msg.Pull says is kept = whole_goes long (framed g r s msg.Pull)
body_goes long v g r s (msg.PullReply vbase pbase table ptables addresses) says is kept =
    let four = and_parts (is_below_limit vbase && is_below_limit pbase && are_rows (is_own_or_none s) table && are_ptables ptables) (are_addresses addresses) kept in
    let three = and_parts (is_below_limit vbase && is_below_limit pbase && are_rows (is_own_or_none s) table) (are_ptables ptables) four.0 in
    let two = and_parts (is_below_limit vbase && is_below_limit pbase) (are_rows (is_own_or_none s) table) three.0 in
    let one = and_parts (is_below_limit vbase) (is_below_limit pbase) two.0 in
    let m = msg.PullReply vbase pbase table ptables addresses in
    let h = head_of long v g r s m in
    let f = framed g r s m in
    let tabled : Goes long (to_number (record (headed h) { vbase = vbase; pbase = pbase }) number.RowCount) (list (row v) table ++ (list ptable ptables ++ list (address v) addresses)) f =
    tables_count (record (headed h) { vbase = vbase; pbase = pbase }) (is_own_or_none s) None table ptables (list (address v) addresses) f
    (λ m own plain. own_masters long v g r s 0 [] m is own plain) two.1 says.0 three.1 says.1
    (λ db rsn seq. addresses_count (record (headed h) { vbase = vbase; pbase = pbase; db = db; rsn = rsn; seq = seq; table = table; ptables = ptables }) addresses f says.2 four.1 (whole_goes long f)) in
    let based : Goes long (to_number (record (headed h) { vbase = vbase }) number.PersistentBase) (u64 pbase ++ (list (row v) table ++ (list ptable ptables ++ list (address v) addresses))) f =
    long_goes (record (headed h) { vbase = vbase }) number.PersistentBase pbase (list (row v) table ++ (list ptable ptables ++ list (address v) addresses)) f refl (small_number pbase one.1) (λ at. when _ one.1 tabled) in
    let first : Goes long (to_number (headed h) number.VolatileBase) (u64 vbase ++ (u64 pbase ++ (list (row v) table ++ (list ptable ptables ++ list (address v) addresses)))) f =
    long_goes (headed h) number.VolatileBase vbase (u64 pbase ++ (list (row v) table ++ (list ptable ptables ++ list (address v) addresses))) f refl (small_number vbase one.0) (λ at. when _ one.0 based) in
    subst (λ (t : List ℕ). Goes long (to_number (headed h) number.VolatileBase) (u64 vbase ++ (u64 pbase ++ t)) f) (sym (append_assoc (list (row v) table) (list ptable ptables) (list (address v) addresses))) first
body_goes long v g r s (msg.Push members table ptables assigns) says is kept =
    let three = and_parts (are_nodes members && are_rows (is_member members) table && are_ptables ptables) (are_assigned assigns) kept in
    let two = and_parts (are_nodes members && are_rows (is_member members) table) (are_ptables ptables) three.0 in
    let one = and_parts (are_nodes members) (are_rows (is_member members) table) two.0 in
    let m = msg.Push members table ptables assigns in
    let h = head_of long v g r s m in
    let f = framed g r s m in
    let nodes = and_parts (is_one_to_sixteen members && list_all is_node members) (ascends ltb members) one.0 in
    let all = and_parts (is_one_to_sixteen members) (list_all is_node members) nodes.0 in
    let tabled : Goes long (to_number (record (headed h) { nodes = members }) number.RowCount) (list (row v) table ++ (list ptable ptables ++ list (assigned v) assigns)) f =
    tables_count (record (headed h) { nodes = members }) (is_member members) (Some s) table ptables (list (assigned v) assigns) f
    (λ m member plain. member_masters long v g r s 0 members m all.1 member plain) one.1 says.0 two.1 says.1
    (λ db rsn seq. assigned_count (record (headed h) { nodes = members; db = db; rsn = rsn; seq = seq; table = table; ptables = ptables }) assigns f says.2 three.1 (whole_goes long f)) in
    rw (regrouped_4 (list u32 members) (list (row v) table) (list ptable ptables) (list (assigned v) assigns))
    (members_go h members (list (row v) table ++ (list ptable ptables ++ list (assigned v) assigns)) f one.0 tabled)
body_goes long v g r s msg.PushAck says is kept = whole_goes long (framed g r s msg.PushAck)
body_goes long v g r s msg.Thaw says is kept = whole_goes long (framed g r s msg.Thaw)
body_goes long v g r s (msg.PUpdate db seq writes) says is kept =
    let two = and_parts (is_db db && is_from_one seq) (is_one_to_sixteen writes) kept in
    let one = and_parts (is_db db) (is_from_one seq) two.0 in
    let h = head_of long v g r s (msg.PUpdate db seq writes) in
    let f = framed g r s (msg.PUpdate db seq writes) in
    let written : Goes long (to_number (record (headed h) { db = db; seq = seq }) number.WriteCount) (list pair writes) f = writes_count (record (headed h) { db = db; seq = seq }) writes f two.1 says (whole_goes long f) in
    let numbered : Goes long (to_number (record (headed h) { db = db }) number.Seq) (u64 seq ++ list pair writes) f =
    long_goes (record (headed h) { db = db }) number.Seq seq (list pair writes) f refl (small_from_one seq one.1) (λ at. when _ one.1 written) in
    word_goes (headed h) number.Db db (u64 seq ++ list pair writes) f refl (small_db db one.0) (λ at. when _ one.0 numbered)
body_goes long v g r s (msg.PAck db seq) says is kept =
    let one = and_parts (is_db db) (is_from_one seq) kept in
    let h = head_of long v g r s (msg.PAck db seq) in
    let f = framed g r s (msg.PAck db seq) in
    let numbered : Goes long (to_number (record (headed h) { db = db }) number.Seq) (u64 seq) f = long_goes (record (headed h) { db = db }) number.Seq seq [] f refl (small_from_one seq one.1) (λ at. when _ one.1 (whole_goes long f)) in
    word_goes (headed h) number.Db db (u64 seq) f refl (small_db db one.0) (λ at. when _ one.0 numbered)
body_goes long v g r s (msg.Release run keep) says is kept =
    let two = and_parts (is_from_one run) (are_addresses keep) kept in
    let h = head_of long v g r s (msg.Release run keep) in
    let f = framed g r s (msg.Release run keep) in
    long_goes (headed h) number.Run run (list (address v) keep) f refl (small_from_one run two.0) (λ at. when _ two.0 (addresses_count (record (headed h) { run = run }) keep f says two.1 (whole_goes long f)))
body_goes long v g r s (msg.ReleaseAck run) says is kept =
    let f = framed g r s (msg.ReleaseAck run) in
    long_goes (headed (head_of long v g r s (msg.ReleaseAck run))) number.Run run [] f refl (small_from_one run kept) (λ at. when _ kept (whole_goes long f))
body_goes long v g r s (msg.Take run assigns) says is kept =
    let two = and_parts (is_from_one run) (are_assigned assigns) kept in
    let h = head_of long v g r s (msg.Take run assigns) in
    let f = framed g r s (msg.Take run assigns) in
    long_goes (headed h) number.Run run (list (assigned v) assigns) f refl (small_from_one run two.0) (λ at. when _ two.0 (assigned_count (record (headed h) { run = run }) assigns f says two.1 (whole_goes long f)))
