-- Tables, persistent databases and addresses: the items that stand one after the other are read.
use Rattle.std.proofs.Common.{◌≡◌, ℕ, ◌-◌, ◌<◌, ◌^◌, Bool, true, false, cond, ltb, ◌==◌, ◌&&◌, List, [], ◌∷◌, ◌++◌, length, Option, Some, None, refl, sym, ap, ◌∙◌, append_assoc, arith, ⊎_elim}
use Rattle.std.specs.List.{flat_map, AllByRecursion}
use Rattle.std.proofs.lemmas.Bool.{and_from, and_parts, eqb-true, le-leb, lt-ltb, ltb-true, or_cases}
use Rattle.std.proofs.lemmas.List.{append-nil}
use Rattle.ct_values.specs.Key.{key_before}
use Rattle.ct_values.specs.declared.address.Address.{Address}
use Rattle.ct_values.specs.declared.address.Address.TheVariants.{V4, V6}
use Rattle.ct_values.specs.declared.client.Pair.{Pair}
use Rattle.ct_frame.specs.declared.frame.Assigned.{Assigned}
use Rattle.ct_frame.specs.declared.frame.Frame.{Frame}
use Rattle.ct_frame.specs.declared.frame.PTable.{PTable}
use Rattle.ct_frame.specs.declared.frame.TableRow.{TableRow}
use Rattle.ct_frame.specs.Fields.{is_below_limit, is_db, is_kept, is_node}
use Rattle.ct_wire_fields.specs.declared.place.AddressPlace.{AddressPlace}
use Rattle.ct_wire_fields.specs.declared.place.AddressPlace.TheVariants as address_place
use Rattle.ct_wire_fields.specs.declared.place.NumberPlace.TheVariants as number
use Rattle.ct_wire_fields.specs.declared.place.TextPlace.TheVariants as text
use Rattle.ct_wire_fields.specs.declared.draft.Draft.{Draft}
use Rattle.ct_wire_fields.specs.declared.draft.Head.{Head}
use Rattle.ct_wire_fields.specs.declared.version.Version.{Version}
use Rattle.ct_wire_fields.specs.Version.{names_families, names_masters}
use Rattle.ct_wire_fields.specs.Check.{last_of, follows_address, follows_assigned, follows_db, follows_pair, follows_ptable, follows_row}
use Rattle.ct_wire_fields.specs.Reading.{addresses_whole, address_read, after_ptables, assigned_whole, addresses_left, assigned_left, master_of, may_have_row, pairs_left, plain_master, ptables_left, rows_left, to_address, to_number, to_text}
use Rattle.ct_wire.specs.Cursor.{is_v6, last_is_v6, address_in}
use Rattle.ct_wire.specs.Spelling.{address, assigned, key, node_or_none, pair, ptable, row, u32, u64, value}
use Rattle.ct_law_wire.specs.Grammar.{IsKey, IsPair, IsValue, SaysAddress, SaysAssigned, SaysFamily}
use Rattle.ct_law_wire.proofs.Fields.{Goes, four_goes, key_goes, long_goes, plain_goes, sixteen_goes, value_goes, when, word_goes}
use Rattle.ct_law_wire.proofs.Lists.{InOrder, count_goes, key_is, key_length, order_kept, regrouped_6, small_db, small_node, small_number, value_is, value_length}

-- ---- rows

-- what a frame of this header and these nodes lets a row name as data master, or takes as such where rows name none
pub record Masters (h : Head) (nodes : List ℕ) (m : Option ℕ) : Type 0 where
  pub may : (d : Draft) → may_have_row (record d { head = h; nodes = nodes }) h.operation ≡ true
  pub plain : (d : Draft) → names_masters h.version ≡ false → plain_master (record d { head = h; nodes = nodes }) h.operation ≡ m
  pub n : ℕ
  pub spelled : node_or_none m ≡ u32 n
  pub small : n < 2 ^ 32
  pub named : (d : Draft) → master_of (record d { head = h; nodes = nodes }) n h.operation ≡ Some m

-- a row that may be read next
pub record IsNext (h : Head) (nodes : List ℕ) (r : TableRow) : Type 0 where
  pub db : is_db r.db ≡ true
  pub rsn : is_below_limit r.rsn ≡ true
  pub key : IsKey r.key
  pub value : IsValue r.value
  pub masters : Masters h nodes r.master

db_follows : (last : Option TableRow) (db : ℕ) (k : List ℕ) → follows_row last db k ≡ true → follows_db last db ≡ true
db_follows None db k up = refl
db_follows (Some last) db k up =
    ⊎_elim (λ (lower : ltb last.db db ≡ true). le-leb _ _ (omega (arith, ltb-true last.db db lower)))
    (λ (same : ((last.db == db) && key_before last.key k) ≡ true). le-leb _ _ (omega (arith, eqb-true last.db db (and_parts (last.db == db) (key_before last.key k) same).0)))
    (or_cases (ltb last.db db) ((last.db == db) && key_before last.key k) up)

-- the fields of a row up to its value, and what is left of it
pub row_parts : (v : Version) (r : TableRow) (bytes : List ℕ) → row v r ++ bytes ≡ u32 r.db ++ (key r.key ++ (u64 r.rsn ++ (value r.value ++ (cond (names_masters v) (node_or_none r.master) [] ++ bytes))))
row_parts v r bytes = regrouped_6 (u32 r.db) (key r.key) (u64 r.rsn) (value r.value) (cond (names_masters v) (node_or_none r.master) []) bytes

-- behind the value
master_goes : (d : Draft) (left : ℕ) (r : TableRow) (bytes : List ℕ) (f : Frame) (b : Bool) → names_masters d.head.version ≡ b → Masters d.head d.nodes r.master
    → Goes d.head.length (rows_left (record d { db = r.db; rsn = r.rsn; table = d.table ++ r ∷ [] }) (left - 1)) bytes f
    → Goes d.head.length (cond b (to_number (record d { db = r.db; rsn = r.rsn }) (number.RowMaster left r.key r.value)) (rows_left (record d { db = r.db; rsn = r.rsn; table = d.table ++ record { db = r.db; key = r.key; rsn = r.rsn; value = r.value; master = plain_master (record d { db = r.db; rsn = r.rsn }) d.head.operation } ∷ [] }) (left - 1)))
    (cond b (node_or_none r.master) [] ++ bytes) f
master_goes d left r bytes f true named masters goes =
    rw masters.spelled (word_goes (record d { db = r.db; rsn = r.rsn }) (number.RowMaster left r.key r.value) masters.n bytes f refl masters.small (λ at. rw (masters.named (record d { db = r.db; rsn = r.rsn })) goes))
master_goes d left r bytes f false named masters goes = rw (masters.plain (record d { db = r.db; rsn = r.rsn }) named) goes

row_goes : (d : Draft) (left : ℕ) (r : TableRow) (bytes : List ℕ) (f : Frame) → IsNext d.head d.nodes r → follows_row (last_of d.table) r.db r.key ≡ true
    → Goes d.head.length (rows_left (record d { db = r.db; rsn = r.rsn; table = d.table ++ r ∷ [] }) (left - 1)) bytes f
    → Goes d.head.length (to_number d (number.RowDb left)) (row d.head.version r ++ bytes) f
row_goes d left r bytes f next up goes =
    let more = cond (names_masters d.head.version) (node_or_none r.master) [] ++ bytes in
    let valued : Goes d.head.length (to_text (record d { db = r.db; rsn = r.rsn }) (text.RowValue left r.key)) (value r.value ++ more) f =
    value_goes (record d { db = r.db; rsn = r.rsn }) (text.RowValue left r.key) r.value more f refl next.value (value_length r.value next.value)
    (λ at. rw (value_is r.value next.value) (master_goes d left r bytes f (names_masters d.head.version) refl next.masters goes)) in
    let numbered : Goes d.head.length (to_number (record d { db = r.db }) (number.RowRsn left r.key)) (u64 r.rsn ++ (value r.value ++ more)) f =
    long_goes (record d { db = r.db }) (number.RowRsn left r.key) r.rsn (value r.value ++ more) f refl (small_number r.rsn next.rsn) (λ at. when _ next.rsn valued) in
    let keyed : (start : ℕ) → Goes d.head.length (to_text (record d { db = r.db }) (text.RowKey left start)) (key r.key ++ (u64 r.rsn ++ (value r.value ++ more))) f =
    λ start. key_goes (record d { db = r.db }) (text.RowKey left start) r.key (u64 r.rsn ++ (value r.value ++ more)) f refl (key_length r.key next.key) (λ at. rw (key_is r.key next.key) (when _ up numbered)) in
    rw (row_parts d.head.version r bytes) (word_goes d (number.RowDb left) r.db (key r.key ++ (u64 r.rsn ++ (value r.value ++ more))) f refl (small_db r.db next.db)
    (λ at. when _ (and_from _ _ (and_from _ _ next.db (db_follows (last_of d.table) r.db r.key up)) (next.masters.may d)) (keyed at)))

pub rows_go : (d : Draft) (done rs : List TableRow) (bytes : List ℕ) (f : Frame) → AllByRecursion (IsNext d.head d.nodes) rs → InOrder (λ last r. follows_row last r.db r.key) (last_of done) rs
    → ((db rsn : ℕ) → Goes d.head.length (to_number (record d { db = db; rsn = rsn; table = done ++ rs }) number.PTableCount) bytes f)
    → Goes d.head.length (rows_left (record d { table = done }) (length rs)) (flat_map (row d.head.version) rs ++ bytes) f
rows_go d done [] bytes f are up goes = rw append-nil at (goes d.db d.rsn)
rows_go d done (r ∷ rs) bytes f are up goes =
    let some : ltb 0 (length (r ∷ rs)) ≡ true = lt-ltb _ _ (omega arith) in
    let left : length (r ∷ rs) - 1 ≡ length rs = omega arith in
    let joined : (done ++ r ∷ []) ++ rs ≡ done ++ r ∷ rs = append_assoc done (r ∷ []) rs in
    let then : Goes d.head.length (rows_left (record d { db = r.db; rsn = r.rsn; table = done ++ r ∷ [] }) (length rs)) (flat_map (row d.head.version) rs ++ bytes) f =
    rows_go (record d { db = r.db; rsn = r.rsn }) (done ++ r ∷ []) rs bytes f are.1 (order_kept (λ last r. follows_row last r.db r.key) done r rs up.1) (λ db rsn. rw joined (goes db rsn)) in
    let parts : flat_map (row d.head.version) (r ∷ rs) ++ bytes ≡ row d.head.version r ++ (flat_map (row d.head.version) rs ++ bytes) = append_assoc (row d.head.version r) (flat_map (row d.head.version) rs) bytes in
    rw (some, parts) (row_goes (record d { table = done }) (length (r ∷ rs)) r (flat_map (row d.head.version) rs ++ bytes) f are.0 up.0 (rw left then))

-- ---- persistent databases

pub pair_some : (p : Pair) → 0 < length (pair p)
pair_some p = omega arith

-- a pair that may be read next
pub record IsKeptPair (p : Pair) : Type 0 where
  pub says : IsPair p
  pub kept : is_kept p ≡ true

kept_length : (x : List ℕ) → ltb 0 (length x) ≡ true → IsValue x → (ltb 0 (length x) && ltb (length x) 1025) ≡ true
kept_length x kept is = and_from _ _ kept (lt-ltb _ _ is)

pair_goes : (d : Draft) (left more : ℕ) (x : Pair) (bytes : List ℕ) (f : Frame) → IsKeptPair x → follows_pair (last_of d.pairs) x.key ≡ true
    → Goes d.head.length (pairs_left (record d { pairs = d.pairs ++ x ∷ [] }) left (more - 1)) bytes f
    → Goes d.head.length (to_text d (text.PairKey left more)) (pair x ++ bytes) f
pair_goes d left more x bytes f is up goes =
    let valued : Goes d.head.length (to_text d (text.PairValue left more x.key)) (value x.value ++ bytes) f =
    value_goes d (text.PairValue left more x.key) x.value bytes f refl is.says.1 (kept_length x.value is.kept is.says.1) (λ at. rw (value_is x.value is.says.1) (when _ is.kept goes)) in
    rw (append_assoc (key x.key) (value x.value) bytes) (key_goes d (text.PairKey left more) x.key (value x.value ++ bytes) f refl (key_length x.key is.says.0) (λ at. rw (key_is x.key is.says.0) (when _ up valued)))

pub pairs_go : (d : Draft) (left : ℕ) (done xs : List Pair) (bytes : List ℕ) (f : Frame) → AllByRecursion IsKeptPair xs → InOrder (λ last p. follows_pair last p.key) (last_of done) xs
    → Goes d.head.length (ptables_left (record d { ptables = d.ptables ++ record { db = d.db; seq = d.seq; pairs = done ++ xs } ∷ []; pairs = [] }) (left - 1)) bytes f
    → Goes d.head.length (pairs_left (record d { pairs = done }) left (length xs)) (flat_map pair xs ++ bytes) f
pairs_go d left done [] bytes f are up goes = rw append-nil at goes
pairs_go d left done (x ∷ xs) bytes f are up goes =
    let some : ltb 0 (length (x ∷ xs)) ≡ true = lt-ltb _ _ (omega arith) in
    let less : length (x ∷ xs) - 1 ≡ length xs = omega arith in
    let joined : (done ++ x ∷ []) ++ xs ≡ done ++ x ∷ xs = append_assoc done (x ∷ []) xs in
    let then : Goes d.head.length (pairs_left (record d { pairs = done ++ x ∷ [] }) left (length xs)) (flat_map pair xs ++ bytes) f =
    pairs_go d left (done ++ x ∷ []) xs bytes f are.1 (order_kept (λ last p. follows_pair last p.key) done x xs up.1) (rw joined goes) in
    let parts : flat_map pair (x ∷ xs) ++ bytes ≡ pair x ++ (flat_map pair xs ++ bytes) = append_assoc (pair x) (flat_map pair xs) bytes in
    rw (some, parts) (pair_goes (record d { pairs = done }) left (length (x ∷ xs)) x (flat_map pair xs ++ bytes) f are.0 up.0 (rw less then))

-- a database that may be read next
pub record IsNextPTable (t : PTable) : Type 0 where
  pub db : is_db t.db ≡ true
  pub seq : is_below_limit t.seq ≡ true
  pub pairs : AllByRecursion IsKeptPair t.pairs
  pub up : InOrder (λ last p. follows_pair last p.key) None t.pairs

ptable_goes : (d : Draft) (left : ℕ) (t : PTable) (bytes : List ℕ) (f : Frame) → IsNextPTable t → follows_ptable (last_of d.ptables) t.db ≡ true
    → Goes d.head.length (ptables_left (record d { db = t.db; seq = t.seq; ptables = d.ptables ++ t ∷ []; pairs = [] }) (left - 1)) bytes f
    → Goes d.head.length (to_number (record d { pairs = [] }) (number.PTableDb left)) (ptable t ++ bytes) f
unfolding ptable
ptable_goes d left t bytes f is up goes =
    let counted : Goes d.head.length (to_number (record d { db = t.db; seq = t.seq; pairs = [] }) (number.PairCount left)) (u32 (length t.pairs) ++ (flat_map pair t.pairs ++ bytes)) f =
    count_goes pair pair_some (record d { db = t.db; seq = t.seq; pairs = [] }) (number.PairCount left) t.pairs bytes f refl
    (λ at. pairs_go (record d { db = t.db; seq = t.seq }) left [] t.pairs bytes f is.pairs is.up goes) in
    let numbered : Goes d.head.length (to_number (record d { db = t.db; pairs = [] }) (number.PTableSeq left)) (u64 t.seq ++ (u32 (length t.pairs) ++ (flat_map pair t.pairs ++ bytes))) f =
    long_goes (record d { db = t.db; pairs = [] }) (number.PTableSeq left) t.seq (u32 (length t.pairs) ++ (flat_map pair t.pairs ++ bytes)) f refl (small_number t.seq is.seq) (λ at. when _ is.seq counted) in
    word_goes (record d { pairs = [] }) (number.PTableDb left) t.db (u64 t.seq ++ (u32 (length t.pairs) ++ (flat_map pair t.pairs ++ bytes))) f refl (small_db t.db is.db) (λ at. when _ (and_from _ _ is.db up) numbered)

pub ptables_go : (d : Draft) (done ts : List PTable) (bytes : List ℕ) (f : Frame) → AllByRecursion IsNextPTable ts → InOrder (λ last t. follows_ptable last t.db) (last_of done) ts
    → ((db seq : ℕ) → Goes d.head.length (after_ptables (record d { db = db; seq = seq; ptables = done ++ ts; pairs = [] }) d.head.operation) bytes f)
    → Goes d.head.length (ptables_left (record d { ptables = done; pairs = [] }) (length ts)) (flat_map ptable ts ++ bytes) f
ptables_go d done [] bytes f are up goes = rw append-nil at (goes d.db d.seq)
ptables_go d done (t ∷ ts) bytes f are up goes =
    let some : ltb 0 (length (t ∷ ts)) ≡ true = lt-ltb _ _ (omega arith) in
    let less : length (t ∷ ts) - 1 ≡ length ts = omega arith in
    let joined : (done ++ t ∷ []) ++ ts ≡ done ++ t ∷ ts = append_assoc done (t ∷ []) ts in
    let then : Goes d.head.length (ptables_left (record d { db = t.db; seq = t.seq; ptables = done ++ t ∷ []; pairs = [] }) (length ts)) (flat_map ptable ts ++ bytes) f =
    ptables_go (record d { db = t.db; seq = t.seq }) (done ++ t ∷ []) ts bytes f are.1 (order_kept (λ last t. follows_ptable last t.db) done t ts up.1) (λ db seq. rw joined (goes db seq)) in
    let parts : flat_map ptable (t ∷ ts) ++ bytes ≡ ptable t ++ (flat_map ptable ts ++ bytes) = append_assoc (ptable t) (flat_map ptable ts) bytes in
    rw (some, parts) (ptable_goes (record d { ptables = done }) (length (t ∷ ts)) t (flat_map ptable ts ++ bytes) f are.0 up.0 (rw less then))

-- ---- addresses

-- no IPv4 address follows an IPv6 address
four_first : (last : Option Address) (n : ℕ) → follows_address last (V4 n) ≡ true → is_v6 last ≡ false
four_first None n up = refl
four_first (Some (V4 m)) n up = refl
four_first (Some (V6 m)) n up = absurd (cc)

six_named : (v : Version) (n : ℕ) → SaysFamily v (V6 n) → names_families v ≡ true
six_named v n says = says

-- the address at a place, where it may be followed by one of its kind
address_goes : (d : Draft) (p : AddressPlace) (a : Address) (bytes : List ℕ) (f : Frame) (b : Bool) → names_families d.head.version ≡ b → SaysAddress d.head.version a → ((n : ℕ) → a ≡ V4 n → last_is_v6 d p ≡ false)
    → ((at : ℕ) → Goes d.head.length (address_read d at a p) bytes f) → Goes d.head.length (to_address d p) (address d.head.version a ++ bytes) f
address_goes d p (V4 n) bytes f true named says first goes = rw named (four_goes d p n bytes f named (first n refl) says.0 goes)
address_goes d p (V4 n) bytes f false named says first goes = rw named (plain_goes d p n bytes f named says.0 goes)
address_goes d p (V6 n) bytes f b named says first goes = sixteen_goes d p n bytes f says.1 says.0 goes

pub addresses_go : (d : Draft) (done xs : List Address) (bytes : List ℕ) (f : Frame) → AllByRecursion (SaysAddress d.head.version) xs → InOrder follows_address (last_of done) xs
    → Goes d.head.length (addresses_whole (record d { addresses = done ++ xs }) d.head.operation) bytes f
    → Goes d.head.length (addresses_left (record d { addresses = done }) (length xs)) (flat_map (address d.head.version) xs ++ bytes) f
addresses_go d done [] bytes f are up goes = rw append-nil at goes
addresses_go d done (a ∷ xs) bytes f are up goes =
    let some : ltb 0 (length (a ∷ xs)) ≡ true = lt-ltb _ _ (omega arith) in
    let less : length (a ∷ xs) - 1 ≡ length xs = omega arith in
    let joined : (done ++ a ∷ []) ++ xs ≡ done ++ a ∷ xs = append_assoc done (a ∷ []) xs in
    let then : Goes d.head.length (addresses_left (record d { addresses = done ++ a ∷ [] }) (length xs)) (flat_map (address d.head.version) xs ++ bytes) f =
    addresses_go d (done ++ a ∷ []) xs bytes f are.1 (order_kept follows_address done a xs up.1) (rw joined goes) in
    let parts : flat_map (address d.head.version) (a ∷ xs) ++ bytes ≡ address d.head.version a ++ (flat_map (address d.head.version) xs ++ bytes) = append_assoc (address d.head.version a) (flat_map (address d.head.version) xs) bytes in
    let first : (n : ℕ) → a ≡ V4 n → is_v6 (last_of done) ≡ false = λ n is. four_first (last_of done) n (ap (follows_address (last_of done)) (sym is) ∙ up.0) in
    rw (some, parts) (address_goes (record d { addresses = done }) (address_place.Held (length (a ∷ xs))) a (flat_map (address d.head.version) xs ++ bytes) f (names_families d.head.version) refl are.0 first
    (λ at. when _ up.0 (rw less then)))

-- ---- addresses with their nodes

pub record IsGiven (a : Assigned) : Type 0 where
  pub n : ℕ
  pub node : a.node ≡ Some n
  pub is : is_node n ≡ true

four_given : (last : Option Assigned) (n : ℕ) → follows_assigned last (V4 n) ≡ true → is_v6 (address_in last) ≡ false
four_given None n up = refl
four_given (Some a) n up = four_first (Some a.address) n up

assigned_of : (a : Assigned) (n : ℕ) → a.node ≡ Some n → a ≡ record { address = a.address; node = Some n }
assigned_of a n is = ap (λ (m : Option ℕ). record a { node = m }) is

assigned_goes : (d : Draft) (left : ℕ) (a : Assigned) (bytes : List ℕ) (f : Frame) → SaysAssigned d.head.version a → IsGiven a → follows_assigned (last_of d.assigned) a.address ≡ true
    → Goes d.head.length (assigned_left (record d { assigned = d.assigned ++ a ∷ [] }) (left - 1)) bytes f
    → Goes d.head.length (to_address d (address_place.Assigned left)) (assigned d.head.version a ++ bytes) f
assigned_goes d left a bytes f says given up goes =
    let made : record { address = a.address; node = Some given.n } ≡ a = sym (assigned_of a given.n given.node) in
    let parts : assigned d.head.version a ++ bytes ≡ address d.head.version a.address ++ (u32 given.n ++ bytes) = append_assoc (address d.head.version a.address) (node_or_none a.node) bytes ∙ ap (λ (m : Option ℕ). address d.head.version a.address ++ (node_or_none m ++ bytes)) given.node in
    let noded : Goes d.head.length (to_number d (number.AssignedNode left a.address)) (u32 given.n ++ bytes) f =
    word_goes d (number.AssignedNode left a.address) given.n bytes f refl (small_node given.n given.is) (λ at. when _ given.is (rw made goes)) in
    let first : (n : ℕ) → a.address ≡ V4 n → is_v6 (address_in (last_of d.assigned)) ≡ false = λ n is. four_given (last_of d.assigned) n (ap (follows_assigned (last_of d.assigned)) (sym is) ∙ up) in
    rw parts (address_goes d (address_place.Assigned left) a.address (u32 given.n ++ bytes) f (names_families d.head.version) refl says first (λ at. when _ up noded))

pub assigned_go : (d : Draft) (done xs : List Assigned) (bytes : List ℕ) (f : Frame) → AllByRecursion (SaysAssigned d.head.version) xs → AllByRecursion IsGiven xs → InOrder (λ last a. follows_assigned last a.address) (last_of done) xs
    → Goes d.head.length (assigned_whole (record d { assigned = done ++ xs }) d.head.operation) bytes f
    → Goes d.head.length (assigned_left (record d { assigned = done }) (length xs)) (flat_map (assigned d.head.version) xs ++ bytes) f
assigned_go d done [] bytes f are given up goes = rw append-nil at goes
assigned_go d done (a ∷ xs) bytes f are given up goes =
    let some : ltb 0 (length (a ∷ xs)) ≡ true = lt-ltb _ _ (omega arith) in
    let less : length (a ∷ xs) - 1 ≡ length xs = omega arith in
    let joined : (done ++ a ∷ []) ++ xs ≡ done ++ a ∷ xs = append_assoc done (a ∷ []) xs in
    let then : Goes d.head.length (assigned_left (record d { assigned = done ++ a ∷ [] }) (length xs)) (flat_map (assigned d.head.version) xs ++ bytes) f =
    assigned_go d (done ++ a ∷ []) xs bytes f are.1 given.1 (order_kept (λ last a. follows_assigned last a.address) done a xs up.1) (rw joined goes) in
    let parts : flat_map (assigned d.head.version) (a ∷ xs) ++ bytes ≡ assigned d.head.version a ++ (flat_map (assigned d.head.version) xs ++ bytes) = append_assoc (assigned d.head.version a) (flat_map (assigned d.head.version) xs) bytes in
    rw (some, parts) (assigned_goes (record d { assigned = done }) (length (a ∷ xs)) a (flat_map (assigned d.head.version) xs ++ bytes) f are.0 given.0 up.0 (rw less then))
