-- Persistent databases and addresses, backwards: where a frame was read, they stand one after the other.
use Rattle.std.proofs.Common.{◌≡◌, ℕ, zero, suc, ◌-◌, true, ltb, ◌&&◌, List, [], ◌∷◌, ◌++◌, length, Some, refl, ap, append_assoc, arith}
use Rattle.std.specs.List.{flat_map, AllByRecursion}
use Rattle.std.proofs.lemmas.Bool.{and_parts, lt-ltb}
use Rattle.std.proofs.lemmas.List.{append-nil}
use Rattle.ct_values.specs.declared.address.Address.{Address}
use Rattle.ct_values.specs.declared.client.Pair.{Pair}
use Rattle.ct_frame.specs.declared.frame.Assigned.{Assigned}
use Rattle.ct_frame.specs.declared.frame.Frame.{Frame}
use Rattle.ct_frame.specs.declared.frame.PTable.{PTable}
use Rattle.ct_frame.specs.Fields.{is_below_limit, is_db, is_node}
use Rattle.ct_wire_fields.specs.declared.place.AddressPlace.TheVariants as address_place
use Rattle.ct_wire_fields.specs.declared.place.NumberPlace.TheVariants as number
use Rattle.ct_wire_fields.specs.declared.place.TextPlace.TheVariants as text
use Rattle.ct_wire_fields.specs.declared.draft.Draft.{Draft}
use Rattle.ct_wire_fields.specs.declared.version.Version.{Version}
use Rattle.ct_wire_fields.specs.Check.{follows_address, follows_assigned, follows_pair, follows_ptable, last_of}
use Rattle.ct_wire_fields.specs.Reading.{addresses_left, addresses_whole, after_ptables, assigned_left, assigned_whole, pair_key_found, pair_value_found, pairs_left, ptables_left, to_address, to_number, to_text}
use Rattle.ct_wire.specs.Spelling.{address, assigned, key, pair, ptable, u32, u64, value}
use Rattle.ct_law_wire.specs.Grammar.{SaysAddress, SaysAssigned}
use Rattle.ct_law_wire.proofs.Lists.{InOrder}
use Rattle.ct_law_wire.proofs.Tables.{IsGiven, IsKeptPair, IsNextPTable}
use Rattle.ct_law_wire.proofs.Back.{Backs, address_backs, back_when, key_backs, long_backs, value_backs, word_backs}
use Rattle.ct_law_wire.proofs.Items.{backs_at, found_key, found_value, order_before}

-- ---- persistent databases

pair_back : (d : Draft) (left more : ℕ) (Q : List ℕ → Frame → Type 0)
    → ((x : Pair) → IsKeptPair x → follows_pair (last_of d.pairs) x.key ≡ true → Backs d.head.length (pairs_left (record d { pairs = d.pairs ++ x ∷ [] }) left (more - 1)) (λ taken f. Q (pair x ++ taken) f))
    → Backs d.head.length (to_text d (text.PairKey left more)) Q
pair_back d left more Q backs =
    key_backs d (text.PairKey left more) Q refl (λ at k k_ok.
    found_key d.head.length (pair_key_found d at left more) k (λ taken f. Q (key k ++ taken) f) k_ok (λ is_k.
    back_when d.head.length (follows_pair (last_of d.pairs) k) (to_text d (text.PairValue left more k)) at (λ taken f. Q (key k ++ taken) f) (λ up.
    value_backs d (text.PairValue left more k) (λ taken f. Q (key k ++ taken) f) refl (λ at_value x x_ok.
    (let some = and_parts (ltb 0 (length x)) (ltb (length x) 1025) x_ok in
    found_value d.head.length (pair_value_found d at_value left more k) x (λ taken f. Q (key k ++ (value x ++ taken)) f) some.1 (λ is_x.
    back_when d.head.length (ltb 0 (length x)) (pairs_left (record d { pairs = d.pairs ++ record { key = k; value = x } ∷ [] }) left (more - 1)) at_value (λ taken f. Q (key k ++ (value x ++ taken)) f) (λ kept.
    backs_at d.head.length (pairs_left (record d { pairs = d.pairs ++ record { key = k; value = x } ∷ [] }) left (more - 1)) Q (λ taken. pair (record { key = k; value = x }) ++ taken) (λ taken. key k ++ (value x ++ taken))
    (λ taken. append_assoc (key k) (value x) taken) (backs (record { key = k; value = x }) (record { says = (is_k, is_x); kept = kept }) up))))))))

pairs_back : (n : ℕ) (d : Draft) (left : ℕ) (done : List Pair) (Q : List ℕ → Frame → Type 0)
    → ((xs : List Pair) → length xs ≡ n → AllByRecursion IsKeptPair xs → InOrder (λ last p. follows_pair last p.key) (last_of done) xs
    → Backs d.head.length (ptables_left (record d { ptables = d.ptables ++ record { db = d.db; seq = d.seq; pairs = done ++ xs } ∷ []; pairs = [] }) (left - 1)) (λ taken f. Q (flat_map pair xs ++ taken) f))
    → Backs d.head.length (pairs_left (record d { pairs = done }) left n) Q
pairs_back zero d left done Q backs = rw append-nil at (backs [] refl tt tt)
pairs_back (suc n) d left done Q backs =
    let some : ltb 0 (suc n) ≡ true = lt-ltb _ _ (omega arith) in
    let less : suc n - 1 ≡ n = omega arith in
    rw some (pair_back (record d { pairs = done }) left (suc n) Q (λ x is up.
    (let then : Backs d.head.length (pairs_left (record d { pairs = done ++ x ∷ [] }) left n) (λ taken f. Q (pair x ++ taken) f) =
    pairs_back n d left (done ++ x ∷ []) (λ taken f. Q (pair x ++ taken) f) (λ xs len are order.
    (let joined : (done ++ x ∷ []) ++ xs ≡ done ++ x ∷ xs = append_assoc done (x ∷ []) xs in
    rw joined (backs_at d.head.length (ptables_left (record d { ptables = d.ptables ++ record { db = d.db; seq = d.seq; pairs = done ++ x ∷ xs } ∷ []; pairs = [] }) (left - 1)) Q (λ taken. flat_map pair (x ∷ xs) ++ taken) (λ taken. pair x ++ (flat_map pair xs ++ taken))
    (λ taken. append_assoc (pair x) (flat_map pair xs) taken)
    (backs (x ∷ xs) (ap suc len) (is, are) (up, order_before (λ last p. follows_pair last p.key) done x xs order))))) in
    rw less then)))

ptable_back : (d : Draft) (left : ℕ) (Q : List ℕ → Frame → Type 0)
    → ((t : PTable) → IsNextPTable t → follows_ptable (last_of d.ptables) t.db ≡ true → Backs d.head.length (ptables_left (record d { db = t.db; seq = t.seq; ptables = d.ptables ++ t ∷ []; pairs = [] }) (left - 1)) (λ taken f. Q (ptable t ++ taken) f))
    → Backs d.head.length (to_number (record d { pairs = [] }) (number.PTableDb left)) Q
unfolding ptable
ptable_back d left Q backs =
    word_backs (record d { pairs = [] }) (number.PTableDb left) Q refl (λ at db small.
    back_when d.head.length (is_db db && follows_ptable (last_of d.ptables) db) (to_number (record d { db = db; pairs = [] }) (number.PTableSeq left)) at (λ taken f. Q (u32 db ++ taken) f) (λ ok.
    (let both = and_parts (is_db db) (follows_ptable (last_of d.ptables) db) ok in
    long_backs (record d { db = db; pairs = [] }) (number.PTableSeq left) (λ taken f. Q (u32 db ++ taken) f) refl (λ at_seq seq small_seq.
    back_when d.head.length (is_below_limit seq) (to_number (record d { db = db; seq = seq; pairs = [] }) (number.PairCount left)) at_seq (λ taken f. Q (u32 db ++ (u64 seq ++ taken)) f) (λ seq_ok.
    word_backs (record d { db = db; seq = seq; pairs = [] }) (number.PairCount left) (λ taken f. Q (u32 db ++ (u64 seq ++ taken)) f) refl (λ at_count n small_count.
    pairs_back n (record d { db = db; seq = seq }) left [] (λ taken f. Q (u32 db ++ (u64 seq ++ (u32 n ++ taken))) f) (λ xs len are order.
    (let t : PTable = record { db = db; seq = seq; pairs = xs } in
    backs_at d.head.length (ptables_left (record d { db = db; seq = seq; ptables = d.ptables ++ t ∷ []; pairs = [] }) (left - 1)) Q (λ taken. ptable t ++ taken) (λ taken. u32 db ++ (u64 seq ++ (u32 n ++ (flat_map pair xs ++ taken))))
    (λ taken. ap (λ (k : ℕ). u32 db ++ (u64 seq ++ (u32 k ++ (flat_map pair xs ++ taken)))) len)
    (backs t (record { db = both.0; seq = seq_ok; pairs = are; up = order }) both.1)))))))))

pub ptables_back : (n : ℕ) (d : Draft) (done : List PTable) (Q : List ℕ → Frame → Type 0)
    → ((ts : List PTable) → length ts ≡ n → AllByRecursion IsNextPTable ts → InOrder (λ last t. follows_ptable last t.db) (last_of done) ts → (db seq : ℕ)
    → Backs d.head.length (after_ptables (record d { db = db; seq = seq; ptables = done ++ ts; pairs = [] }) d.head.operation) (λ taken f. Q (flat_map ptable ts ++ taken) f))
    → Backs d.head.length (ptables_left (record d { ptables = done; pairs = [] }) n) Q
ptables_back zero d done Q backs = rw append-nil at (backs [] refl tt tt d.db d.seq)
ptables_back (suc n) d done Q backs =
    let some : ltb 0 (suc n) ≡ true = lt-ltb _ _ (omega arith) in
    let less : suc n - 1 ≡ n = omega arith in
    rw some (ptable_back (record d { ptables = done }) (suc n) Q (λ t is up.
    (let then : Backs d.head.length (ptables_left (record d { db = t.db; seq = t.seq; ptables = done ++ t ∷ []; pairs = [] }) n) (λ taken f. Q (ptable t ++ taken) f) =
    ptables_back n (record d { db = t.db; seq = t.seq }) (done ++ t ∷ []) (λ taken f. Q (ptable t ++ taken) f) (λ ts len are order db seq.
    (let joined : (done ++ t ∷ []) ++ ts ≡ done ++ t ∷ ts = append_assoc done (t ∷ []) ts in
    rw joined (backs_at d.head.length (after_ptables (record d { db = db; seq = seq; ptables = done ++ t ∷ ts; pairs = [] }) d.head.operation) Q (λ taken. flat_map ptable (t ∷ ts) ++ taken) (λ taken. ptable t ++ (flat_map ptable ts ++ taken))
    (λ taken. append_assoc (ptable t) (flat_map ptable ts) taken)
    (backs (t ∷ ts) (ap suc len) (is, are) (up, order_before (λ last t. follows_ptable last t.db) done t ts order) db seq)))) in
    rw less then)))

-- ---- addresses

pub addresses_back : (n : ℕ) (d : Draft) (done : List Address) (Q : List ℕ → Frame → Type 0)
    → ((xs : List Address) → length xs ≡ n → AllByRecursion (SaysAddress d.head.version) xs → InOrder follows_address (last_of done) xs
    → Backs d.head.length (addresses_whole (record d { addresses = done ++ xs }) d.head.operation) (λ taken f. Q (flat_map (address d.head.version) xs ++ taken) f))
    → Backs d.head.length (addresses_left (record d { addresses = done }) n) Q
addresses_back zero d done Q backs = rw append-nil at (backs [] refl tt tt)
addresses_back (suc n) d done Q backs =
    let some : ltb 0 (suc n) ≡ true = lt-ltb _ _ (omega arith) in
    let less : suc n - 1 ≡ n = omega arith in
    rw some (address_backs (record d { addresses = done }) (address_place.Held (suc n)) Q (λ at a says.
    back_when d.head.length (follows_address (last_of done) a) _ at (λ taken f. Q (address d.head.version a ++ taken) f) (λ up.
    (let then : Backs d.head.length (addresses_left (record d { addresses = done ++ a ∷ [] }) n) (λ taken f. Q (address d.head.version a ++ taken) f) =
    addresses_back n d (done ++ a ∷ []) (λ taken f. Q (address d.head.version a ++ taken) f) (λ xs len are order.
    (let joined : (done ++ a ∷ []) ++ xs ≡ done ++ a ∷ xs = append_assoc done (a ∷ []) xs in
    rw joined (backs_at d.head.length (addresses_whole (record d { addresses = done ++ a ∷ xs }) d.head.operation) Q (λ taken. flat_map (address d.head.version) (a ∷ xs) ++ taken) (λ taken. address d.head.version a ++ (flat_map (address d.head.version) xs ++ taken))
    (λ taken. append_assoc (address d.head.version a) (flat_map (address d.head.version) xs) taken)
    (backs (a ∷ xs) (ap suc len) (says, are) (up, order_before follows_address done a xs order))))) in
    rw less then))))

-- ---- addresses with their nodes

-- an address that was read with its node
pub record IsReadAssigned (v : Version) (a : Assigned) : Type 0 where
  pub says : SaysAssigned v a
  pub given : IsGiven a

assigned_back_one : (d : Draft) (left : ℕ) (Q : List ℕ → Frame → Type 0)
    → ((a : Assigned) → IsReadAssigned d.head.version a → follows_assigned (last_of d.assigned) a.address ≡ true → Backs d.head.length (assigned_left (record d { assigned = d.assigned ++ a ∷ [] }) (left - 1)) (λ taken f. Q (assigned d.head.version a ++ taken) f))
    → Backs d.head.length (to_address d (address_place.Assigned left)) Q
assigned_back_one d left Q backs =
    address_backs d (address_place.Assigned left) Q (λ at a says.
    back_when d.head.length (follows_assigned (last_of d.assigned) a) (to_number d (number.AssignedNode left a)) at (λ taken f. Q (address d.head.version a ++ taken) f) (λ up.
    word_backs d (number.AssignedNode left a) (λ taken f. Q (address d.head.version a ++ taken) f) refl (λ at_node n small.
    back_when d.head.length (is_node n) (assigned_left (record d { assigned = d.assigned ++ record { address = a; node = Some n } ∷ [] }) (left - 1)) at_node (λ taken f. Q (address d.head.version a ++ (u32 n ++ taken)) f) (λ is_n.
    (let x : Assigned = record { address = a; node = Some n } in
    backs_at d.head.length (assigned_left (record d { assigned = d.assigned ++ x ∷ [] }) (left - 1)) Q (λ taken. assigned d.head.version x ++ taken) (λ taken. address d.head.version a ++ (u32 n ++ taken))
    (λ taken. append_assoc (address d.head.version a) (u32 n) taken) (backs x (record { says = says; given = record { n = n; node = refl; is = is_n } }) up))))))

pub assigned_back : (n : ℕ) (d : Draft) (done : List Assigned) (Q : List ℕ → Frame → Type 0)
    → ((xs : List Assigned) → length xs ≡ n → AllByRecursion (IsReadAssigned d.head.version) xs → InOrder (λ last a. follows_assigned last a.address) (last_of done) xs
    → Backs d.head.length (assigned_whole (record d { assigned = done ++ xs }) d.head.operation) (λ taken f. Q (flat_map (assigned d.head.version) xs ++ taken) f))
    → Backs d.head.length (assigned_left (record d { assigned = done }) n) Q
assigned_back zero d done Q backs = rw append-nil at (backs [] refl tt tt)
assigned_back (suc n) d done Q backs =
    let some : ltb 0 (suc n) ≡ true = lt-ltb _ _ (omega arith) in
    let less : suc n - 1 ≡ n = omega arith in
    rw some (assigned_back_one (record d { assigned = done }) (suc n) Q (λ a is up.
    (let then : Backs d.head.length (assigned_left (record d { assigned = done ++ a ∷ [] }) n) (λ taken f. Q (assigned d.head.version a ++ taken) f) =
    assigned_back n d (done ++ a ∷ []) (λ taken f. Q (assigned d.head.version a ++ taken) f) (λ xs len are order.
    (let joined : (done ++ a ∷ []) ++ xs ≡ done ++ a ∷ xs = append_assoc done (a ∷ []) xs in
    rw joined (backs_at d.head.length (assigned_whole (record d { assigned = done ++ a ∷ xs }) d.head.operation) Q (λ taken. flat_map (assigned d.head.version) (a ∷ xs) ++ taken) (λ taken. assigned d.head.version a ++ (flat_map (assigned d.head.version) xs ++ taken))
    (λ taken. append_assoc (assigned d.head.version a) (flat_map (assigned d.head.version) xs) taken)
    (backs (a ∷ xs) (ap suc len) (is, are) (up, order_before (λ last a. follows_assigned last a.address) done a xs order))))) in
    rw less then)))
