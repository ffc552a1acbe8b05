-- Lists, backwards: where a frame was read, the items of its lists stand one after the other.
use Rattle.std.proofs.Common.{◌≡◌, ℕ, zero, suc, ◌-◌, Bool, true, false, cond, ltb, ◌&&◌, List, [], ◌∷◌, ◌++◌, length, Option, Some, None, refl, sym, ap, subst, append_assoc, arith}
use Rattle.std.specs.List.{flat_map, AllByRecursion}
use Rattle.std.proofs.lemmas.Bool.{and_parts, lt-ltb, ltb-true}
use Rattle.std.proofs.lemmas.List.{append-nil}
use Rattle.ct_values.specs.declared.client.Pair.{Pair}
use Rattle.ct_frame.specs.declared.frame.Frame.{Frame}
use Rattle.ct_frame.specs.declared.frame.Msg.TheVariants as msg
use Rattle.ct_frame.specs.declared.frame.TableRow.{TableRow}
use Rattle.ct_frame.specs.Fields.{is_below_limit, is_db, is_node}
use Rattle.ct_wire_fields.specs.declared.place.NumberPlace.TheVariants as number
use Rattle.ct_wire_fields.specs.declared.place.TextPlace.TheVariants as text
use Rattle.ct_wire_fields.specs.declared.draft.Draft.{Draft}
use Rattle.ct_wire_fields.specs.declared.draft.Head.{Head}
use Rattle.ct_wire_fields.specs.declared.draft.Step.{Step}
use Rattle.ct_wire_fields.specs.declared.version.Version.{Version}
use Rattle.ct_wire_fields.specs.Version.{names_masters}
use Rattle.ct_wire_fields.specs.Check.{follows_db, follows_node, follows_row, key_of, last_of, value_of}
use Rattle.ct_wire_fields.specs.Reading.{after_nodes, master_of, may_have_row, plain_master, next_write, row_key_found, row_master_found, row_value_found, rows_left, to_number, to_text, whole, write_key_found, write_value_found}
use Rattle.ct_wire.specs.Spelling.{key, node_or_none, pair, row, u32, u64, value}
use Rattle.ct_law_wire.specs.Grammar.{IsKey, IsPair, IsValue}
use Rattle.ct_law_wire.proofs.Lists.{InOrder, last_added}
use Rattle.ct_law_wire.proofs.Tables.{row_parts}
use Rattle.ct_law_wire.proofs.Back.{Backs, back_when, broken_backs, key_backs, long_backs, value_backs, word_backs}

-- what follows from Q
pub backs_as : (long : ℕ) (s : Step) (Q R : List ℕ → Frame → Type 0) → ((taken : List ℕ) (f : Frame) → Q taken f → R taken f) → Backs long s Q → Backs long s R
backs_as long s Q R so backs = record {
  back = λ at bytes f n rest fits e.
      (let t = backs.back at bytes f n rest fits e in
      record { taken = t.taken; parts = t.parts; fills = t.fills; whole = t.whole; holds = so t.taken f t.holds });
}

-- the same bytes in other brackets
pub backs_at : (long : ℕ) (s : Step) (Q : List ℕ → Frame → Type 0) (a b : List ℕ → List ℕ) → ((taken : List ℕ) → a taken ≡ b taken) → Backs long s (λ taken f. Q (a taken) f) → Backs long s (λ taken f. Q (b taken) f)
backs_at long s Q a b same backs = backs_as long s (λ taken f. Q (a taken) f) (λ taken f. Q (b taken) f) (λ taken f holds. subst (λ (t : List ℕ). Q t f) (same taken) holds) backs

pub order_before : {X : Type 0} (follows : Option X → X → Bool) (done : List X) (x : X) (xs : List X) → InOrder follows (last_of (done ++ x ∷ [])) xs → InOrder follows (Some x) xs
order_before follows done x xs up = subst (λ (last : Option _). InOrder follows last xs) (last_added done x) up

-- ---- texts

key_known : (k : List ℕ) → (ltb 0 (length k) && ltb (length k) 256) ≡ true → key_of k ≡ Some k
key_known k ok = rw ok refl

is_key : (k : List ℕ) → (ltb 0 (length k) && ltb (length k) 256) ≡ true → IsKey k
is_key k ok = let both = and_parts (ltb 0 (length k)) (ltb (length k) 256) ok in (ltb-true 0 (length k) both.0, ltb-true (length k) 256 both.1)

value_known : (x : List ℕ) → ltb (length x) 1025 ≡ true → value_of x ≡ Some x
value_known x ok = rw ok refl

is_value : (x : List ℕ) → ltb (length x) 1025 ≡ true → IsValue x
is_value x ok = ltb-true (length x) 1025 ok

-- a key that was taken, where the step behind it is a function of the key found
pub found_key : (long : ℕ) (step_of : Option (List ℕ) → Step) (k : List ℕ) (Q : List ℕ → Frame → Type 0) → (ltb 0 (length k) && ltb (length k) 256) ≡ true → (IsKey k → Backs long (step_of (Some k)) Q) → Backs long (step_of (key_of k)) Q
found_key long step_of k Q ok backs = subst (λ (o : Option (List ℕ)). Backs long (step_of o) Q) (sym (key_known k ok)) (backs (is_key k ok))

pub found_value : (long : ℕ) (step_of : Option (List ℕ) → Step) (x : List ℕ) (Q : List ℕ → Frame → Type 0) → ltb (length x) 1025 ≡ true → (IsValue x → Backs long (step_of (Some x)) Q) → Backs long (step_of (value_of x)) Q
found_value long step_of x Q ok backs = subst (λ (o : Option (List ℕ)). Backs long (step_of o) Q) (sym (value_known x ok)) (backs (is_value x ok))

-- ---- nodes

pub nodes_back : (n : ℕ) (d : Draft) (done : List ℕ) (Q : List ℕ → Frame → Type 0)
    → ((xs : List ℕ) → length xs ≡ suc n → AllByRecursion (λ x. is_node x ≡ true) xs → InOrder follows_node (last_of done) xs → Backs d.head.length (after_nodes (record d { nodes = done ++ xs }) d.head.operation) (λ taken f. Q (flat_map u32 xs ++ taken) f))
    → Backs d.head.length (to_number (record d { nodes = done }) (number.NodeItem (suc n))) Q
nodes_back zero d done Q backs =
    word_backs (record d { nodes = done }) (number.NodeItem 1) Q refl (λ at k small.
    back_when d.head.length (is_node k && follows_node (last_of done) k) (after_nodes (record d { nodes = done ++ k ∷ [] }) d.head.operation) at (λ taken f. Q (u32 k ++ taken) f)
    (λ ok. (let both = and_parts (is_node k) (follows_node (last_of done) k) ok in backs (k ∷ []) refl (both.0, tt) (both.1, tt))))
nodes_back (suc n) d done Q backs =
    let more : ltb 1 (suc (suc n)) ≡ true = lt-ltb _ _ (omega arith) in
    let left : suc (suc n) - 1 ≡ suc n = omega arith in
    word_backs (record d { nodes = done }) (number.NodeItem (suc (suc n))) Q refl (λ at k small.
    back_when d.head.length (is_node k && follows_node (last_of done) k) _ at (λ taken f. Q (u32 k ++ taken) f)
    (λ ok. (let both = and_parts (is_node k) (follows_node (last_of done) k) ok in
    let then : Backs d.head.length (to_number (record d { nodes = done ++ k ∷ [] }) (number.NodeItem (suc n))) (λ taken f. Q (u32 k ++ taken) f) =
    nodes_back n d (done ++ k ∷ []) (λ taken f. Q (u32 k ++ taken) f) (λ xs len are up.
    (let joined : (done ++ k ∷ []) ++ xs ≡ done ++ k ∷ xs = append_assoc done (k ∷ []) xs in
    rw joined (backs (k ∷ xs) (ap suc len) (both.0, are) (both.1, order_before follows_node done k xs up)))) in
    rw (more, left) then)))

-- ---- the writes of a commit

write_back : (d : Draft) (left : ℕ) (done : List Pair) (Q : List ℕ → Frame → Type 0)
    → ((x : Pair) → IsPair x → Backs d.head.length (next_write (record d { pairs = done ++ x ∷ [] }) left) (λ taken f. Q (pair x ++ taken) f))
    → Backs d.head.length (to_text (record d { pairs = done }) (text.WriteKey left)) Q
write_back d left done Q backs =
    key_backs (record d { pairs = done }) (text.WriteKey left) Q refl (λ at k k_ok.
    found_key d.head.length (write_key_found (record d { pairs = done }) at left) k (λ taken f. Q (key k ++ taken) f) k_ok (λ is_k.
    value_backs (record d { pairs = done }) (text.WriteValue left k) (λ taken f. Q (key k ++ taken) f) refl (λ at x x_ok.
    found_value d.head.length (write_value_found (record d { pairs = done }) at left k) x (λ taken f. Q (key k ++ (value x ++ taken)) f) x_ok (λ is_x.
    backs_at d.head.length (next_write (record d { pairs = done ++ record { key = k; value = x } ∷ [] }) left) Q (λ taken. pair (record { key = k; value = x }) ++ taken) (λ taken. key k ++ (value x ++ taken))
    (λ taken. append_assoc (key k) (value x) taken) (backs (record { key = k; value = x }) (is_k, is_x))))))

pub writes_back : (n : ℕ) (d : Draft) (done : List Pair) (Q : List ℕ → Frame → Type 0)
    → ((xs : List Pair) → length xs ≡ suc n → AllByRecursion IsPair xs → Backs d.head.length (whole d.head (msg.PUpdate d.db d.seq (done ++ xs))) (λ taken f. Q (flat_map pair xs ++ taken) f))
    → Backs d.head.length (to_text (record d { pairs = done }) (text.WriteKey (suc n))) Q
writes_back zero d done Q backs =
    write_back d 1 done Q (λ x is.
    backs_at d.head.length (whole d.head (msg.PUpdate d.db d.seq (done ++ x ∷ []))) Q (λ taken. flat_map pair (x ∷ []) ++ taken) (λ taken. pair x ++ taken) (λ taken. ap (λ (t : List ℕ). t ++ taken) (append-nil (pair x))) (backs (x ∷ []) refl (is, tt)))
writes_back (suc n) d done Q backs =
    let more : ltb 1 (suc (suc n)) ≡ true = lt-ltb _ _ (omega arith) in
    let left : suc (suc n) - 1 ≡ suc n = omega arith in
    write_back d (suc (suc n)) done Q (λ x is.
    (let then : Backs d.head.length (to_text (record d { pairs = done ++ x ∷ [] }) (text.WriteKey (suc n))) (λ taken f. Q (pair x ++ taken) f) =
    writes_back n d (done ++ x ∷ []) (λ taken f. Q (pair x ++ taken) f) (λ xs len are.
    (let joined : (done ++ x ∷ []) ++ xs ≡ done ++ x ∷ xs = append_assoc done (x ∷ []) xs in
    rw joined (backs_at d.head.length (whole d.head (msg.PUpdate d.db d.seq (done ++ x ∷ xs))) Q (λ taken. flat_map pair (x ∷ xs) ++ taken) (λ taken. pair x ++ (flat_map pair xs ++ taken))
    (λ taken. append_assoc (pair x) (flat_map pair xs) taken) (backs (x ∷ xs) (ap suc len) (is, are))))) in
    rw (more, left) then))

-- ---- rows

-- a row that was read, whose data master is as M says
pub record IsReadRow (M : Option ℕ → Type 0) (r : TableRow) : Type 0 where
  pub db : is_db r.db ≡ true
  pub rsn : is_below_limit r.rsn ≡ true
  pub key : IsKey r.key
  pub value : IsValue r.value
  pub master : M r.master

-- what a frame of this header and these nodes lets a row name, or takes as its data master
pub record MayName (h : Head) (nodes : List ℕ) (M : Option ℕ → Type 0) : Type 0 where
  pub named : names_masters h.version ≡ true → (d : Draft) (n : ℕ) (m : Option ℕ) → master_of (record d { head = h; nodes = nodes }) n h.operation ≡ Some m → M m × (node_or_none m ≡ u32 n)
  pub plain : names_masters h.version ≡ false → (d : Draft) → may_have_row (record d { head = h; nodes = nodes }) h.operation ≡ true → M (plain_master (record d { head = h; nodes = nodes }) h.operation)

named_master : (v : Version) (m : Option ℕ) (n : ℕ) → names_masters v ≡ true → node_or_none m ≡ u32 n → cond (names_masters v) (node_or_none m) [] ≡ u32 n
named_master v m n named is = rw named is

no_master : (v : Version) (m : Option ℕ) → names_masters v ≡ false → cond (names_masters v) (node_or_none m) [] ≡ []
no_master v m unnamed = rw unnamed refl

-- the data master that was found
master_back : (o : Option (Option ℕ)) (d : Draft) (at left n : ℕ) (k x : List ℕ) (M : Option ℕ → Type 0) (Q : List ℕ → Frame → Type 0) → names_masters d.head.version ≡ true → MayName d.head d.nodes M → master_of d n d.head.operation ≡ o
    → ((m : Option ℕ) → M m → Backs d.head.length (rows_left (record d { table = d.table ++ record { db = d.db; key = k; rsn = d.rsn; value = x; master = m } ∷ [] }) (left - 1)) (λ taken f. Q (cond (names_masters d.head.version) (node_or_none m) [] ++ taken) f))
    → Backs d.head.length (row_master_found d at left k x o) (λ taken f. Q (u32 n ++ taken) f)
master_back None d at left n k x M Q named may is backs = broken_backs d.head.length at (λ taken f. Q (u32 n ++ taken) f)
master_back (Some m) d at left n k x M Q named may is backs =
    let known = may.named named d n m is in
    backs_at d.head.length (rows_left (record d { table = d.table ++ record { db = d.db; key = k; rsn = d.rsn; value = x; master = m } ∷ [] }) (left - 1)) Q (λ taken. cond (names_masters d.head.version) (node_or_none m) [] ++ taken) (λ taken. u32 n ++ taken)
    (λ taken. ap (λ (t : List ℕ). t ++ taken) (named_master d.head.version m n named known.1)) (backs m known.0)

-- behind the value of a row
masters_back : (b : Bool) (d : Draft) (left : ℕ) (k x : List ℕ) (M : Option ℕ → Type 0) (Q : List ℕ → Frame → Type 0) → names_masters d.head.version ≡ b → MayName d.head d.nodes M → may_have_row d d.head.operation ≡ true
    → ((m : Option ℕ) → M m → Backs d.head.length (rows_left (record d { table = d.table ++ record { db = d.db; key = k; rsn = d.rsn; value = x; master = m } ∷ [] }) (left - 1)) (λ taken f. Q (cond (names_masters d.head.version) (node_or_none m) [] ++ taken) f))
    → Backs d.head.length (cond b (to_number d (number.RowMaster left k x)) (rows_left (record d { table = d.table ++ record { db = d.db; key = k; rsn = d.rsn; value = x; master = plain_master d d.head.operation } ∷ [] }) (left - 1))) Q
masters_back true d left k x M Q named may have backs =
    word_backs d (number.RowMaster left k x) Q refl (λ at n small. master_back (master_of d n d.head.operation) d at left n k x M Q named may refl backs)
masters_back false d left k x M Q unnamed may have backs =
    let m = plain_master d d.head.operation in
    backs_at d.head.length (rows_left (record d { table = d.table ++ record { db = d.db; key = k; rsn = d.rsn; value = x; master = m } ∷ [] }) (left - 1)) Q (λ taken. cond (names_masters d.head.version) (node_or_none m) [] ++ taken) (λ taken. taken)
    (λ taken. ap (λ (t : List ℕ). t ++ taken) (no_master d.head.version m unnamed)) (backs m (may.plain unnamed d have))

-- what is asked of the step behind a row
abbrev RowOnward : Draft → ℕ → (Option ℕ → Type 0) → (List ℕ → Frame → Type 0) → Type 0
RowOnward d left M Q = (r : TableRow) → IsReadRow M r → follows_row (last_of d.table) r.db r.key ≡ true
    → Backs d.head.length (rows_left (record d { db = r.db; rsn = r.rsn; table = d.table ++ r ∷ [] }) (left - 1)) (λ taken f. Q (row d.head.version r ++ taken) f)

row_back : (d : Draft) (left : ℕ) (M : Option ℕ → Type 0) (Q : List ℕ → Frame → Type 0) → MayName d.head d.nodes M → ((other : Draft) → other.head ≡ d.head → other.nodes ≡ d.nodes → may_have_row d d.head.operation ≡ true → may_have_row other d.head.operation ≡ true)
    → RowOnward d left M Q → Backs d.head.length (to_number d (number.RowDb left)) Q
row_back d left M Q may same backs =
    word_backs d (number.RowDb left) Q refl (λ at db small.
    back_when d.head.length (is_db db && follows_db (last_of d.table) db && may_have_row d d.head.operation) _ at (λ taken f. Q (u32 db ++ taken) f) (λ ok.
    (let three = and_parts (is_db db && follows_db (last_of d.table) db) (may_have_row d d.head.operation) ok in
    let two = and_parts (is_db db) (follows_db (last_of d.table) db) three.0 in
    key_backs (record d { db = db }) (text.RowKey left at) (λ taken f. Q (u32 db ++ taken) f) refl (λ at_key k k_ok.
    found_key d.head.length (row_key_found (record d { db = db }) at_key left at) k (λ taken f. Q (u32 db ++ (key k ++ taken)) f) k_ok (λ is_k.
    back_when d.head.length (follows_row (last_of d.table) db k) (to_number (record d { db = db }) (number.RowRsn left k)) at (λ taken f. Q (u32 db ++ (key k ++ taken)) f) (λ up.
    long_backs (record d { db = db }) (number.RowRsn left k) (λ taken f. Q (u32 db ++ (key k ++ taken)) f) refl (λ at_rsn rsn small_rsn.
    back_when d.head.length (is_below_limit rsn) _ at_rsn (λ taken f. Q (u32 db ++ (key k ++ (u64 rsn ++ taken))) f) (λ rsn_ok.
    value_backs (record d { db = db; rsn = rsn }) (text.RowValue left k) (λ taken f. Q (u32 db ++ (key k ++ (u64 rsn ++ taken))) f) refl (λ at_value x x_ok.
    found_value d.head.length (row_value_found (record d { db = db; rsn = rsn }) at_value left k) x (λ taken f. Q (u32 db ++ (key k ++ (u64 rsn ++ (value x ++ taken)))) f) x_ok (λ is_x.
    masters_back (names_masters d.head.version) (record d { db = db; rsn = rsn }) left k x M (λ taken f. Q (u32 db ++ (key k ++ (u64 rsn ++ (value x ++ taken)))) f) refl may
    (same (record d { db = db; rsn = rsn }) refl refl three.1) (λ m is_m.
    (let r : TableRow = record { db = db; key = k; rsn = rsn; value = x; master = m } in
    backs_at d.head.length (rows_left (record d { db = db; rsn = rsn; table = d.table ++ r ∷ [] }) (left - 1)) Q (λ taken. row d.head.version r ++ taken)
    (λ taken. u32 db ++ (key k ++ (u64 rsn ++ (value x ++ (cond (names_masters d.head.version) (node_or_none m) [] ++ taken)))))
    (λ taken. row_parts d.head.version r taken)
    (backs r (record { db = two.0; rsn = rsn_ok; key = is_k; value = is_x; master = is_m }) up)))))))))))))

pub rows_back : (n : ℕ) (d : Draft) (done : List TableRow) (M : Option ℕ → Type 0) (Q : List ℕ → Frame → Type 0) → MayName d.head d.nodes M → ((one other : Draft) → one.head ≡ d.head → one.nodes ≡ d.nodes → other.head ≡ d.head → other.nodes ≡ d.nodes → may_have_row one d.head.operation ≡ true → may_have_row other d.head.operation ≡ true)
    → ((rs : List TableRow) → length rs ≡ n → AllByRecursion (IsReadRow M) rs → InOrder (λ last r. follows_row last r.db r.key) (last_of done) rs → (db rsn : ℕ) → Backs d.head.length (to_number (record d { db = db; rsn = rsn; table = done ++ rs }) number.PTableCount) (λ taken f. Q (flat_map (row d.head.version) rs ++ taken) f))
    → Backs d.head.length (rows_left (record d { table = done }) n) Q
rows_back zero d done M Q may same backs = rw append-nil at (backs [] refl tt tt d.db d.rsn)
rows_back (suc n) d done M Q may same backs =
    let some : ltb 0 (suc n) ≡ true = lt-ltb _ _ (omega arith) in
    let left : suc n - 1 ≡ n = omega arith in
    rw some (row_back (record d { table = done }) (suc n) M Q may (λ other head nodes. same (record d { table = done }) other refl refl head nodes) (λ r is up.
    (let then : Backs d.head.length (rows_left (record d { db = r.db; rsn = r.rsn; table = done ++ r ∷ [] }) n) (λ taken f. Q (row d.head.version r ++ taken) f) =
    rows_back n (record d { db = r.db; rsn = r.rsn }) (done ++ r ∷ []) M (λ taken f. Q (row d.head.version r ++ taken) f) may same (λ rs len are order db rsn.
    (let joined : (done ++ r ∷ []) ++ rs ≡ done ++ r ∷ rs = append_assoc done (r ∷ []) rs in
    rw joined (backs_at d.head.length (to_number (record d { db = db; rsn = rsn; table = done ++ r ∷ rs }) number.PTableCount) Q (λ taken. flat_map (row d.head.version) (r ∷ rs) ++ taken) (λ taken. row d.head.version r ++ (flat_map (row d.head.version) rs ++ taken))
    (λ taken. append_assoc (row d.head.version r) (flat_map (row d.head.version) rs) taken)
    (backs (r ∷ rs) (ap suc len) (is, are) (up, order_before (λ last r. follows_row last r.db r.key) done r rs order) db rsn)))) in
    rw left then)))
