-- The bodies of messages, backwards: where a frame was read, the fields of its message stand behind the header.
use Rattle.std.proofs.Common.{◌≡◌, ℕ, zero, suc, Bool, true, false, cond, ltb, eqb, ◌&&◌, ◌||◌, List, [], ◌∷◌, ◌++◌, length, Option, Some, None, refl, sym, ap, subst, ◌∙◌, append_assoc, IsFalse}
use Rattle.std.specs.Prelude.{nat_eq}
use Rattle.std.specs.List.{flat_map, AllByRecursion, list_all, list_any}
use Rattle.std.proofs.lemmas.Bool.{and_from, and_parts, both_ways, eqb-true}
use Rattle.std.proofs.lemmas.List.{append-nil}
use Rattle.std.proofs.lemmas.Option.{cond_some}
use Rattle.ct_values.specs.Address.{address_before}
use Rattle.ct_values.specs.declared.address.Address.{Address}
use Rattle.ct_values.specs.declared.client.Pair.{Pair}
use Rattle.ct_frame.specs.declared.frame.Assigned.{Assigned}
use Rattle.ct_frame.specs.declared.frame.CallKind.{CallKind}
use Rattle.ct_frame.specs.declared.frame.CallKind.TheVariants as kinds
use Rattle.ct_frame.specs.declared.frame.Frame.{Frame}
use Rattle.ct_frame.specs.declared.frame.Msg.{Msg}
use Rattle.ct_frame.specs.declared.frame.Msg.TheVariants as msg
use Rattle.ct_frame.specs.declared.frame.PTable.{PTable}
use Rattle.ct_frame.specs.declared.frame.TableRow.{TableRow}
use Rattle.ct_frame.specs.Fields.{are_addresses, are_assigned, are_nodes, are_ptables, are_rows, ascends, ascends_after, assigned_before, is_assigned, is_below_limit, is_db, is_from_one, is_kept, is_member, is_message, is_node, is_one_to_sixteen, is_own_or_none, is_ptable, is_row, is_some_node, pair_before, ptable_before, row_before}
use Rattle.ct_wire_fields.specs.declared.place.Operation.{Operation}
use Rattle.ct_wire_fields.specs.declared.place.Operation.TheVariants as operation
use Rattle.ct_wire_fields.specs.declared.place.NumberPlace.TheVariants as number
use Rattle.ct_wire_fields.specs.declared.place.TextPlace.TheVariants as text
use Rattle.ct_wire_fields.specs.declared.draft.Draft.{Draft}
use Rattle.ct_wire_fields.specs.declared.draft.Head.{Head}
use Rattle.ct_wire_fields.specs.declared.draft.Step.TheVariants as step
use Rattle.ct_wire_fields.specs.declared.version.Version.{Version}
use Rattle.ct_wire_fields.specs.Version.{names_masters}
use Rattle.ct_wire_fields.specs.Check.{follows_address, follows_assigned, follows_node, follows_pair, follows_ptable, follows_row, is_count}
use Rattle.ct_wire_fields.specs.Reading.{addresses_whole, after_db, after_key, after_kind, after_nodes, after_ptables, after_rsn, after_value, assigned_whole, begun, is_request, key_found, may_have_row, to_number, to_text, value_found, whole}
use Rattle.ct_wire.specs.Spelling.{address, assigned, bases, body, held, key, kind, list, node_or_none, pair, ptable, request, row, u32, u64, value}
use Rattle.ct_wire.specs.Whole.{headed}
use Rattle.ct_law_wire.specs.Grammar.{IsKey, IsPair, IsPTable, IsValue, Says, SaysAddress, SaysAssigned, SaysRow}
use Rattle.ct_law_wire.proofs.Lists.{InOrder, regrouped_4, regrouped_5}
use Rattle.ct_law_wire.proofs.Tables.{IsKeptPair, IsNextPTable}
use Rattle.ct_law_wire.proofs.Messages.{framed, op_of}
use Rattle.ct_law_wire.proofs.Back.{Backs, back_when, broken_backs, byte_backs, key_backs, long_backs, value_backs, whole_backs, word_backs}
use Rattle.ct_law_wire.proofs.Items.{IsReadRow, MayName, backs_at, found_key, found_value, nodes_back, rows_back, writes_back}
use Rattle.ct_law_wire.proofs.SpelledTables.{IsReadAssigned, addresses_back, assigned_back, ptables_back}

-- the message of a frame of this header, whose body was taken
pub record Body (h : Head) (taken : List ℕ) (f : Frame) : Type 0 where
  pub m : Msg
  pub frame : framed h.generation h.receiver h.sender m ≡ f
  pub op : op_of m ≡ h.operation
  pub asks : request m ≡ h.request
  pub bytes : taken ≡ body h.version m
  pub says : Says h.version h.sender m
  pub kept : is_message h.sender m ≡ true

abbrev made : ℕ → Version → ℕ → ℕ → ℕ → ℕ → Operation → Head
made long v g r s q o = record { length = long; version = v; generation = g; operation = o; receiver = r; sender = s; request = q }

-- ---- from what was read to the rules

all_from : {X : Type 0} (test : X → Bool) (P : X → Type 0) → ((x : X) → P x → test x ≡ true) → (xs : List X) → AllByRecursion P xs → list_all test xs ≡ true
all_from test P so [] are = refl
all_from test P so (x ∷ xs) are = and_from (test x) (list_all test xs) (so x are.0) (all_from test P so xs are.1)

each_from : {X : Type 0} (P R : X → Type 0) → ((x : X) → P x → R x) → (xs : List X) → AllByRecursion P xs → AllByRecursion R xs
each_from P R so [] are = tt
each_from P R so (x ∷ xs) are = (so x are.0, each_from P R so xs are.1)

ascends_on : {X : Type 0} (before : X → X → Bool) (follows : Option X → X → Bool) → ((a b : X) → follows (Some a) b ≡ before a b) → (x : X) (xs : List X) → InOrder follows (Some x) xs → ascends_after before x xs ≡ true
ascends_on before follows same x [] up = refl
ascends_on before follows same x (y ∷ ys) up = and_from (before x y) (ascends_after before y ys) (sym (same x y) ∙ up.0) (ascends_on before follows same y ys up.1)

ascends_from : {X : Type 0} (before : X → X → Bool) (follows : Option X → X → Bool) → ((a b : X) → follows (Some a) b ≡ before a b) → (xs : List X) → InOrder follows None xs → ascends before xs ≡ true
ascends_from before follows same [] up = refl
ascends_from before follows same (x ∷ xs) up = ascends_on before follows same x xs up.1

row_kept : (may : Option ℕ → Bool) (M : Option ℕ → Type 0) → ((m : Option ℕ) → M m → may m ≡ true) → (r : TableRow) → IsReadRow M r → is_row may r ≡ true
row_kept may M so r is = and_from _ _ (and_from _ _ is.db is.rsn) (so r.master is.master)

ptable_kept : (t : PTable) → IsNextPTable t → is_ptable t ≡ true
ptable_kept t is =
    and_from _ _ (and_from _ _ (and_from _ _ is.db is.seq) (all_from is_kept IsKeptPair (λ x p. p.kept) t.pairs is.pairs)) (ascends_from pair_before (λ last p. follows_pair last p.key) (λ a b. refl) t.pairs is.up)

ptable_said : (t : PTable) → IsNextPTable t → IsPTable t
ptable_said t is = each_from IsKeptPair IsPair (λ x p. p.says) t.pairs is.pairs

given_kept : (v : Version) (a : Assigned) → IsReadAssigned v a → is_assigned a ≡ true
given_kept v a is = ap is_some_node is.given.node ∙ is.given.is

-- ---- messages of one record

named_back : (h : Head) (Q : List ℕ → Frame → Type 0) → ((db : ℕ) → after_db (record (headed h) { db = db }) h.operation ≡ to_text (record (headed h) { db = db }) text.Key)
    → ((db : ℕ) (k : List ℕ) → is_db db ≡ true → IsKey k → Backs h.length (after_key (record (headed h) { db = db }) k h.operation) (λ taken f. Q (u32 db ++ (key k ++ taken)) f))
    → Backs h.length (to_number (headed h) number.Db) Q
named_back h Q then backs =
    word_backs (headed h) number.Db Q refl (λ at db small.
    back_when h.length (is_db db) (after_db (record (headed h) { db = db }) h.operation) at (λ taken f. Q (u32 db ++ taken) f) (λ ok.
    rw (then db) (key_backs (record (headed h) { db = db }) text.Key (λ taken f. Q (u32 db ++ taken) f) refl (λ at_key k k_ok.
    found_key h.length (key_found (record (headed h) { db = db }) at_key) k (λ taken f. Q (u32 db ++ (key k ++ taken)) f) k_ok (λ is_k. backs db k ok is_k)))))

-- a number stands behind the key
short_back : (h : Head) (m : ℕ → List ℕ → ℕ → Msg) (Q : List ℕ → Frame → Type 0) → ((db : ℕ) → after_db (record (headed h) { db = db }) h.operation ≡ to_text (record (headed h) { db = db }) text.Key)
    → ((db : ℕ) (k : List ℕ) → after_key (record (headed h) { db = db }) k h.operation ≡ to_number (record (headed h) { db = db }) (number.Rsn k))
    → ((at db : ℕ) (k : List ℕ) (rsn : ℕ) → after_rsn (record (headed h) { db = db; rsn = rsn }) at k h.operation ≡ whole h (m db k rsn))
    → ((db : ℕ) (k : List ℕ) (rsn : ℕ) → is_db db ≡ true → IsKey k → is_below_limit rsn ≡ true → Q (u32 db ++ key k ++ u64 rsn) (framed h.generation h.receiver h.sender (m db k rsn)))
    → Backs h.length (to_number (headed h) number.Db) Q
short_back h m Q then_key then_rsn ends holds =
    named_back h Q then_key (λ db k is_d is_k.
    rw (then_rsn db k) (long_backs (record (headed h) { db = db }) (number.Rsn k) (λ taken f. Q (u32 db ++ (key k ++ taken)) f) refl (λ at rsn small.
    back_when h.length (is_below_limit rsn) (after_rsn (record (headed h) { db = db; rsn = rsn }) at k h.operation) at (λ taken f. Q (u32 db ++ (key k ++ (u64 rsn ++ taken))) f) (λ ok.
    rw (ends at db k rsn) (whole_backs h.length (framed h.generation h.receiver h.sender (m db k rsn)) (λ taken f. Q (u32 db ++ (key k ++ (u64 rsn ++ taken))) f) (holds db k rsn is_d is_k ok))))))

-- a number and a value stand behind the key
copy_back : (h : Head) (m : ℕ → List ℕ → ℕ → List ℕ → Msg) (Q : List ℕ → Frame → Type 0) → ((db : ℕ) → after_db (record (headed h) { db = db }) h.operation ≡ to_text (record (headed h) { db = db }) text.Key)
    → ((db : ℕ) (k : List ℕ) → after_key (record (headed h) { db = db }) k h.operation ≡ to_number (record (headed h) { db = db }) (number.Rsn k))
    → ((at db : ℕ) (k : List ℕ) (rsn : ℕ) → after_rsn (record (headed h) { db = db; rsn = rsn }) at k h.operation ≡ to_text (record (headed h) { db = db; rsn = rsn }) (text.Value k))
    → ((db : ℕ) (k : List ℕ) (rsn : ℕ) (x : List ℕ) → after_value (record (headed h) { db = db; rsn = rsn }) k x h.operation ≡ whole h (m db k rsn x))
    → ((db : ℕ) (k : List ℕ) (rsn : ℕ) (x : List ℕ) → is_db db ≡ true → IsKey k → is_below_limit rsn ≡ true → IsValue x → Q (u32 db ++ key k ++ u64 rsn ++ value x) (framed h.generation h.receiver h.sender (m db k rsn x)))
    → Backs h.length (to_number (headed h) number.Db) Q
copy_back h m Q then_key then_rsn then_value ends holds =
    named_back h Q then_key (λ db k is_d is_k.
    rw (then_rsn db k) (long_backs (record (headed h) { db = db }) (number.Rsn k) (λ taken f. Q (u32 db ++ (key k ++ taken)) f) refl (λ at rsn small.
    back_when h.length (is_below_limit rsn) (after_rsn (record (headed h) { db = db; rsn = rsn }) at k h.operation) at (λ taken f. Q (u32 db ++ (key k ++ (u64 rsn ++ taken))) f) (λ ok.
    rw (then_value at db k rsn) (value_backs (record (headed h) { db = db; rsn = rsn }) (text.Value k) (λ taken f. Q (u32 db ++ (key k ++ (u64 rsn ++ taken))) f) refl (λ at_value x x_ok.
    found_value h.length (value_found (record (headed h) { db = db; rsn = rsn }) at_value k) x (λ taken f. Q (u32 db ++ (key k ++ (u64 rsn ++ (value x ++ taken)))) f) x_ok (λ is_x.
    rw (ends db k rsn x) (whole_backs h.length (framed h.generation h.receiver h.sender (m db k rsn x)) (λ taken f. Q (u32 db ++ (key k ++ (u64 rsn ++ (value x ++ taken)))) f)
    (subst (λ (t : List ℕ). Q t (framed h.generation h.receiver h.sender (m db k rsn x))) (regrouped_4 (u32 db) (key k) (u64 rsn) (value x) ∙ ap (λ (t : List ℕ). u32 db ++ (key k ++ (u64 rsn ++ t))) (sym (append-nil (value x)))) (holds db k rsn x is_d is_k ok is_x))))))))))

kind_back : (zero_is one_is : Bool) (d : Draft) (at n : ℕ) (k : List ℕ) (Q : List ℕ → Frame → Type 0) → (zero_is ≡ true → n ≡ 0) → (one_is ≡ true → n ≡ 1)
    → ((call : CallKind) → Backs d.head.length (after_kind d k call d.head.operation) (λ taken f. Q (kind call ++ taken) f))
    → Backs d.head.length (cond zero_is (after_kind d k kinds.Lock d.head.operation) (cond one_is (after_kind d k kinds.Read d.head.operation) (step.Broken at))) (λ taken f. Q (n ∷ taken) f)
kind_back true one_is d at n k Q none one backs = rw (none refl) (backs kinds.Lock)
kind_back false true d at n k Q none one backs = rw (one refl) (backs kinds.Read)
kind_back false false d at n k Q none one backs = broken_backs d.head.length at (λ taken f. Q (n ∷ taken) f)

kinds_back : (d : Draft) (k : List ℕ) (Q : List ℕ → Frame → Type 0) → ((call : CallKind) → Backs d.head.length (after_kind d k call d.head.operation) (λ taken f. Q (kind call ++ taken) f)) → Backs d.head.length (to_number d (number.Kind k)) Q
kinds_back d k Q backs = byte_backs d (number.Kind k) Q refl (λ at n. kind_back (eqb n 0) (eqb n 1) d at n k Q (λ e. eqb-true n 0 e) (λ e. eqb-true n 1 e) backs)

kind_alone : (call : CallKind) → kind call ++ [] ≡ kind call
kind_alone call = append-nil (kind call)

-- ---- lists of nodes, and of writes

counted : {X : Type 0} (xs : List X) (n : ℕ) → length xs ≡ n → is_count n ≡ true → is_one_to_sixteen xs ≡ true
counted xs n len ok = subst (λ (k : ℕ). is_count k ≡ true) (sym len) ok

members_of : (n : ℕ) (h : Head) (Q : List ℕ → Frame → Type 0) → is_count n ≡ true → ((xs : List ℕ) → are_nodes xs ≡ true → Backs h.length (after_nodes (record (headed h) { nodes = xs }) h.operation) (λ taken f. Q (list u32 xs ++ taken) f))
    → Backs h.length (to_number (headed h) (number.NodeItem n)) (λ taken f. Q (u32 n ++ taken) f)
members_of zero h Q ok backs = absurd (cc)
members_of (suc n) h Q ok backs =
    nodes_back n (headed h) [] (λ taken f. Q (u32 (suc n) ++ taken) f) (λ xs len are up.
    (let kept : are_nodes xs ≡ true = and_from _ _ (and_from _ _ (counted xs (suc n) len ok) (all_from is_node (λ x. is_node x ≡ true) (λ x e. e) xs are)) (ascends_from ltb follows_node (λ a b. refl) xs up) in
    backs_at h.length (after_nodes (record (headed h) { nodes = xs }) h.operation) Q (λ taken. list u32 xs ++ taken) (λ taken. u32 (suc n) ++ (flat_map u32 xs ++ taken)) (λ taken. ap (λ (k : ℕ). u32 k ++ (flat_map u32 xs ++ taken)) len) (backs xs kept)))

members_back : (h : Head) (Q : List ℕ → Frame → Type 0) → ((xs : List ℕ) → are_nodes xs ≡ true → Backs h.length (after_nodes (record (headed h) { nodes = xs }) h.operation) (λ taken f. Q (list u32 xs ++ taken) f))
    → Backs h.length (to_number (headed h) number.NodeCount) Q
members_back h Q backs =
    word_backs (headed h) number.NodeCount Q refl (λ at n small. back_when h.length (is_count n) (to_number (headed h) (number.NodeItem n)) at (λ taken f. Q (u32 n ++ taken) f) (λ ok. members_of n h Q ok backs))

writes_of : (n : ℕ) (d : Draft) (Q : List ℕ → Frame → Type 0) → is_count n ≡ true → ((xs : List Pair) → is_one_to_sixteen xs ≡ true → AllByRecursion IsPair xs → Backs d.head.length (whole d.head (msg.PUpdate d.db d.seq xs)) (λ taken f. Q (list pair xs ++ taken) f))
    → Backs d.head.length (to_text (record d { pairs = [] }) (text.WriteKey n)) (λ taken f. Q (u32 n ++ taken) f)
writes_of zero d Q ok backs = absurd (cc)
writes_of (suc n) d Q ok backs =
    writes_back n d [] (λ taken f. Q (u32 (suc n) ++ taken) f) (λ xs len are.
    backs_at d.head.length (whole d.head (msg.PUpdate d.db d.seq xs)) Q (λ taken. list pair xs ++ taken) (λ taken. u32 (suc n) ++ (flat_map pair xs ++ taken)) (λ taken. ap (λ (k : ℕ). u32 k ++ (flat_map pair xs ++ taken)) len) (backs xs (counted xs (suc n) len ok) are))

writes_count : (d : Draft) (Q : List ℕ → Frame → Type 0) → ((xs : List Pair) → is_one_to_sixteen xs ≡ true → AllByRecursion IsPair xs → Backs d.head.length (whole d.head (msg.PUpdate d.db d.seq xs)) (λ taken f. Q (list pair xs ++ taken) f))
    → Backs d.head.length (to_number (record d { pairs = [] }) number.WriteCount) Q
writes_count d Q backs =
    word_backs (record d { pairs = [] }) number.WriteCount Q refl (λ at n small. back_when d.head.length (is_count n) (to_text (record d { pairs = [] }) (text.WriteKey n)) at (λ taken f. Q (u32 n ++ taken) f) (λ ok. writes_of n d Q ok backs))

-- ---- addresses

addresses_count : (d : Draft) (Q : List ℕ → Frame → Type 0)
    → ((xs : List Address) → AllByRecursion (SaysAddress d.head.version) xs → are_addresses xs ≡ true → Backs d.head.length (addresses_whole (record d { addresses = xs }) d.head.operation) (λ taken f. Q (list (address d.head.version) xs ++ taken) f))
    → Backs d.head.length (to_number (record d { addresses = [] }) number.AddressCount) Q
addresses_count d Q backs =
    word_backs (record d { addresses = [] }) number.AddressCount Q refl (λ at n small.
    addresses_back n d [] (λ taken f. Q (u32 n ++ taken) f) (λ xs len are up.
    backs_at d.head.length (addresses_whole (record d { addresses = xs }) d.head.operation) Q (λ taken. list (address d.head.version) xs ++ taken) (λ taken. u32 n ++ (flat_map (address d.head.version) xs ++ taken))
    (λ taken. ap (λ (k : ℕ). u32 k ++ (flat_map (address d.head.version) xs ++ taken)) len) (backs xs are (ascends_from address_before follows_address (λ a b. refl) xs up))))

assigned_count : (d : Draft) (Q : List ℕ → Frame → Type 0)
    → ((xs : List Assigned) → AllByRecursion (SaysAssigned d.head.version) xs → are_assigned xs ≡ true → Backs d.head.length (assigned_whole (record d { assigned = xs }) d.head.operation) (λ taken f. Q (list (assigned d.head.version) xs ++ taken) f))
    → Backs d.head.length (to_number (record d { assigned = [] }) number.AssignedCount) Q
assigned_count d Q backs =
    word_backs (record d { assigned = [] }) number.AssignedCount Q refl (λ at n small.
    assigned_back n d [] (λ taken f. Q (u32 n ++ taken) f) (λ xs len are up.
    (let kept : are_assigned xs ≡ true = and_from _ _ (all_from is_assigned (IsReadAssigned d.head.version) (given_kept d.head.version) xs are) (ascends_from assigned_before (λ last a. follows_assigned last a.address) (λ a b. refl) xs up) in
    backs_at d.head.length (assigned_whole (record d { assigned = xs }) d.head.operation) Q (λ taken. list (assigned d.head.version) xs ++ taken) (λ taken. u32 n ++ (flat_map (assigned d.head.version) xs ++ taken))
    (λ taken. ap (λ (k : ℕ). u32 k ++ (flat_map (assigned d.head.version) xs ++ taken)) len) (backs xs (each_from (IsReadAssigned d.head.version) (SaysAssigned d.head.version) (λ a is. is.says) xs are) kept))))

-- ---- tables

-- may a row come, in a draft that differs in other fields?
abbrev SameMay : Draft → Type 0
SameMay d = (one other : Draft) → one.head ≡ d.head → one.nodes ≡ d.nodes → other.head ≡ d.head → other.nodes ≡ d.nodes → may_have_row one d.head.operation ≡ true → may_have_row other d.head.operation ≡ true

tables_back : (d : Draft) (may : Option ℕ → Bool) (M : Option ℕ → Type 0) (Q : List ℕ → Frame → Type 0) → ((m : Option ℕ) → M m → may m ≡ true) → MayName d.head d.nodes M → SameMay d
    → ((rs : List TableRow) (ts : List PTable) → are_rows may rs ≡ true → AllByRecursion (IsReadRow M) rs → are_ptables ts ≡ true → AllByRecursion IsPTable ts → (db rsn seq : ℕ)
    → Backs d.head.length (after_ptables (record d { db = db; rsn = rsn; seq = seq; table = rs; ptables = ts; pairs = [] }) d.head.operation) (λ taken f. Q (list (row d.head.version) rs ++ (list ptable ts ++ taken)) f))
    → Backs d.head.length (to_number (record d { table = []; ptables = []; pairs = [] }) number.RowCount) Q
tables_back d may M Q so names same backs =
    word_backs (record d { table = []; ptables = []; pairs = [] }) number.RowCount Q refl (λ at n small.
    rows_back n (record d { ptables = []; pairs = [] }) [] M (λ taken f. Q (u32 n ++ taken) f) names same (λ rs len are up db rsn.
    (let rows : are_rows may rs ≡ true = and_from _ _ (all_from (is_row may) (IsReadRow M) (row_kept may M so) rs are) (ascends_from row_before (λ last r. follows_row last r.db r.key) (λ a b. refl) rs up) in
    word_backs (record d { db = db; rsn = rsn; table = rs; ptables = []; pairs = [] }) number.PTableCount (λ taken f. Q (u32 n ++ (flat_map (row d.head.version) rs ++ taken)) f) refl (λ at_count k small_count.
    ptables_back k (record d { db = db; rsn = rsn; table = rs }) [] (λ taken f. Q (u32 n ++ (flat_map (row d.head.version) rs ++ (u32 k ++ taken))) f) (λ ts many held order other seq.
    (let kept : are_ptables ts ≡ true = and_from _ _ (all_from is_ptable IsNextPTable ptable_kept ts held) (ascends_from ptable_before (λ last t. follows_ptable last t.db) (λ a b. refl) ts order) in
    backs_at d.head.length (after_ptables (record d { db = other; rsn = rsn; seq = seq; table = rs; ptables = ts; pairs = [] }) d.head.operation) Q (λ taken. list (row d.head.version) rs ++ (list ptable ts ++ taken)) (λ taken. u32 n ++ (flat_map (row d.head.version) rs ++ (u32 k ++ (flat_map ptable ts ++ taken))))
    (λ taken. ap (λ (j : ℕ). u32 j ++ (flat_map (row d.head.version) rs ++ (u32 (length ts) ++ (flat_map ptable ts ++ taken)))) len ∙ ap (λ (j : ℕ). u32 n ++ (flat_map (row d.head.version) rs ++ (u32 j ++ (flat_map ptable ts ++ taken)))) many)
    (backs rs ts rows are kept (each_from IsNextPTable IsPTable ptable_said ts held) other rsn seq)))))))

-- what a member names
abbrev Own : Version → ℕ → Option ℕ → Type 0
Own v s m = (is_own_or_none s m ≡ true) × (IsFalse (names_masters v) → m ≡ None)

own_found : (none_is own_is : Bool) (v : Version) (s n : ℕ) (m : Option ℕ) → names_masters v ≡ true → (none_is ≡ true → n ≡ 4294967295) → (own_is ≡ true → eqb n s ≡ true) → cond none_is (Some None) (cond own_is (Some (Some n)) None) ≡ Some m → Own v s m × (node_or_none m ≡ u32 n)
own_found true own_is v s n m named none own e =
    let is : None ≡ m = cc in
    subst (λ (x : Option ℕ). Own v s x × (node_or_none x ≡ u32 n)) is ((refl, λ unnamed. refl), ap u32 (sym (none refl)))
own_found false true v s n m named none own e =
    let is : Some n ≡ m = cc in
    subst (λ (x : Option ℕ). Own v s x × (node_or_none x ≡ u32 n)) is ((own refl, λ unnamed. absurd (both_ways (names_masters v) unnamed named)), refl)
own_found false false v s n m named none own e = absurd (cc)

own_names : (long : ℕ) (v : Version) (g r s q : ℕ) (nodes : List ℕ) → MayName (made long v g r s q operation.PullReply) nodes (Own v s)
own_names long v g r s q nodes = record {
  named = λ named d n m is. own_found (eqb n 4294967295) (eqb n s) v s n m named (λ e. eqb-true n 4294967295 e) (λ e. e) is;
  plain = λ unnamed d have. (refl, λ again. refl);
}

-- what a leader names
abbrev Member : Version → ℕ → List ℕ → Option ℕ → Type 0
Member v s nodes m = (is_member nodes m ≡ true) × (IsFalse (names_masters v) → m ≡ Some s)

member_found : (v : Version) (s n : ℕ) (nodes : List ℕ) (m : Option ℕ) → names_masters v ≡ true → cond (is_node n && list_any (nat_eq n) nodes) (Some (Some n)) None ≡ Some m → Member v s nodes m × (node_or_none m ≡ u32 n)
member_found v s n nodes m named e =
    let found = cond_some (is_node n && list_any (nat_eq n) nodes) (Some n) m e in
    let both = and_parts (is_node n) (list_any (nat_eq n) nodes) found.0 in
    subst (λ (x : Option ℕ). Member v s nodes x × (node_or_none x ≡ u32 n)) found.1 ((both.1, λ unnamed. absurd (both_ways (names_masters v) unnamed named)), refl)

sender_among : (b c : Bool) → b ≡ false → (b || c) ≡ true → c ≡ true
sender_among true c is have = absurd (cc)
sender_among false c is have = have

member_names : (long : ℕ) (v : Version) (g r s q : ℕ) (nodes : List ℕ) → MayName (made long v g r s q operation.Push) nodes (Member v s nodes)
member_names long v g r s q nodes = record {
  named = λ named d n m is. member_found v s n nodes m named is;
  plain = λ unnamed d have. (sender_among (names_masters v) (list_any (nat_eq s) nodes) unnamed have, λ again. refl);
}

member_same : (h : Head) (nodes : List ℕ) (one other : Draft) → one.head ≡ h → one.nodes ≡ nodes → other.head ≡ h → other.nodes ≡ nodes → may_have_row one operation.Push ≡ true → may_have_row other operation.Push ≡ true
member_same h nodes one other one_head one_nodes other_head other_nodes have =
    let may : Head → List ℕ → Bool = λ x xs. names_masters x.version || list_any (nat_eq x.sender) xs in
    ap (λ (x : Head). may x other.nodes) (other_head ∙ sym one_head) ∙ ap (λ (xs : List ℕ). may one.head xs) (other_nodes ∙ sym one_nodes) ∙ have

row_said : (v : Version) (plain : Option ℕ) (M : Option ℕ → Type 0) → ((m : Option ℕ) → M m → IsFalse (names_masters v) → m ≡ plain) → (r : TableRow) → IsReadRow M r → SaysRow v plain r
row_said v plain M so r is = (is.key, is.value, so r.master is.master)

-- ---- every message

no_request : (q : ℕ) → eqb q 0 ≡ true → 0 ≡ q
no_request q is = sym (eqb-true q 0 is)

pub body_back : (o : Operation) (long : ℕ) (v : Version) (g r s q : ℕ) → is_node s ≡ true → is_request o q ≡ true → Backs long (begun (headed (made long v g r s q o)) o) (Body (made long v g r s q o))
unfolding body bases held
body_back operation.Call long v g r s q is asks =
    let h = made long v g r s q operation.Call in
    named_back h (Body h) (λ db. refl) (λ db k is_d is_k.
    kinds_back (record (headed h) { db = db }) k (λ taken f. Body h (u32 db ++ (key k ++ taken)) f) (λ call.
    whole_backs long (framed g r s (msg.Call db k q call)) (λ taken f. Body h (u32 db ++ (key k ++ (kind call ++ taken))) f)
    (record { m = msg.Call db k q call; frame = refl; op = refl; asks = refl; bytes = ap (λ (t : List ℕ). u32 db ++ (key k ++ t)) (kind_alone call); says = is_k; kept = and_from _ _ is_d asks })))
body_back operation.Recall long v g r s q is asks =
    let h = made long v g r s q operation.Recall in
    named_back h (Body h) (λ db. refl) (λ db k is_d is_k.
    long_backs (record (headed h) { db = db }) (number.Least k) (λ taken f. Body h (u32 db ++ (key k ++ taken)) f) refl (λ at least small.
    back_when long (is_below_limit least) (to_number (record (headed h) { db = db; rsn = least }) (number.Node k)) at (λ taken f. Body h (u32 db ++ (key k ++ (u64 least ++ taken))) f) (λ least_ok.
    word_backs (record (headed h) { db = db; rsn = least }) (number.Node k) (λ taken f. Body h (u32 db ++ (key k ++ (u64 least ++ taken))) f) refl (λ at_node node small_node.
    back_when long (is_node node) (to_number (record (headed h) { db = db; rsn = least; node = node }) (number.Kind k)) at_node (λ taken f. Body h (u32 db ++ (key k ++ (u64 least ++ (u32 node ++ taken)))) f) (λ node_ok.
    kinds_back (record (headed h) { db = db; rsn = least; node = node }) k (λ taken f. Body h (u32 db ++ (key k ++ (u64 least ++ (u32 node ++ taken)))) f) (λ call.
    whole_backs long (framed g r s (msg.Recall db k least node q call)) (λ taken f. Body h (u32 db ++ (key k ++ (u64 least ++ (u32 node ++ (kind call ++ taken))))) f)
    (record {
      m = msg.Recall db k least node q call;
      frame = refl;
      op = refl;
      asks = refl;
      bytes = ap (λ (t : List ℕ). u32 db ++ (key k ++ (u64 least ++ (u32 node ++ t)))) (kind_alone call) ∙ sym (regrouped_5 (u32 db) (key k) (u64 least) (u32 node) (kind call));
      says = is_k;
      kept = and_from _ _ (and_from _ _ (and_from _ _ is_d least_ok) node_ok) asks;
    })))))))
body_back operation.Give long v g r s q is asks =
    let h = made long v g r s q operation.Give in
    copy_back h (λ db k rsn x. msg.Give db k rsn x) (Body h) (λ db. refl) (λ db k. refl) (λ at db k rsn. refl) (λ db k rsn x. refl) (λ db k rsn x is_d is_k ok is_x.
    record { m = msg.Give db k rsn x; frame = refl; op = refl; asks = no_request q asks; bytes = refl; says = (is_k, is_x); kept = and_from _ _ is_d ok })
body_back operation.Pass long v g r s q is asks =
    let h = made long v g r s q operation.Pass in
    copy_back h (λ db k rsn x. msg.Pass db k q rsn x) (Body h) (λ db. refl) (λ db k. refl) (λ at db k rsn. refl) (λ db k rsn x. refl) (λ db k rsn x is_d is_k ok is_x.
    record { m = msg.Pass db k q rsn x; frame = refl; op = refl; asks = refl; bytes = refl; says = (is_k, is_x); kept = and_from _ _ (and_from _ _ is_d asks) ok })
body_back operation.Refuse long v g r s q is asks =
    let h = made long v g r s q operation.Refuse in
    short_back h (λ db k rsn. msg.Refuse db k q rsn) (Body h) (λ db. refl) (λ db k. refl) (λ at db k rsn. refl) (λ db k rsn is_d is_k ok.
    record { m = msg.Refuse db k q rsn; frame = refl; op = refl; asks = refl; bytes = refl; says = is_k; kept = and_from _ _ (and_from _ _ is_d asks) ok })
body_back operation.Grant long v g r s q is asks =
    let h = made long v g r s q operation.Grant in
    copy_back h (λ db k rsn x. msg.Grant db k q rsn x) (Body h) (λ db. refl) (λ db k. refl) (λ at db k rsn. refl) (λ db k rsn x. refl) (λ db k rsn x is_d is_k ok is_x.
    record { m = msg.Grant db k q rsn x; frame = refl; op = refl; asks = refl; bytes = refl; says = (is_k, is_x); kept = and_from _ _ (and_from _ _ is_d asks) ok })
body_back operation.Done long v g r s q is asks =
    let h = made long v g r s q operation.Done in
    named_back h (Body h) (λ db. refl) (λ db k is_d is_k.
    word_backs (record (headed h) { db = db }) (number.Node k) (λ taken f. Body h (u32 db ++ (key k ++ taken)) f) refl (λ at node small.
    back_when long (is_node node) (whole h (msg.Done db k node q)) at (λ taken f. Body h (u32 db ++ (key k ++ (u32 node ++ taken))) f) (λ node_ok.
    whole_backs long (framed g r s (msg.Done db k node q)) (λ taken f. Body h (u32 db ++ (key k ++ (u32 node ++ taken))) f)
    (record { m = msg.Done db k node q; frame = refl; op = refl; asks = refl; bytes = refl; says = is_k; kept = and_from _ _ (and_from _ _ is_d node_ok) asks }))))
body_back operation.Revoke long v g r s q is asks =
    let h = made long v g r s q operation.Revoke in
    short_back h (λ db k rsn. msg.Revoke db k rsn) (Body h) (λ db. refl) (λ db k. refl) (λ at db k rsn. refl) (λ db k rsn is_d is_k ok.
    record { m = msg.Revoke db k rsn; frame = refl; op = refl; asks = no_request q asks; bytes = refl; says = is_k; kept = and_from _ _ is_d ok })
body_back operation.RevokeAck long v g r s q is asks =
    let h = made long v g r s q operation.RevokeAck in
    short_back h (λ db k rsn. msg.RevokeAck db k rsn) (Body h) (λ db. refl) (λ db k. refl) (λ at db k rsn. refl) (λ db k rsn is_d is_k ok.
    record { m = msg.RevokeAck db k rsn; frame = refl; op = refl; asks = no_request q asks; bytes = refl; says = is_k; kept = and_from _ _ is_d ok })
body_back operation.VStore long v g r s q is asks =
    let h = made long v g r s q operation.VStore in
    short_back h (λ db k rsn. msg.VStore db k rsn) (Body h) (λ db. refl) (λ db k. refl) (λ at db k rsn. refl) (λ db k rsn is_d is_k ok.
    record { m = msg.VStore db k rsn; frame = refl; op = refl; asks = no_request q asks; bytes = refl; says = is_k; kept = and_from _ _ is_d ok })
body_back operation.VStored long v g r s q is asks =
    let h = made long v g r s q operation.VStored in
    short_back h (λ db k rsn. msg.VStored db k rsn) (Body h) (λ db. refl) (λ db k. refl) (λ at db k rsn. refl) (λ db k rsn is_d is_k ok.
    record { m = msg.VStored db k rsn; frame = refl; op = refl; asks = no_request q asks; bytes = refl; says = is_k; kept = and_from _ _ is_d ok })
body_back operation.VDelete long v g r s q is asks =
    let h = made long v g r s q operation.VDelete in
    short_back h (λ db k rsn. msg.VDelete db k rsn) (Body h) (λ db. refl) (λ db k. refl) (λ at db k rsn. refl) (λ db k rsn is_d is_k ok.
    record { m = msg.VDelete db k rsn; frame = refl; op = refl; asks = no_request q asks; bytes = refl; says = is_k; kept = and_from _ _ is_d ok })
body_back operation.VDeleted long v g r s q is asks =
    let h = made long v g r s q operation.VDeleted in
    short_back h (λ db k rsn. msg.VDeleted db k rsn) (Body h) (λ db. refl) (λ db k. refl) (λ at db k rsn. refl) (λ db k rsn is_d is_k ok.
    record { m = msg.VDeleted db k rsn; frame = refl; op = refl; asks = no_request q asks; bytes = refl; says = is_k; kept = and_from _ _ is_d ok })
body_back operation.Freeze long v g r s q is asks =
    let h = made long v g r s q operation.Freeze in
    members_back h (Body h) (λ xs are.
    whole_backs long (framed g r s (msg.Freeze xs)) (λ taken f. Body h (list u32 xs ++ taken) f)
    (record { m = msg.Freeze xs; frame = refl; op = refl; asks = no_request q asks; bytes = append-nil (list u32 xs); says = tt; kept = are }))
body_back operation.FreezeAck long v g r s q is asks =
    whole_backs long (framed g r s msg.FreezeAck) (Body (made long v g r s q operation.FreezeAck)) (record { m = msg.FreezeAck; frame = refl; op = refl; asks = no_request q asks; bytes = refl; says = tt; kept = refl })
body_back operation.Pull long v g r s q is asks =
    whole_backs long (framed g r s msg.Pull) (Body (made long v g r s q operation.Pull)) (record { m = msg.Pull; frame = refl; op = refl; asks = no_request q asks; bytes = refl; says = tt; kept = refl })
body_back operation.PullReply long v g r s q is asks =
    let h = made long v g r s q operation.PullReply in
    long_backs (headed h) number.VolatileBase (Body h) refl (λ at vbase small.
    back_when long (is_below_limit vbase) (to_number (record (headed h) { vbase = vbase }) number.PersistentBase) at (λ taken f. Body h (u64 vbase ++ taken) f) (λ vbase_ok.
    long_backs (record (headed h) { vbase = vbase }) number.PersistentBase (λ taken f. Body h (u64 vbase ++ taken) f) refl (λ at_base pbase small_base.
    back_when long (is_below_limit pbase) (to_number (record (headed h) { vbase = vbase; pbase = pbase }) number.RowCount) at_base (λ taken f. Body h (u64 vbase ++ (u64 pbase ++ taken)) f) (λ pbase_ok.
    tables_back (record (headed h) { vbase = vbase; pbase = pbase }) (is_own_or_none s) (Own v s) (λ taken f. Body h (u64 vbase ++ (u64 pbase ++ taken)) f) (λ m own. own.0) (own_names long v g r s q []) (λ one other a b c d have. refl) (λ rs ts rows are kept held db rsn seq.
    addresses_count (record (headed h) { vbase = vbase; pbase = pbase; db = db; rsn = rsn; seq = seq; table = rs; ptables = ts }) (λ taken f. Body h (u64 vbase ++ (u64 pbase ++ (list (row v) rs ++ (list ptable ts ++ taken)))) f) (λ xs says up.
    (let m = msg.PullReply vbase pbase rs ts xs in
    whole_backs long (framed g r s m) (λ taken f. Body h (u64 vbase ++ (u64 pbase ++ (list (row v) rs ++ (list ptable ts ++ (list (address v) xs ++ taken))))) f)
    (record {
      m = m;
      frame = refl;
      op = refl;
      asks = no_request q asks;
      bytes = ap (λ (t : List ℕ). u64 vbase ++ (u64 pbase ++ (list (row v) rs ++ (list ptable ts ++ t)))) (append-nil (list (address v) xs)) ∙ ap (λ (t : List ℕ). u64 vbase ++ (u64 pbase ++ t)) (sym (append_assoc (list (row v) rs) (list ptable ts) (list (address v) xs)));
      says = (each_from (IsReadRow (Own v s)) (SaysRow v None) (row_said v None (Own v s) (λ m own. own.1)) rs are, held, says);
      kept = and_from _ _ (and_from _ _ (and_from _ _ (and_from _ _ vbase_ok pbase_ok) rows) kept) up;
    }))))))))
body_back operation.Push long v g r s q is asks =
    let h = made long v g r s q operation.Push in
    members_back h (Body h) (λ nodes nodes_ok.
    tables_back (record (headed h) { nodes = nodes }) (is_member nodes) (Member v s nodes) (λ taken f. Body h (list u32 nodes ++ taken) f) (λ m member. member.0) (member_names long v g r s q nodes) (member_same h nodes) (λ rs ts rows are kept held db rsn seq.
    assigned_count (record (headed h) { nodes = nodes; db = db; rsn = rsn; seq = seq; table = rs; ptables = ts }) (λ taken f. Body h (list u32 nodes ++ (list (row v) rs ++ (list ptable ts ++ taken))) f) (λ xs says given.
    (let m = msg.Push nodes rs ts xs in
    whole_backs long (framed g r s m) (λ taken f. Body h (list u32 nodes ++ (list (row v) rs ++ (list ptable ts ++ (list (assigned v) xs ++ taken)))) f)
    (record {
      m = m;
      frame = refl;
      op = refl;
      asks = no_request q asks;
      bytes = ap (λ (t : List ℕ). list u32 nodes ++ (list (row v) rs ++ (list ptable ts ++ t))) (append-nil (list (assigned v) xs)) ∙ sym (regrouped_4 (list u32 nodes) (list (row v) rs) (list ptable ts) (list (assigned v) xs));
      says = (each_from (IsReadRow (Member v s nodes)) (SaysRow v (Some s)) (row_said v (Some s) (Member v s nodes) (λ m member. member.1)) rs are, held, says);
      kept = and_from _ _ (and_from _ _ (and_from _ _ nodes_ok rows) kept) given;
    })))))
body_back operation.PushAck long v g r s q is asks =
    whole_backs long (framed g r s msg.PushAck) (Body (made long v g r s q operation.PushAck)) (record { m = msg.PushAck; frame = refl; op = refl; asks = no_request q asks; bytes = refl; says = tt; kept = refl })
body_back operation.Thaw long v g r s q is asks =
    whole_backs long (framed g r s msg.Thaw) (Body (made long v g r s q operation.Thaw)) (record { m = msg.Thaw; frame = refl; op = refl; asks = no_request q asks; bytes = refl; says = tt; kept = refl })
body_back operation.PUpdate long v g r s q is asks =
    let h = made long v g r s q operation.PUpdate in
    word_backs (headed h) number.Db (Body h) refl (λ at db small.
    back_when long (is_db db) (to_number (record (headed h) { db = db }) number.Seq) at (λ taken f. Body h (u32 db ++ taken) f) (λ is_d.
    long_backs (record (headed h) { db = db }) number.Seq (λ taken f. Body h (u32 db ++ taken) f) refl (λ at_seq seq small_seq.
    back_when long (is_from_one seq) (to_number (record (headed h) { db = db; seq = seq }) number.WriteCount) at_seq (λ taken f. Body h (u32 db ++ (u64 seq ++ taken)) f) (λ seq_ok.
    writes_count (record (headed h) { db = db; seq = seq }) (λ taken f. Body h (u32 db ++ (u64 seq ++ taken)) f) (λ xs many are.
    whole_backs long (framed g r s (msg.PUpdate db seq xs)) (λ taken f. Body h (u32 db ++ (u64 seq ++ (list pair xs ++ taken))) f)
    (record { m = msg.PUpdate db seq xs; frame = refl; op = refl; asks = no_request q asks; bytes = ap (λ (t : List ℕ). u32 db ++ (u64 seq ++ t)) (append-nil (list pair xs)); says = are; kept = and_from _ _ (and_from _ _ is_d seq_ok) many }))))))
body_back operation.PAck long v g r s q is asks =
    let h = made long v g r s q operation.PAck in
    word_backs (headed h) number.Db (Body h) refl (λ at db small.
    back_when long (is_db db) (to_number (record (headed h) { db = db }) number.Seq) at (λ taken f. Body h (u32 db ++ taken) f) (λ is_d.
    long_backs (record (headed h) { db = db }) number.Seq (λ taken f. Body h (u32 db ++ taken) f) refl (λ at_seq seq small_seq.
    back_when long (is_from_one seq) (whole h (msg.PAck db seq)) at_seq (λ taken f. Body h (u32 db ++ (u64 seq ++ taken)) f) (λ seq_ok.
    whole_backs long (framed g r s (msg.PAck db seq)) (λ taken f. Body h (u32 db ++ (u64 seq ++ taken)) f)
    (record { m = msg.PAck db seq; frame = refl; op = refl; asks = no_request q asks; bytes = refl; says = tt; kept = and_from _ _ is_d seq_ok })))))
body_back operation.Release long v g r s q is asks =
    let h = made long v g r s q operation.Release in
    long_backs (headed h) number.Run (Body h) refl (λ at run small.
    back_when long (is_from_one run) (to_number (record (headed h) { run = run }) number.AddressCount) at (λ taken f. Body h (u64 run ++ taken) f) (λ run_ok.
    addresses_count (record (headed h) { run = run }) (λ taken f. Body h (u64 run ++ taken) f) (λ xs says up.
    whole_backs long (framed g r s (msg.Release run xs)) (λ taken f. Body h (u64 run ++ (list (address v) xs ++ taken)) f)
    (record { m = msg.Release run xs; frame = refl; op = refl; asks = no_request q asks; bytes = ap (λ (t : List ℕ). u64 run ++ t) (append-nil (list (address v) xs)); says = says; kept = and_from _ _ run_ok up }))))
body_back operation.ReleaseAck long v g r s q is asks =
    let h = made long v g r s q operation.ReleaseAck in
    long_backs (headed h) number.Run (Body h) refl (λ at run small.
    back_when long (is_from_one run) (whole h (msg.ReleaseAck run)) at (λ taken f. Body h (u64 run ++ taken) f) (λ run_ok.
    whole_backs long (framed g r s (msg.ReleaseAck run)) (λ taken f. Body h (u64 run ++ taken) f)
    (record { m = msg.ReleaseAck run; frame = refl; op = refl; asks = no_request q asks; bytes = refl; says = tt; kept = run_ok })))
body_back operation.Take long v g r s q is asks =
    let h = made long v g r s q operation.Take in
    long_backs (headed h) number.Run (Body h) refl (λ at run small.
    back_when long (is_from_one run) (to_number (record (headed h) { run = run }) number.AssignedCount) at (λ taken f. Body h (u64 run ++ taken) f) (λ run_ok.
    assigned_count (record (headed h) { run = run }) (λ taken f. Body h (u64 run ++ taken) f) (λ xs says given.
    whole_backs long (framed g r s (msg.Take run xs)) (λ taken f. Body h (u64 run ++ (list (assigned v) xs ++ taken)) f)
    (record { m = msg.Take run xs; frame = refl; op = refl; asks = no_request q asks; bytes = ap (λ (t : List ℕ). u64 run ++ t) (append-nil (list (assigned v) xs)); says = says; kept = and_from _ _ run_ok given }))))
