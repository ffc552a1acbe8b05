-- Lists: the items that stand one after the other are read, and reading goes on behind them.
use Rattle.std.proofs.Common.{◌≡◌, ℕ, ◌-◌, ◌<◌, ◌≤◌, ◌^◌, Bool, true, ltb, ◌&&◌, List, [], ◌∷◌, ◌++◌, length, Option, Some, None, refl, sym, ap, subst, ◌∙◌, append_assoc, arith}
use Rattle.std.specs.Prelude.{slice_get}
use Rattle.std.specs.List.{flat_map, AllByRecursion}
use Rattle.std.proofs.lemmas.Bool.{and_from, and_parts, lt-ltb, ltb-true}
use Rattle.std.proofs.lemmas.List.{append-nil, length-append}
use Rattle.ct_values.specs.declared.client.Pair.{Pair}
use Rattle.ct_frame.specs.declared.frame.Frame.{Frame}
use Rattle.ct_frame.specs.Fields.{ascends, ascends_after, is_below_limit, is_db, is_node}
use Rattle.ct_wire_fields.specs.declared.place.NumberPlace.{NumberPlace}
use Rattle.ct_wire_fields.specs.declared.place.NumberPlace.TheVariants as number
use Rattle.ct_wire_fields.specs.declared.place.TextPlace.TheVariants as text
use Rattle.ct_wire_fields.specs.declared.draft.Draft.{Draft}
use Rattle.ct_frame.specs.declared.frame.Msg.TheVariants as msg
use Rattle.ct_wire_fields.specs.Check.{last_of, key_of, value_of, follows_node}
use Rattle.ct_wire_fields.specs.Reading.{after_nodes, whole, number_read, to_number, to_text}
use Rattle.ct_wire.specs.Cursor.{number_width}
use Rattle.ct_wire.specs.Spelling.{key, pair, u32, value}
use Rattle.ct_law_wire.specs.Grammar.{IsKey, IsPair, IsValue}
use Rattle.ct_law_wire.proofs.Fields.{Goes, key_goes, value_goes, when, word_goes}

-- ---- brackets

pub regrouped_4 : (a b c d : List ℕ) → a ++ b ++ c ++ d ≡ a ++ (b ++ (c ++ d))
regrouped_4 a b c d = simp append_assoc

pub regrouped_5 : (a b c d e : List ℕ) → a ++ b ++ c ++ d ++ e ≡ a ++ (b ++ (c ++ (d ++ e)))
regrouped_5 a b c d e = simp append_assoc

pub regrouped_6 : (a b c d e f : List ℕ) → a ++ b ++ c ++ d ++ e ++ f ≡ a ++ (b ++ (c ++ (d ++ (e ++ f))))
regrouped_6 a b c d e f = simp append_assoc

-- ---- order

-- each item may follow the one before it, and the first this one
abbrev pub InOrder : {X : Type 0} → (Option X → X → Bool) → Option X → List X → Type 0
InOrder follows last [] = Unit {0}
InOrder follows last (x ∷ xs) = (follows last x ≡ true) × InOrder follows (Some x) xs

in_order_after : {X : Type 0} (before : X → X → Bool) (follows : Option X → X → Bool) → ((a b : X) → follows (Some a) b ≡ before a b) → (x : X) (xs : List X) → ascends_after before x xs ≡ true → InOrder follows (Some x) xs
in_order_after before follows same x [] up = tt
in_order_after before follows same x (y ∷ ys) up =
    let both = and_parts (before x y) (ascends_after before y ys) up in
    (same x y ∙ both.0, in_order_after before follows same y ys both.1)

pub in_order : {X : Type 0} (before : X → X → Bool) (follows : Option X → X → Bool) → ((a b : X) → follows (Some a) b ≡ before a b) → ((x : X) → follows None x ≡ true) → (xs : List X) → ascends before xs ≡ true → InOrder follows None xs
in_order before follows same first [] up = tt
in_order before follows same first (x ∷ xs) up = (first x, in_order_after before follows same x xs up)

added_last : {X : Type 0} (xs : List X) (x : X) → slice_get (xs ++ x ∷ []) (length xs) ≡ Some x
added_last [] x = refl
added_last (y ∷ ys) x = added_last ys x

-- the item that was added is the last
pub last_added : {X : Type 0} (xs : List X) (x : X) → last_of (xs ++ x ∷ []) ≡ Some x
last_added xs x =
    let place : length (xs ++ x ∷ []) - 1 ≡ length xs = omega (arith, length-append xs (x ∷ [])) in
    ap (slice_get (xs ++ x ∷ [])) place ∙ added_last xs x

pub order_kept : {X : Type 0} (follows : Option X → X → Bool) (done : List X) (x : X) (xs : List X) → InOrder follows (Some x) xs → InOrder follows (last_of (done ++ x ∷ [])) xs
order_kept follows done x xs up = subst (λ (last : Option _). InOrder follows last xs) (sym (last_added done x)) up

-- ---- single rules

pub small_node : (n : ℕ) → is_node n ≡ true → n < 2 ^ 32
small_node n is = omega (arith, ltb-true n 16 is)

pub small_db : (n : ℕ) → is_db n ≡ true → n < 2 ^ 32
small_db n is = omega (arith, ltb-true n 16 is)

pub small_number : (n : ℕ) → is_below_limit n ≡ true → n < 2 ^ 64
small_number n is = omega (arith, ltb-true n (2 ^ 62) is)

pub key_length : (k : List ℕ) → IsKey k → (ltb 0 (length k) && ltb (length k) 256) ≡ true
key_length k is = and_from _ _ (lt-ltb _ _ is.0) (lt-ltb _ _ is.1)

pub value_length : (x : List ℕ) → IsValue x → ltb (length x) 1025 ≡ true
value_length x is = lt-ltb _ _ is

-- ---- counts

list_longer : {X : Type 0} (item : X → List ℕ) → ((x : X) → 0 < length (item x)) → (xs : List X) → length xs ≤ length (flat_map item xs)
list_longer item some [] = omega arith
list_longer item some (x ∷ xs) = omega (arith, some x, list_longer item some xs, length-append (item x) (flat_map item xs))

-- the number of items that stand behind it
pub count_goes : {X : Type 0} (item : X → List ℕ) → ((x : X) → 0 < length (item x)) → (d : Draft) (p : NumberPlace) (xs : List X) (bytes : List ℕ) (f : Frame) → number_width p ≡ 4
    → ((at : ℕ) → Goes d.head.length (number_read d at (length xs) p) (flat_map item xs ++ bytes) f) → Goes d.head.length (to_number d p) (u32 (length xs) ++ (flat_map item xs ++ bytes)) f
count_goes item some d p xs bytes f is goes = record {
  reads = λ at fills short rest.
      (let few : length xs < 2 ^ 32 = omega (arith, fills, short, list_longer item some xs, length-append (flat_map item xs) bytes) in
      (word_goes d p (length xs) (flat_map item xs ++ bytes) f is few goes).reads at fills short rest);
}

-- ---- nodes

pub nodes_go : (d : Draft) (done : List ℕ) (x : ℕ) (xs : List ℕ) (bytes : List ℕ) (f : Frame) → AllByRecursion (λ n. is_node n ≡ true) (x ∷ xs) → InOrder follows_node (last_of done) (x ∷ xs)
    → Goes d.head.length (after_nodes (record d { nodes = done ++ x ∷ xs }) d.head.operation) bytes f
    → Goes d.head.length (to_number (record d { nodes = done }) (number.NodeItem (length (x ∷ xs)))) (flat_map u32 (x ∷ xs) ++ bytes) f
nodes_go d done x [] bytes f are up goes =
    word_goes (record d { nodes = done }) (number.NodeItem 1) x bytes f refl (small_node x are.0) (λ at. when _ (and_from _ _ are.0 up.0) goes)
nodes_go d done x (y ∷ ys) bytes f are up goes =
    let more : ltb 1 (length (x ∷ y ∷ ys)) ≡ true = lt-ltb _ _ (omega arith) in
    let left : length (x ∷ y ∷ ys) - 1 ≡ length (y ∷ ys) = omega arith in
    let joined : (done ++ x ∷ []) ++ y ∷ ys ≡ done ++ x ∷ y ∷ ys = append_assoc done (x ∷ []) (y ∷ ys) in
    let then : Goes d.head.length (to_number (record d { nodes = done ++ x ∷ [] }) (number.NodeItem (length (y ∷ ys)))) (flat_map u32 (y ∷ ys) ++ bytes) f =
    nodes_go d (done ++ x ∷ []) y ys bytes f are.1 (order_kept follows_node done x (y ∷ ys) up.1) (rw joined goes) in
    word_goes (record d { nodes = done }) (number.NodeItem (length (x ∷ y ∷ ys))) x (flat_map u32 (y ∷ ys) ++ bytes) f refl (small_node x are.0) (λ at. when _ (and_from _ _ are.0 up.0) (rw (more, left) then))

pub key_is : (k : List ℕ) → IsKey k → key_of k ≡ Some k
key_is k is = rw (key_length k is) refl

pub value_is : (x : List ℕ) → IsValue x → value_of x ≡ Some x
value_is x is = rw (value_length x is) refl

-- ---- the writes of a commit

pub writes_go : (d : Draft) (done : List Pair) (x : Pair) (xs : List Pair) (bytes : List ℕ) (f : Frame) → AllByRecursion IsPair (x ∷ xs)
    → Goes d.head.length (whole d.head (msg.PUpdate d.db d.seq (done ++ x ∷ xs))) bytes f
    → Goes d.head.length (to_text (record d { pairs = done }) (text.WriteKey (length (x ∷ xs)))) (flat_map pair (x ∷ xs) ++ bytes) f
writes_go d done x [] bytes f are goes =
    let one : flat_map pair (x ∷ []) ++ bytes ≡ key x.key ++ (value x.value ++ bytes) = ap (λ (t : List ℕ). t ++ bytes) (append-nil (pair x)) ∙ append_assoc (key x.key) (value x.value) bytes in
    let valued : Goes d.head.length (to_text (record d { pairs = done }) (text.WriteValue 1 x.key)) (value x.value ++ bytes) f =
    value_goes (record d { pairs = done }) (text.WriteValue 1 x.key) x.value bytes f refl are.0.1 (value_length x.value are.0.1) (λ at. rw (value_is x.value are.0.1) goes) in
    rw one (key_goes (record d { pairs = done }) (text.WriteKey 1) x.key (value x.value ++ bytes) f refl (key_length x.key are.0.0) (λ at. rw (key_is x.key are.0.0) valued))
writes_go d done x (y ∷ ys) bytes f are goes =
    let n = length (x ∷ y ∷ ys) in
    let more : ltb 1 n ≡ true = lt-ltb _ _ (omega arith) in
    let left : n - 1 ≡ length (y ∷ ys) = omega arith in
    let joined : (done ++ x ∷ []) ++ y ∷ ys ≡ done ++ x ∷ y ∷ ys = append_assoc done (x ∷ []) (y ∷ ys) in
    let then : Goes d.head.length (to_text (record d { pairs = done ++ x ∷ [] }) (text.WriteKey (length (y ∷ ys)))) (flat_map pair (y ∷ ys) ++ bytes) f =
    writes_go d (done ++ x ∷ []) y ys bytes f are.1 (rw joined goes) in
    let parts : flat_map pair (x ∷ y ∷ ys) ++ bytes ≡ key x.key ++ (value x.value ++ (flat_map pair (y ∷ ys) ++ bytes)) =
    append_assoc (pair x) (flat_map pair (y ∷ ys)) bytes ∙ append_assoc (key x.key) (value x.value) (flat_map pair (y ∷ ys) ++ bytes) in
    let valued : Goes d.head.length (to_text (record d { pairs = done }) (text.WriteValue n x.key)) (value x.value ++ (flat_map pair (y ∷ ys) ++ bytes)) f =
    value_goes (record d { pairs = done }) (text.WriteValue n x.key) x.value (flat_map pair (y ∷ ys) ++ bytes) f refl are.0.1 (value_length x.value are.0.1) (λ at. rw (value_is x.value are.0.1, more, left) then) in
    rw parts (key_goes (record d { pairs = done }) (text.WriteKey n) x.key (value x.value ++ (flat_map pair (y ∷ ys) ++ bytes)) f refl (key_length x.key are.0.0) (λ at. rw (key_is x.key are.0.0) valued))
