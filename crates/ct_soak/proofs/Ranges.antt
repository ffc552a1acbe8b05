-- Each line that a word makes is in its range.
use Rattle.std.proofs.Common.{◌≡◌, ℕ, zero, suc, ◌+◌, ◌/◌, ◌%◌, ◌^◌, ◌<◌, ◌≤◌, Bool, true, false, nat_eq, nat_lt, List, [], ◌∷◌, length, Result, Ok, Err, IfOk, refl, sym, subst, arith}
use Rattle.std.proofs.Math.Nat.{mod-le}
use Rattle.std.proofs.lemmas.Fmt.{length-decimal-le}
use Rattle.std.proofs.lemmas.List.Elements.{All-from_recursion}
use Rattle.std.specs.Fmt.{decimal}
use Rattle.std.specs.List.{AllByRecursion}
use Rattle.std.specs.Prelude.{if◌then◌else◌, ◌||◌, codes}
use Rattle.ct_spelling.proofs.Numbers.{decimal_digits}
use Rattle.ct_frame.specs.Fields.{ascends}
use Rattle.ct_lines.specs.Spelled.{IsInRange, IsKey, IsMessage, IsName, IsPair, IsSmall, IsValue, ArePairs, AreMembers}
use Rattle.ct_lines.specs.declared.line.ScenarioLine.{ScenarioLine}
use Rattle.ct_soak.specs.Soak.{SoakView, commit_line, key_in, letter_in, line_of_kind, members_with, message_in, message_line, name_in, is_first, node_in, number_in, pair_in, record_line, round_line, runs, value_in}

-- ---- parts

node_below : (w : ℕ) → node_in w < 4
unfolding node_in
node_below w = omega arith

node_small : (w : ℕ) → IsSmall (node_in w)
node_small w = let h = node_below w in omega (arith, h)

letter_byte : (w : ℕ) → letter_in w < 256
unfolding letter_in
letter_byte w = omega arith

number_below : (w : ℕ) → number_in w < 1000
unfolding number_in
number_below w = omega arith

key_range : (w : ℕ) → IsKey (key_in w)
key_range w = (omega arith, omega arith, All-from_recursion (λ b. b < 256) (key_in w) (letter_byte w, tt))

pub short : (n : ℕ) → n < 1000 → length (decimal n) ≤ 1024
short n h = let l = length-decimal-le 3 n (omega arith) (omega (arith, h)) (omega (arith, h)) in omega (arith, l)

value_range : (w : ℕ) → IsValue (value_in w)
value_range w = let h = number_below w in (short (number_in w) h, λ k d l. (let digit = decimal_digits (number_in w) (omega (arith, h)) k d l in omega (arith, digit)))

message_range : (w sent : ℕ) → w < 2 ^ 32 → IsMessage (message_in w sent)
unfolding message_in
message_range w sent h = let m = mod-le (w / 2048) (sent + 1) in (omega arith, omega (arith, h, m))

name_of : (b : Bool) → IsName (if b then codes "t" else codes "r")
name_of true = (omega arith, omega arith, refl)
name_of false = (omega arith, omega arith, refl)

name_range : (w : ℕ) → IsName (name_in w)
name_range w = name_of (is_first w)

pair_range : (w : ℕ) → ArePairs (pair_in w ∷ [])
pair_range w = (omega arith, omega arith, All-from_recursion IsPair (pair_in w ∷ []) ((key_range w, value_range w), tt))

-- ---- members

abbrev kept : Bool → ℕ → List ℕ → List ℕ
kept b n ns = if b then n ∷ ns else ns

or_true : (r : Bool) → (r || true) ≡ true
or_true true = refl
or_true false = refl

kept_some : (b : Bool) (n : ℕ) (ns : List ℕ) → b ≡ true → 1 ≤ length (kept b n ns)
kept_some true n ns e = omega arith
kept_some false n ns e = absurd (cc)

kept_more : (b : Bool) (n : ℕ) (ns : List ℕ) → 1 ≤ length ns → 1 ≤ length (kept b n ns)
kept_more true n ns h = omega arith
kept_more false n ns h = h

some_member : (node : ℕ) (p q r s : Bool) → node < 4 → 1 ≤ length (kept (p || nat_eq 0 node) 0 (kept (q || nat_eq 1 node) 1 (kept (r || nat_eq 2 node) 2 (kept (s || nat_eq 3 node) 3 []))))
some_member zero p q r s h = kept_some (p || true) 0 _ (or_true p)
some_member (suc zero) p q r s h = kept_more (p || false) 0 _ (kept_some (q || true) 1 _ (or_true q))
some_member (suc (suc zero)) p q r s h = kept_more (p || false) 0 _ (kept_more (q || false) 1 _ (kept_some (r || true) 2 _ (or_true r)))
some_member (suc (suc (suc zero))) p q r s h = kept_more (p || false) 0 _ (kept_more (q || false) 1 _ (kept_more (r || false) 2 _ (kept_some (s || true) 3 [] (or_true s))))
some_member (suc (suc (suc (suc n)))) p q r s h = absurd (omega (arith, h))

kept_length : (b : Bool) (n k : ℕ) (ns : List ℕ) → length ns ≤ k → length (kept b n ns) ≤ suc k
kept_length true n k ns h = omega (arith, h)
kept_length false n k ns h = omega (arith, h)

kept_small : (b : Bool) (n : ℕ) (ns : List ℕ) → IsSmall n → AllByRecursion IsSmall ns → AllByRecursion IsSmall (kept b n ns)
kept_small true n ns h k = (h, k)
kept_small false n ns h k = k

ascend : (p q r s : Bool) → ascends nat_lt (kept p 0 (kept q 1 (kept r 2 (kept s 3 [])))) ≡ true
ascend true true true true = refl
ascend true true true false = refl
ascend true true false true = refl
ascend true true false false = refl
ascend true false true true = refl
ascend true false true false = refl
ascend true false false true = refl
ascend true false false false = refl
ascend false true true true = refl
ascend false true true false = refl
ascend false true false true = refl
ascend false true false false = refl
ascend false false true true = refl
ascend false false true false = refl
ascend false false false true = refl
ascend false false false false = refl

few : (p q r s : Bool) → length (kept p 0 (kept q 1 (kept r 2 (kept s 3 [])))) ≤ 4
few p q r s = kept_length p 0 3 _ (kept_length q 1 2 _ (kept_length r 2 1 _ (kept_length s 3 0 [] (omega arith))))

small : (p q r s : Bool) → AllByRecursion IsSmall (kept p 0 (kept q 1 (kept r 2 (kept s 3 []))))
small p q r s = kept_small p 0 _ (omega arith) (kept_small q 1 _ (omega arith) (kept_small r 2 _ (omega arith) (kept_small s 3 [] (omega arith) tt)))

members_range : (w : ℕ) (running : List Bool) → AreMembers (members_with (node_in w) running)
members_range w running =
    let n = node_in w in
    let p = runs running 0 in
    let q = runs running 1 in
    let r = runs running 2 in
    let s = runs running 3 in
    let l = few (p || nat_eq 0 n) (q || nat_eq 1 n) (r || nat_eq 2 n) (s || nat_eq 3 n) in (
      some_member n p q r s (node_below w),
      omega (arith, l),
      All-from_recursion IsSmall (members_with n running) (small (p || nat_eq 0 n) (q || nat_eq 1 n) (r || nat_eq 2 n) (s || nat_eq 3 n)),
      ascend (p || nat_eq 0 n) (q || nat_eq 1 n) (r || nat_eq 2 n) (s || nat_eq 3 n),
    )

-- ---- lines

if_range : (b : Bool) (x y : ScenarioLine) → IsInRange x → IsInRange y → IsInRange (if b then x else y)
if_range true x y h k = h
if_range false x y h k = k

record_range : (w kind : ℕ) → IsInRange (record_line w kind)
record_range w kind =
    let n = node_small w in
    let d = name_range w in
    let k = key_range w in
    let v = value_range w in
    if_range (nat_lt kind 4) _ _ (n, d, k) (if_range (nat_lt kind 7) _ _ (n, d, (k, v)) (if_range (nat_lt kind 11) _ _ (n, d, k) (if_range (nat_lt kind 15) _ _ (n, d, k) (if_range (nat_eq kind 15) _ _ (n, (d, k, v)) (n, d, (k, omega arith, v))))))

message_line_range : (w sent kind : ℕ) → w < 2 ^ 32 → IsInRange (message_line w sent kind)
message_line_range w sent kind h = let m = message_range w sent h in if_range (nat_eq kind 25) _ _ m (if_range (nat_eq kind 26) _ _ m m)

lock_name : IsName (codes "g_lock")
lock_name = (omega arith, omega arith, refl)

database_name : IsName (codes "p")
database_name = (omega arith, omega arith, refl)

database_key : IsKey (codes "p")
database_key = (omega arith, omega arith, All-from_recursion (λ b. b < 256) (codes "p") (omega arith, tt))

round_range : (w : ℕ) (running : List Bool) → IsInRange (round_line w running)
round_range w running = if_range (nat_eq (number_in w % 8) 0) _ _ (node_small w, members_range w running) (node_small w, lock_name, database_key)

commit_range : (w : ℕ) (running : List Bool) → IsInRange (commit_line w running)
commit_range w running = if_range (nat_eq (number_in w % 16) 0) _ _ (if_range (runs running (node_in w)) _ _ (node_small w) (node_small w)) (node_small w, database_name, pair_range w)

settle_range : (w : ℕ) → (1 ≤ 1 + number_in w % 8) × (1 + number_in w % 8 ≤ 100000)
settle_range w = (omega arith, omega arith)

kind_range : (w : ℕ) (v : SoakView) (kind : ℕ) → w < 2 ^ 32 → IsInRange (line_of_kind w v kind)
kind_range w v kind h =
    if_range (nat_lt kind 17) _ _ (record_range w kind)
    (if_range (nat_lt kind 25) _ _ (settle_range w)
    (if_range (nat_lt kind 28) _ _ (message_line_range w v.sent kind h)
    (if_range (nat_eq kind 28) _ _ (node_small w)
    (if_range (nat_eq kind 29) _ _ (node_small w, name_of true, tt)
    (if_range (nat_eq kind 30) _ _ (round_range w v.running) (commit_range w v.running))))))

-- of each kind, where memory suffices
pub made_in_range : {E : Type 0} (w : ℕ) (v : SoakView) (kind : ℕ) (r : Result ScenarioLine E) → w < 2 ^ 32 → IfOk r (λ line. line ≡ line_of_kind w v kind) → IfOk r IsInRange
made_in_range w v kind (Ok line) h e = subst IsInRange (sym e) (kind_range w v kind h)
made_in_range w v kind (Err f) h e = tt
