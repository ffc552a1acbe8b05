-- Small laws of lists: who is among others, the newest commit, and the commits before it.
use Rattle.std.proofs.Common.{◌≡◌, ◌≢◌, ℕ, zero, suc, ◌+◌, ◌≤◌, Bool, true, false, cond, not, ◌||◌, List, [], ◌∷◌, ◌++◌, length, Some, refl, sym, ap, ◌∙◌, subst, arith}
use Rattle.std.specs.Prelude.{take, slice_get, nat_eq, nat_lt, ◌&&◌}
use Rattle.std.specs.List.{list_all, list_any}
use Rattle.std.proofs.lemmas.Bool.{eqb-true, eq-eqb, and_parts, and_from, ltb-true, lt-ltb}
use Rattle.ct_values.specs.Words.{others}
use Rattle.ct_values.specs.declared.client.Pair.{Pair}
use Rattle.ct_frame.specs.Fields.{ascends, ascends_after}
use Rattle.ct_rules_node.specs.Node.{is_among}
use Rattle.ct_register.specs.Database.{newest}

-- ---- who is among others

-- who is in a list, and not among the others, is the one that was left out
pub left_out : (m n : ℕ) (ns : List ℕ) → is_among m ns ≡ true → is_among m (others n ns) ≡ false → m ≡ n
unfolding is_among
left_out m n [] e f = absurd (cc)
left_out m n (k ∷ ns) e f = by (nat_eq k n) (nat_eq m k) refl refl e f (left_out m n ns)
  where
    by : (b c : Bool) → nat_eq k n ≡ b → nat_eq m k ≡ c → (c || list_any (nat_eq m) ns) ≡ true → list_any (nat_eq m) (cond (not b) (k ∷ others n ns) (others n ns)) ≡ false →
        (list_any (nat_eq m) ns ≡ true → list_any (nat_eq m) (others n ns) ≡ false → m ≡ n) → m ≡ n
    by true true p q i j rest = eqb-true m k q ∙ eqb-true k n p
    by true false p q i j rest = rest i j
    by false true p q i j rest = absurd (let z : (true || list_any (nat_eq m) (others n ns)) ≡ false = subst (λ (d : Bool). (d || list_any (nat_eq m) (others n ns)) ≡ false) q j in cc)
    by false false p q i j rest = rest i (subst (λ (d : Bool). (d || list_any (nat_eq m) (others n ns)) ≡ false) q j)

-- where there are no others, every member is that one
pub only_one : (m n : ℕ) (ns : List ℕ) → others n ns ≡ [] → is_among m ns ≡ true → m ≡ n
unfolding is_among
only_one m n ns none e = left_out m n ns e (ap (is_among m) none)

-- who is missing still is not the one that was struck off, or was missing before
pub not_missing : (m n : ℕ) (ns : List ℕ) → is_among m (others n ns) ≡ false → m ≢ n → is_among m ns ≡ false
unfolding is_among
not_missing m n [] e ne = refl
not_missing m n (k ∷ ns) e ne = by (nat_eq k n) (nat_eq m k) refl refl e (λ j. not_missing m n ns j ne)
  where
    by : (b c : Bool) → nat_eq k n ≡ b → nat_eq m k ≡ c → list_any (nat_eq m) (cond (not b) (k ∷ others n ns) (others n ns)) ≡ false → (list_any (nat_eq m) (others n ns) ≡ false → list_any (nat_eq m) ns ≡ false) → (c || list_any (nat_eq m) ns) ≡ false
    by true true p q j rest = absurd (ne (eqb-true m k q ∙ eqb-true k n p))
    by true false p q j rest = rest j
    by false true p q j rest = absurd (let z : (true || list_any (nat_eq m) (others n ns)) ≡ false = subst (λ (d : Bool). (d || list_any (nat_eq m) (others n ns)) ≡ false) q j in cc)
    by false false p q j rest = rest (subst (λ (d : Bool). (d || list_any (nat_eq m) (others n ns)) ≡ false) q j)

-- where nobody is left without one that was not there, there was nobody
pub none_left : (n : ℕ) (ns : List ℕ) → others n ns ≡ [] → is_among n ns ≡ false → ns ≡ []
unfolding is_among
none_left n [] none out = refl
none_left n (k ∷ ns) none out = by (nat_eq k n) (nat_eq n k) refl refl none out
  where
    by : (b c : Bool) → nat_eq k n ≡ b → nat_eq n k ≡ c → cond (not b) (k ∷ others n ns) (others n ns) ≡ [] → (c || list_any (nat_eq n) ns) ≡ false → k ∷ ns ≡ []
    by true true p q e f = absurd (cc)
    by true false p q e f = absurd (let same : nat_eq n k ≡ true = eq-eqb n k (sym (eqb-true k n p)) in cc)
    by false c p q e f = absurd (cc)

-- ---- lists that ascend

lower_after : (x y : ℕ) (ns : List ℕ) → nat_lt x y ≡ true → ascends_after nat_lt y ns ≡ true → ascends_after nat_lt x ns ≡ true
lower_after x y [] l e = refl
lower_after x y (k ∷ ns) l e = (let p = and_parts (nat_lt y k) (ascends_after nat_lt k ns) e in let a = ltb-true x y l in let b = ltb-true y k p.0 in and_from (nat_lt x k) (ascends_after nat_lt k ns) (lt-ltb x k (omega arith)) p.1)

others_after : (n x : ℕ) (ns : List ℕ) → ascends_after nat_lt x ns ≡ true → ascends_after nat_lt x (others n ns) ≡ true
others_after n x [] e = refl
others_after n x (k ∷ ns) e = (let p = and_parts (nat_lt x k) (ascends_after nat_lt k ns) e in by (nat_eq k n) p.0 (others_after n k ns p.1))
  where
    by : (b : Bool) → nat_lt x k ≡ true → ascends_after nat_lt k (others n ns) ≡ true → ascends_after nat_lt x (cond (not b) (k ∷ others n ns) (others n ns)) ≡ true
    by true l h = lower_after x k (others n ns) l h
    by false l h = and_from (nat_lt x k) (ascends_after nat_lt k (others n ns)) l h

-- with one less they ascend still
pub others_ascend : (n : ℕ) (ns : List ℕ) → ascends nat_lt ns ≡ true → ascends nat_lt (others n ns) ≡ true
others_ascend n [] e = refl
others_ascend n (k ∷ ns) e = by (nat_eq k n) (others_after n k ns e)
  where
    rest : (ms : List ℕ) → ascends_after nat_lt k ms ≡ true → ascends nat_lt ms ≡ true
    rest [] h = refl
    rest (m ∷ ms) h = (and_parts (nat_lt k m) (ascends_after nat_lt m ms) h).1

    by : (b : Bool) → ascends_after nat_lt k (others n ns) ≡ true → ascends nat_lt (cond (not b) (k ∷ others n ns) (others n ns)) ≡ true
    by true h = rest (others n ns) h
    by false h = h

all_weaker : (f g : ℕ → Bool) → ((k : ℕ) → f k ≡ true → g k ≡ true) → (ns : List ℕ) → list_all f ns ≡ true → list_all g ns ≡ true
all_weaker f g h [] e = refl
all_weaker f g h (k ∷ ns) e = (let p = and_parts (f k) (list_all f ns) e in and_from (g k) (list_all g ns) (h k p.0) (all_weaker f g h ns p.1))

-- each of a list is among them
pub all_among : (ns : List ℕ) → list_all (λ k. is_among k ns) ns ≡ true
unfolding is_among
all_among [] = refl
all_among (n ∷ ns) = and_from (nat_eq n n || list_any (nat_eq n) ns) (list_all (λ k. nat_eq k n || list_any (nat_eq k) ns) ns)
    (ap (λ (b : Bool). b || list_any (nat_eq n) ns) (eq-eqb n n refl)) (all_weaker (λ k. list_any (nat_eq k) ns) (λ k. nat_eq k n || list_any (nat_eq k) ns) (λ k e. second (nat_eq k n) e) ns (all_among ns))
  where
    second : (b : Bool) {c : Bool} → c ≡ true → (b || c) ≡ true
    second true e = refl
    second false e = e

-- ---- one commit more

pub newest_last : (cs : List (List Pair)) (c : List Pair) → newest (cs ++ c ∷ []) ≡ Some c
unfolding newest
newest_last [] c = refl
newest_last (d ∷ []) c = refl
newest_last (d ∷ e ∷ cs) c = newest_last (e ∷ cs) c

pub length_last : (cs : List (List Pair)) (c : List Pair) → length (cs ++ c ∷ []) ≡ length cs + 1
length_last [] c = refl
length_last (d ∷ cs) c = (let e = length_last cs c in omega arith)

pub last_at : (cs : List (List Pair)) (c : List Pair) → slice_get (cs ++ c ∷ []) (length cs) ≡ Some c
last_at [] c = refl
last_at (d ∷ cs) c = last_at cs c

pub first_at : (cs : List (List Pair)) (c ws : List Pair) (i : ℕ) → slice_get cs i ≡ Some ws → slice_get (cs ++ c ∷ []) i ≡ Some ws
first_at [] c ws i e = absurd (cc)
first_at (d ∷ cs) c ws zero e = e
first_at (d ∷ cs) c ws (suc i) e = first_at cs c ws i e

pub first_taken : (cs : List (List Pair)) (c : List Pair) (j : ℕ) → j ≤ length cs → take j (cs ++ c ∷ []) ≡ take j cs
first_taken [] c zero l = refl
first_taken [] c (suc j) l = absurd (omega arith)
first_taken (d ∷ cs) c zero l = refl
first_taken (d ∷ cs) c (suc j) l = ap (λ (xs : List (List Pair)). d ∷ xs) (first_taken cs c j (omega arith))

-- the newest commit stands at the last place
pub newest_at : (cs : List (List Pair)) (ws : List Pair) (k : ℕ) → newest cs ≡ Some ws → k + 1 ≡ length cs → slice_get cs k ≡ Some ws
unfolding newest
newest_at [] ws k e l = absurd (cc)
newest_at (c ∷ []) ws zero e l = e
newest_at (c ∷ []) ws (suc k) e l = absurd (omega arith)
newest_at (c ∷ d ∷ cs) ws zero e l = absurd (omega arith)
newest_at (c ∷ d ∷ cs) ws (suc k) e l = newest_at (d ∷ cs) ws k e (omega arith)
