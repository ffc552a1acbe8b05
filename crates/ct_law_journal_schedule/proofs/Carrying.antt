-- The messages that have not arrived: of each node to another they are those that wait, in the order in which they were sent.
use Rattle.std.proofs.Common.{◌≡◌, ◌≢◌, ℕ, zero, suc, ◌+◌, ◌<◌, ◌≤◌, Bool, true, false, cond, List, [], ◌∷◌, ◌++◌, length, map, set, Option, None, Some, append_assoc, arith, refl, sym, ap, ◌∙◌, subst, ⊎_elim}
use Rattle.std.proofs.lemmas.Bool.{and_parts, cases_Bool, cond_both, eq-eqb, eqb-true}
use Rattle.std.proofs.lemmas.List.{length-append}
use Rattle.std.specs.Prelude.{nat_eq, ◌&&◌, if◌then◌else◌, slice_get}
use Rattle.ct_frame.specs.declared.frame.Frame.{Frame}
use Rattle.ct_rules_cluster.specs.Cluster.{Sent, Waiting}
use Rattle.ct_journal.specs.Order.{frames_to}
use Rattle.ct_law_journal_schedule.specs.Scheduling.{Carried, carried_of, first_between, is_between, without_first}

-- a message that waits
abbrev pub waiting : Frame → Sent
waiting f = record { frame = f; fate = Waiting }

-- the message of this number
unfoldable pub got : List Sent → ℕ → Option Sent
got ss zero = None
got ss (suc k) = slice_get ss k

-- the numbers of the messages from node s to node n
unfoldable pub between : ℕ → ℕ → List Carried → List ℕ
between s n [] = []
between s n (m ∷ ms) = if is_between s n m then m.number ∷ between s n ms else between s n ms

-- numbers rise strictly from i on, and are below j
unfoldable pub Rising : ℕ → List Carried → ℕ → Type 0
Rising i [] j = i ≤ j
Rising i (m ∷ ms) j = (i ≤ m.number) × (Rising (m.number + 1) ms j)

-- the number is not among these
unfoldable pub Avoids : ℕ → List ℕ → Type 0
Avoids k [] = Unit {0}
Avoids k (x ∷ xs) = (x ≢ k) × (Avoids k xs)

-- ---- the first of them

between_in : (s n : ℕ) (m : Carried) (ms : List Carried) → is_between s n m ≡ true → between s n (m ∷ ms) ≡ m.number ∷ between s n ms
unfolding between
between_in s n m ms is = ap (λ (b : Bool). cond b (m.number ∷ between s n ms) (between s n ms)) is

between_out : (s n : ℕ) (m : Carried) (ms : List Carried) → is_between s n m ≡ false → between s n (m ∷ ms) ≡ between s n ms
unfolding between
between_out s n m ms is = ap (λ (b : Bool). cond b (m.number ∷ between s n ms) (between s n ms)) is

without_in : (s n : ℕ) (m : Carried) (ms : List Carried) → is_between s n m ≡ true → without_first s n (m ∷ ms) ≡ ms
unfolding without_first
without_in s n m ms is = ap (λ (b : Bool). cond b ms (m ∷ without_first s n ms)) is

without_out : (s n : ℕ) (m : Carried) (ms : List Carried) → is_between s n m ≡ false → without_first s n (m ∷ ms) ≡ m ∷ without_first s n ms
unfolding without_first
without_out s n m ms is = ap (λ (b : Bool). cond b ms (m ∷ without_first s n ms)) is

pub first_is : (s n k : ℕ) (ks : List ℕ) (ms : List Carried) → between s n ms ≡ k ∷ ks → first_between s n ms ≡ k
unfolding between first_between
first_is s n k ks [] e = absurd (cc)
first_is s n k ks (m ∷ ms) e = grind (arith, first_is s n k ks ms)

pub rest_is : (s n k : ℕ) (ks : List ℕ) (ms : List Carried) → between s n ms ≡ k ∷ ks → between s n (without_first s n ms) ≡ ks
unfolding between without_first
rest_is s n k ks [] e = absurd (cc)
rest_is s n k ks (m ∷ ms) e = grind (arith, rest_is s n k ks ms)

-- a message is between two nodes alone
alone : (s n a b : ℕ) (m : Carried) → is_between s n m ≡ true → is_between a b m ≡ true → (a ≡ s) × (b ≡ n)
unfolding is_between
alone s n a b m here there =
    let p = and_parts (nat_eq m.sender s) (nat_eq m.receiver n) here in
    let q = and_parts (nat_eq m.sender a) (nat_eq m.receiver b) there in
    (sym (eqb-true m.sender a q.0) ∙ eqb-true m.sender s p.0, sym (eqb-true m.receiver b q.1) ∙ eqb-true m.receiver n p.1)

pub others_stay : (s n a b : ℕ) (ms : List Carried) → ((a ≡ s) × (b ≡ n) → ⊥) → between a b (without_first s n ms) ≡ between a b ms
unfolding between without_first
others_stay s n a b [] ne = refl
others_stay s n a b (m ∷ ms) ne = ⊎_elim
    (λ (here : is_between s n m ≡ true). ap (between a b) (without_in s n m ms here) ∙ ⊎_elim
    (λ (there : is_between a b m ≡ true). absurd (ne (alone s n a b m here there)))
    (λ (out : is_between a b m ≡ false). sym (between_out a b m ms out))
    (cases_Bool (is_between a b m)))
    (λ (away : is_between s n m ≡ false). ap (between a b) (without_out s n m ms away) ∙ ap (λ (ks : List ℕ). cond (is_between a b m) (m.number ∷ ks) ks) (others_stay s n a b ms ne))
    (cases_Bool (is_between s n m))

-- ---- numbers

sooner : (i l j : ℕ) (ms : List Carried) → i ≤ l → Rising l ms j → Rising i ms j
unfolding Rising
sooner i l j [] le r = omega arith
sooner i l j (m ∷ ms) le r = (omega (arith, r.0), r.1)

pub still_rising : (s n i j : ℕ) (ms : List Carried) → Rising i ms j → Rising i (without_first s n ms) j
unfolding Rising without_first
still_rising s n i j [] r = r
still_rising s n i j (m ∷ ms) r = cond_both (is_between s n m) ms (m ∷ without_first s n ms) (λ (xs : List Carried). Rising i xs j)
    (λ _. sooner i (m.number + 1) j ms (let l = r.0 in omega arith) r.1)
    (λ _. (r.0, still_rising s n (m.number + 1) j ms r.1))

pub rising_more : (i j l : ℕ) (xs ys : List Carried) → Rising i xs j → Rising j ys l → Rising i (xs ++ ys) l
unfolding Rising
rising_more i j l [] ys r q = sooner i j l ys r q
rising_more i j l (m ∷ ms) ys r q = (r.0, rising_more (m.number + 1) j l ms ys r.1 q)

pub sent_rising : (s k : ℕ) (fs : List Frame) → Rising k (carried_of s k fs) (k + length fs)
unfolding Rising carried_of
sent_rising s k [] = omega arith
sent_rising s k (f ∷ fs) = (omega arith, subst (λ (j : ℕ). Rising (k + 1) (carried_of s (k + 1) fs) j) (omega arith) (sent_rising s (k + 1) fs))

-- what is between two nodes has numbers from i on
from_on : (s n i j k : ℕ) (ks : List ℕ) (ms : List Carried) → Rising i ms j → between s n ms ≡ k ∷ ks → i ≤ k
unfolding Rising between
from_on s n i j k ks [] r e = absurd (cc)
from_on s n i j k ks (m ∷ ms) r e = ⊎_elim
    (λ (here : is_between s n m ≡ true). (let l = r.0 in let same : m.number ∷ between s n ms ≡ k ∷ ks = sym (between_in s n m ms here) ∙ e in let q : m.number ≡ k = cc in omega arith))
    (λ (away : is_between s n m ≡ false). (let l = r.0 in let q = from_on s n (m.number + 1) j k ks ms r.1 (sym (between_out s n m ms away) ∙ e) in omega arith))
    (cases_Bool (is_between s n m))

avoids_above : (a b i j k : ℕ) (ms : List Carried) → Rising i ms j → k < i → Avoids k (between a b ms)
unfolding Rising between Avoids
avoids_above a b i j k [] r l = tt
avoids_above a b i j k (m ∷ ms) r l = cond_both (is_between a b m) (m.number ∷ between a b ms) (between a b ms) (Avoids k)
    (λ _. ((λ e. absurd (let q = r.0 in omega arith)), avoids_above a b (m.number + 1) j k ms r.1 (let q = r.0 in omega arith)))
    (λ _. avoids_above a b (m.number + 1) j k ms r.1 (let q = r.0 in omega arith))

-- once the first between two nodes is taken away, no other has its number
pub taken_away : (s n a b i j k : ℕ) (ks : List ℕ) (ms : List Carried) → Rising i ms j → between s n ms ≡ k ∷ ks → Avoids k (between a b (without_first s n ms))
unfolding Rising between without_first Avoids
taken_away s n a b i j k ks [] r e = absurd (cc)
taken_away s n a b i j k ks (m ∷ ms) r e = ⊎_elim
    (λ (here : is_between s n m ≡ true). subst (λ (xs : List Carried). Avoids k (between a b xs)) (sym (without_in s n m ms here))
    (let same : m.number ∷ between s n ms ≡ k ∷ ks = sym (between_in s n m ms here) ∙ e in let q : m.number ≡ k = cc in avoids_above a b (m.number + 1) j k ms r.1 (omega arith)))
    (λ (away : is_between s n m ≡ false). (
    let e2 = sym (between_out s n m ms away) ∙ e in
    let more = from_on s n (m.number + 1) j k ks ms r.1 e2 in
    let rest = taken_away s n a b (m.number + 1) j k ks ms r.1 e2 in
    subst (λ (xs : List Carried). Avoids k (between a b xs)) (sym (without_out s n m ms away))
    (cond_both (is_between a b m) (m.number ∷ between a b (without_first s n ms)) (between a b (without_first s n ms)) (Avoids k) (λ _. ((λ q. absurd (omega arith)), rest)) (λ _. rest))))
    (cases_Bool (is_between s n m))

-- ---- more of them

pub between_more : (a b : ℕ) (xs ys : List Carried) → between a b (xs ++ ys) ≡ between a b xs ++ between a b ys
unfolding between
between_more a b [] ys = refl
between_more a b (m ∷ ms) ys = grind (arith, between_more a b ms ys)

-- node s sends none from another node
pub not_sent : (s a b k : ℕ) (fs : List Frame) → a ≢ s → between a b (carried_of s k fs) ≡ []
unfolding between carried_of is_between
not_sent s a b k [] ne = refl
not_sent s a b k (f ∷ fs) ne = grind (arith, not_sent s a b (k + 1) fs)

-- ---- what waits under these numbers

set_got : (ss : List Sent) (k i : ℕ) (y : Sent) → i ≢ suc k → got (set ss k y) i ≡ got ss i
unfolding got
set_got ss k zero y ne = refl
set_got ss k (suc i) y ne = other ss k i y (λ e. ne (ap suc e))
  where
    other : (ss : List Sent) (k i : ℕ) (y : Sent) → i ≢ k → slice_get (set ss k y) i ≡ slice_get ss i
    other [] k i y ne = refl
    other (x ∷ xs) zero zero y ne = absurd (ne refl)
    other (x ∷ xs) zero (suc i) y ne = refl
    other (x ∷ xs) (suc k) zero y ne = refl
    other (x ∷ xs) (suc k) (suc i) y ne = other xs k i y (λ e. ne (ap suc e))

pub set_waits : (ss : List Sent) (k : ℕ) (y : Sent) (ks : List ℕ) → Avoids (suc k) ks → map (got (set ss k y)) ks ≡ map (got ss) ks
unfolding Avoids
set_waits ss k y [] a = refl
set_waits ss k y (i ∷ ks) a = (let e = set_got ss k i y a.0 in let es = set_waits ss k y ks a.1 in cc)

got_more : (ss ts : List Sent) (k : ℕ) (y : Sent) → got ss k ≡ Some y → got (ss ++ ts) k ≡ Some y
unfolding got
got_more ss ts zero y e = e
got_more ss ts (suc k) y e = before ss ts k y e
  where
    before : (ss ts : List Sent) (k : ℕ) (y : Sent) → slice_get ss k ≡ Some y → slice_get (ss ++ ts) k ≡ Some y
    before [] ts k y e = absurd (cc)
    before (x ∷ xs) ts zero y e = e
    before (x ∷ xs) ts (suc k) y e = before xs ts k y e

-- these wait under these numbers
abbrev pub Wait : List Sent → List ℕ → List Frame → Type 0
Wait ss ks fs = map (got ss) ks ≡ map (λ (f : Frame). Some (waiting f)) fs

pub wait_more : (ss ts : List Sent) (ks : List ℕ) (fs : List Frame) → Wait ss ks fs → Wait (ss ++ ts) ks fs
wait_more ss ts [] [] e = refl
wait_more ss ts [] (f ∷ fs) e = absurd (cc)
wait_more ss ts (k ∷ ks) [] e = absurd (cc)
wait_more ss ts (k ∷ ks) (f ∷ fs) e =
    let one : got ss k ≡ Some (waiting f) = cc in
    let rest : Wait ss ks fs = cc in
    let more = got_more ss ts k (waiting f) one in
    let others = wait_more ss ts ks fs rest in
    cc

got_next : (ss ts : List Sent) (y : Sent) → got (ss ++ y ∷ ts) (length ss + 1) ≡ Some y
unfolding got
got_next ss ts y = rw add_suc (at ss ts y)
  where
    at : (ss ts : List Sent) (y : Sent) → slice_get (ss ++ y ∷ ts) (length ss) ≡ Some y
    at [] ts y = refl
    at (x ∷ xs) ts y = at xs ts y

    add_suc : length ss + 1 ≡ suc (length ss)
    add_suc = omega arith

-- what node s has just sent waits
pub sent_waits : (s b : ℕ) (ss : List Sent) (fs : List Frame) → Wait (ss ++ map waiting fs) (between s b (carried_of s (length ss + 1) fs)) (frames_to b fs)
unfolding between carried_of frames_to is_between
sent_waits s b ss [] = refl
sent_waits s b ss (f ∷ fs) =
    let all : List Sent = ss ++ waiting f ∷ map waiting fs in
    let m : Carried = record { number = length ss + 1; sender = s; receiver = f.receiver } in
    let ms : List Carried = carried_of s (length ss + 1 + 1) fs in
    let here : is_between s b m ≡ nat_eq f.receiver b = ap (λ (t : Bool). t && nat_eq f.receiver b) (eq-eqb s s refl) in
    let rest : Wait all (between s b ms) (frames_to b fs) =
    subst (λ (k : ℕ). Wait all (between s b (carried_of s (k + 1) fs)) (frames_to b fs)) (length-append ss (waiting f ∷ []))
    (subst (λ (l : List Sent). Wait l (between s b (carried_of s (length (ss ++ waiting f ∷ []) + 1) fs)) (frames_to b fs)) (append_assoc ss (waiting f ∷ []) (map waiting fs)) (sent_waits s b (ss ++ waiting f ∷ []) fs)) in
    let one : got all (length ss + 1) ≡ Some (waiting f) = got_next ss (map waiting fs) (waiting f) in
    ⊎_elim
    (λ (to : nat_eq f.receiver b ≡ true). (
    let e1 = between_in s b m ms (here ∙ to) in
    let e2 : frames_to b (f ∷ fs) ≡ f ∷ frames_to b fs = ap (λ (t : Bool). cond t (f ∷ frames_to b fs) (frames_to b fs)) to in
    cc))
    (λ (no : nat_eq f.receiver b ≡ false). (
    let e1 = between_out s b m ms (here ∙ no) in
    let e2 : frames_to b (f ∷ fs) ≡ frames_to b fs = ap (λ (t : Bool). cond t (f ∷ frames_to b fs) (frames_to b fs)) no in
    cc))
    (cases_Bool (nat_eq f.receiver b))
