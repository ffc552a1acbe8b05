-- Where the first message that waits stands.
use Rattle.std.proofs.Common.{◌≡◌, ℕ, zero, suc, ◌+◌, ◌-◌, ◌≤◌, ◌<◌, true, false, cond, List, [], ◌∷◌, ◌++◌, length, Option, None, Some, refl, sym, ◌∙◌, ap, subst, arith}
use Rattle.std.specs.Prelude.{nat_eq, nat_lt, slice_get, slice_index_or, slice_set, take}
use Rattle.std.proofs.lemmas.Bool.{cond_both, ltb-true}
use Rattle.std.proofs.lemmas.Option.{slice_get-get_or}
use Rattle.ct_mail.specs.declared.sent.Fate.{Fate}
use Rattle.ct_traverse_parts.specs.Posts.{before_waiting, is_waiting, next_waiting, numbered, waiting_from, waits}
use Rattle.ct_traverse_parts.specs.declared.post.Post.{Post}

-- where it is said of the first item, whether that waits or not
by_first : (P : ℕ → Type 0) (x : Post) (xs : List Post) → (waits x.fate ≡ true → P zero) → (waits x.fate ≡ false → P (suc (before_waiting xs))) → P (before_waiting (x ∷ xs))
unfolding before_waiting
by_first P x xs first later = cond_both (waits x.fate) zero (suc (before_waiting xs)) P first later

-- none stands behind the end
at_most_all : (xs : List Post) → before_waiting xs ≤ length xs
unfolding before_waiting
at_most_all [] = omega arith
at_most_all (x ∷ xs) = by_first (λ n. n ≤ suc (length xs)) x xs (λ _. omega arith) (λ _. let a = at_most_all xs in omega arith)

-- the message that is read at a place
pub read_there : (xs : List Post) (i : ℕ) (x : Post) → true ≡ nat_lt i (length xs) → x ≡ slice_index_or xs i x → slice_get xs i ≡ Some x
read_there xs i x l g = slice_get-get_or xs i x (ltb-true i (length xs) (sym l)) ∙ ap Some (sym g)

-- behind the first ones, none of which waits, another one that does not
pub goes_past : (xs : List Post) (i : ℕ) (x : Post) → i ≤ before_waiting xs → slice_get xs i ≡ Some x → waits x.fate ≡ false → i + 1 ≤ before_waiting xs
goes_past [] i x l at ne = absurd (cc)
goes_past (y ∷ ys) zero x l at ne = by_first (λ n. 1 ≤ n) y ys (λ w. absurd (let s : y ≡ x = cc in cc)) (λ _. omega arith)
goes_past (y ∷ ys) (suc i) x l at ne =
    by_first (λ n. suc i ≤ n → suc i + 1 ≤ n) y ys (λ _ k. absurd (omega arith)) (λ _ k. let a = goes_past ys i x (omega arith) at ne in omega arith) l

-- or the first that does
pub stops_there : (xs : List Post) (i : ℕ) (x : Post) → i ≤ before_waiting xs → slice_get xs i ≡ Some x → waits x.fate ≡ true → i ≡ before_waiting xs
stops_there [] i x l at is = absurd (cc)
stops_there (y ∷ ys) zero x l at is = by_first (λ n. 0 ≡ n) y ys (λ _. refl) (λ w. absurd (let s : y ≡ x = cc in cc))
stops_there (y ∷ ys) (suc i) x l at is =
    by_first (λ n. suc i ≤ n → suc i ≡ n) y ys (λ _ k. absurd (omega arith)) (λ _ k. ap suc (stops_there ys i x (omega arith) at is)) l

-- or the end
pub ends_there : (xs : List Post) (i : ℕ) → i ≤ before_waiting xs → length xs ≤ i → i ≡ before_waiting xs
ends_there xs i l e = let a = at_most_all xs in omega arith

-- ---- the next one that waits

none_from : (k : ℕ) (xs : List Post) → length xs ≤ before_waiting xs → waiting_from k xs ≡ None
unfolding waiting_from
none_from k [] l = refl
none_from k (x ∷ xs) l = cond_both (waits x.fate) (Some k) (waiting_from (k + 1) xs) (λ (o : Option ℕ). o ≡ None)
    (λ w. absurd (by_first (λ n. suc (length xs) ≤ n → ⊥) x xs (λ _ e. omega arith) (λ ne _. cc) l))
    (λ ne. none_from (k + 1) xs (by_first (λ n. suc (length xs) ≤ n → length xs ≤ before_waiting xs) x xs (λ _ e. absurd (omega arith)) (λ _ e. omega arith) l))

first_from : (k : ℕ) (xs : List Post) → before_waiting xs < length xs → waiting_from k xs ≡ Some (k + before_waiting xs)
unfolding waiting_from before_waiting
first_from k [] l = absurd (omega arith)
first_from k (x ∷ xs) l = by_first (λ n. n < suc (length xs) → waiting_from k (x ∷ xs) ≡ Some (k + n)) x xs
    (λ w _. cond_both (waits x.fate) (Some k) (waiting_from (k + 1) xs) (λ (o : Option ℕ). o ≡ Some (k + 0)) (λ _. ap (λ (n : ℕ). Some n) (omega arith)) (λ ne. absurd (cc)))
    (λ ne b. cond_both (waits x.fate) (Some k) (waiting_from (k + 1) xs) (λ (o : Option ℕ). o ≡ Some (k + suc (before_waiting xs))) (λ w. absurd (cc))
    (λ _. first_from (k + 1) xs (omega arith) ∙ ap (λ (n : ℕ). Some n) (omega arith)))
    l

pub none_waits : (xs : List Post) → length xs ≤ before_waiting xs → next_waiting xs ≡ None
none_waits xs l = none_from 1 xs l

pub first_waits : (xs : List Post) → before_waiting xs < length xs → next_waiting xs ≡ Some (before_waiting xs + 1)
first_waits xs l = first_from 1 xs l ∙ ap (λ (n : ℕ). Some n) (omega arith)

-- ---- changes

-- messages that were just sent stand behind all others
pub posted_after : (xs more : List Post) → before_waiting more ≡ 0 → before_waiting (xs ++ more) ≡ before_waiting xs
unfolding before_waiting
posted_after [] more none = none
posted_after (x ∷ xs) more none = ap (λ (n : ℕ). cond (waits x.fate) zero (suc n)) (posted_after xs more none)

pub taken_short : (xs : List Post) (n : ℕ) → n < before_waiting xs → before_waiting (take n xs) ≡ n
unfolding before_waiting
taken_short [] n l = absurd (omega arith)
taken_short (x ∷ xs) zero l = refl
taken_short (x ∷ xs) (suc n) l = by_first (λ m. suc n < m → before_waiting (take (suc n) (x ∷ xs)) ≡ suc n) x xs (λ _ k. absurd (omega arith))
    (λ ne k. cond_both (waits x.fate) zero (suc (before_waiting (take n xs))) (λ m. m ≡ suc n) (λ w. absurd (cc)) (λ _. ap suc (taken_short xs n (omega arith)))) l

pub taken_long : (xs : List Post) (n : ℕ) → before_waiting xs ≤ n → before_waiting (take n xs) ≡ before_waiting xs
unfolding before_waiting
taken_long [] zero l = refl
taken_long [] (suc n) l = refl
taken_long (x ∷ xs) zero l = by_first (λ m. m ≤ 0 → 0 ≡ m) x xs (λ _ _. refl) (λ _ k. absurd (omega arith)) l
taken_long (x ∷ xs) (suc n) l = by_first (λ m. m ≤ suc n → before_waiting (x ∷ take n xs) ≡ m) x xs
    (λ w _. cond_both (waits x.fate) zero (suc (before_waiting (take n xs))) (λ m. m ≡ 0) (λ _. refl) (λ ne. absurd (cc)))
    (λ ne k. cond_both (waits x.fate) zero (suc (before_waiting (take n xs))) (λ m. m ≡ suc (before_waiting xs)) (λ w. absurd (cc)) (λ _. ap suc (taken_long xs n (omega arith))))
    l

-- a message that waits no longer takes no first one away
pub marked_later : (xs : List Post) (i : ℕ) (y : Post) → waits y.fate ≡ false → before_waiting xs ≤ before_waiting (slice_set xs i y)
unfolding before_waiting
marked_later [] i y ne = omega arith
marked_later (x ∷ xs) zero y ne = by_first (λ m. before_waiting (x ∷ xs) ≤ m) y xs (λ w. absurd (cc)) (λ _. by_first (λ m. m ≤ suc (before_waiting xs)) x xs (λ _. omega arith) (λ _. omega arith))
marked_later (x ∷ xs) (suc i) y ne = by_first (λ m. m ≤ before_waiting (x ∷ slice_set xs i y)) x xs (λ _. omega arith)
    (λ gone. by_first (λ m. suc (before_waiting xs) ≤ m) x (slice_set xs i y) (λ w. absurd (cc)) (λ _. let a = marked_later xs i y ne in omega arith))

-- a message that waits was sent
has_item : (xs : List Post) (i : ℕ) → is_waiting (slice_get xs i) ≡ true → i < length xs
unfolding is_waiting
has_item [] i e = absurd (cc)
has_item (x ∷ xs) zero e = omega arith
has_item (x ∷ xs) (suc i) e = let a = has_item xs i e in omega arith

from_one : (n : ℕ) → nat_eq n 0 ≡ false → 1 ≤ n
from_one zero e = absurd (cc)
from_one (suc k) e = omega arith

pub waits_there : (n : ℕ) (xs : List Post) → is_waiting (numbered n xs) ≡ true → (1 ≤ n) × (n - 1 < length xs)
unfolding is_waiting numbered
waits_there n xs w = cond_both (nat_eq n 0) None (slice_get xs (n - 1)) (λ (o : Option Post). is_waiting o ≡ true → (1 ≤ n) × (n - 1 < length xs)) (λ is e. absurd (cc)) (λ ne e. (from_one n ne, has_item xs (n - 1) e)) w

pub numbered_there : (n : ℕ) (xs : List Post) (x : Post) → numbered n xs ≡ Some x → slice_get xs (n - 1) ≡ Some x
unfolding numbered
numbered_there n xs x e = cond_both (nat_eq n 0) None (slice_get xs (n - 1)) (λ (o : Option Post). o ≡ Some x → slice_get xs (n - 1) ≡ Some x) (λ is k. absurd (cc)) (λ ne k. k) e

-- once a message that waits has ended, the first one that waits is no earlier one
ended_in : (xs ys : List Post) (i : ℕ) (f : Fate) (o : Option Post) → waits f ≡ false → slice_get xs i ≡ o → is_waiting o ≡ true → ((x : Post) → slice_get xs i ≡ Some x → ys ≡ slice_set xs i (record x { fate = f })) → before_waiting xs ≤ before_waiting ys
unfolding is_waiting
ended_in xs ys i f None ends at w h = absurd (cc)
ended_in xs ys i f (Some x) ends at w h = subst (λ (zs : List Post). before_waiting xs ≤ before_waiting zs) (sym (h x at)) (marked_later xs i (record x { fate = f }) ends)

pub ended_later : (n : ℕ) (xs ys : List Post) (f : Fate) → waits f ≡ false → is_waiting (numbered n xs) ≡ true → ((x : Post) → slice_get xs (n - 1) ≡ Some x → ys ≡ slice_set xs (n - 1) (record x { fate = f })) → before_waiting xs ≤ before_waiting ys
unfolding is_waiting numbered
ended_later n xs ys f ends w h = cond_both (nat_eq n 0) None (slice_get xs (n - 1)) (λ (o : Option Post). is_waiting o ≡ true → before_waiting xs ≤ before_waiting ys) (λ is e. absurd (cc))
    (λ ne e. ended_in xs ys (n - 1) f (slice_get xs (n - 1)) ends refl e h) w
