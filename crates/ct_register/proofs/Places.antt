-- Functions changed at one place.
use Rattle.std.proofs.Common.{◌≡◌, ℕ, true, false, List, [], ◌∷◌, refl, sym, ⊎_elim, arith, subst}
use Rattle.std.specs.Prelude.{◌≢◌, nat_eq, bytes_eq}
use Rattle.std.proofs.lemmas.Bool.{cases_eq, cond_both, eq-eqb, ne_eqb}
use Rattle.std.proofs.lemmas.Slice.Eq.{bytes_eq-Decides}
use Rattle.ct_rules_cluster.specs.Handed.{is_among}
use Rattle.ct_register.specs.Register.{Register}
use Rattle.ct_register.specs.Words.{at, at_key}

pub at_same : {X : Type 0} (n m : ℕ) (x : X) (f : ℕ → X) → m ≡ n → at n x f m ≡ x
unfolding at
at_same n m x f is = rw (eq-eqb m n is) refl

pub at_other : {X : Type 0} (n m : ℕ) (x : X) (f : ℕ → X) → m ≢ n → at n x f m ≡ f m
unfolding at
at_other n m x f ne = rw (ne_eqb m n ne) refl

-- what holds of the new value, and of all old ones, holds of all
pub at_all : {X : Type 0} (P : X → Type 0) (n : ℕ) (x : X) (f : ℕ → X) → P x → ((m : ℕ) → P (f m)) → (m : ℕ) → P (at n x f m)
unfolding at
at_all P n x f new old m = cond_both (nat_eq m n) x (f m) P (λ _. new) (λ _. old m)

pub at_key_same : {X : Type 0} (key k : List ℕ) (x : X) (f : List ℕ → X) → k ≡ key → at_key key x f k ≡ x
unfolding at_key
at_key_same key k x f is = rw ((bytes_eq-Decides k key).1 is) refl

pub at_key_other : {X : Type 0} (key k : List ℕ) (x : X) (f : List ℕ → X) → k ≢ key → at_key key x f k ≡ f k
unfolding at_key
at_key_other key k x f ne = cond_both (bytes_eq k key) x (f k) (λ v. v ≡ f k) (λ t. absurd (ne ((bytes_eq-Decides k key).0 t))) (λ _. refl)

pub at_key_all : {X : Type 0} (P : X → Type 0) (key : List ℕ) (x : X) (f : List ℕ → X) → P x → ((k : List ℕ) → P (f k)) → (k : List ℕ) → P (at_key key x f k)
unfolding at_key
at_key_all P key x f new old k = cond_both (bytes_eq k key) x (f k) P (λ _. new) (λ _. old k)

-- what holds of 0 and 1 holds of both
pub of_two : (P : ℕ → Type 0) → P 0 → P 1 → (m : ℕ) → is_among m (0 ∷ 1 ∷ []) ≡ true → P m
unfolding is_among
of_two P zeroth first m among =
    ⊎_elim (λ (is : m ≡ 0). subst P (sym is) zeroth) (λ (no : m ≢ 0). ⊎_elim (λ (is : m ≡ 1). subst P (sym is) first) (λ (na : m ≢ 1). absurd (let a = ne_eqb m 0 no in let b = ne_eqb m 1 na in grind arith)) (cases_eq m 1)) (cases_eq m 0)

pub of_one : (P : ℕ → Type 0) (n : ℕ) → P n → (m : ℕ) → is_among m (n ∷ []) ≡ true → P m
unfolding is_among
of_one P n this m among =
    ⊎_elim (λ (is : m ≡ n). subst P (sym is) this) (λ (no : m ≢ n). absurd (let a = ne_eqb m n no in grind arith)) (cases_eq m n)

-- where a place is changed twice, the first change does not show
pub at_twice : {X : Type 0} (P : X → Type 0) (n : ℕ) (x y : X) (f : ℕ → X) → P x → ((m : ℕ) → P (f m)) → (m : ℕ) → P (at n x (at n y f) m)
unfolding at
at_twice P n x y f new old m =
    cond_both (nat_eq m n) x _ P (λ _. new) (λ (e : nat_eq m n ≡ false). cond_both (nat_eq m n) y (f m) P (λ (t : nat_eq m n ≡ true). absurd (cc)) (λ _. old m))

pub at_key_twice : {X : Type 0} (P : X → Type 0) (key : List ℕ) (x y : X) (f : List ℕ → X) → P x → ((k : List ℕ) → P (f k)) → (k : List ℕ) → P (at_key key x (at_key key y f) k)
unfolding at_key
at_key_twice P key x y f new old k =
    cond_both (bytes_eq k key) x _ P (λ _. new) (λ (e : bytes_eq k key ≡ false). cond_both (bytes_eq k key) y (f k) P (λ (t : bytes_eq k key ≡ true). absurd (cc)) (λ _. old k))

-- what holds of the new value at its place, and of each old one at its own, holds of each at its own
pub at_each : {X : Type 0} (P : ℕ → X → Type 0) (n : ℕ) (x : X) (f : ℕ → X) → P n x → ((m : ℕ) → m ≢ n → P m (f m)) → (m : ℕ) → P m (at n x f m)
at_each P n x f new old m =
    ⊎_elim (λ (is : m ≡ n). subst (λ v. P m v) (sym (at_same n m x f is)) (subst (λ k. P k x) (sym is) new)) (λ (ne : m ≢ n). subst (λ v. P m v) (sym (at_other n m x f ne)) (old m ne)) (cases_eq m n)

-- one record of a line is changed, and a property of all records stays
abbrev pub Everywhere : (Register → Type 0) → (ℕ → List ℕ → Register) → Type 0
Everywhere P records = (db : ℕ) (key : List ℕ) → P (records db key)

pub everywhere_at : (P : Register → Type 0) (db : ℕ) (key : List ℕ) (t : Register) (old : ℕ → List ℕ → Register) → P t → Everywhere P old → Everywhere P (at db (at_key key t (old db)) old)
everywhere_at P db key t old new all = at_all (λ (f : List ℕ → Register). (k : List ℕ) → P (f k)) db (at_key key t (old db)) old (at_key_all P key t (old db) new (all db)) all
