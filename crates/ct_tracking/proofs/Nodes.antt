-- Lists of nodes in order, with one more and with one less.
use Rattle.std.proofs.Common.{◌≡◌, ◌≢◌, ◌<◌, ◌+◌, ℕ, Bool, true, false, ◌&&◌, nat_lt, nat_eq, List, [], ◌∷◌, refl, ◌∙◌, ap, sym, subst, true≢false, add-one, arith}
use Rattle.std.specs.Prelude.{Contains, Option, None, Some, slice_get, not, if◌then◌else◌}
use Rattle.std.specs.List.{AllByRecursion, insert, list_any}
use Rattle.std.specs.List.Sorted.{IsStrictlyIncreasing, IsStrictlySortedBy}
use Rattle.std.specs.Cmp.{nat_cmp_is, nat_cmp_total}
use Rattle.std.specs.Ordering.{nat_cmp}
use Rattle.std.specs.declared.cmp.Ordering.TheVariants.{Less}
use Rattle.std.proofs.lemmas.List.Elements.{All-contains, All-filter, All-contains_itself, All-from_recursion, recursion_from_All}
use Rattle.std.proofs.lemmas.List.Kept.{IsStrictlyIncreasing-filter}
use Rattle.std.proofs.lemmas.Map.Keys.{sorted_from_strictly_increasing, IsStrictlyIncreasing-from_sorted}
use Rattle.ct_values.specs.Words.{is_nil, others}
use Rattle.ct_tracking.specs.Awaited.{AreAsked, Awaited, asking, below, including, is_last}
use Rattle.ct_tracking.specs.Tracked.{AreMissing, missing_of, revocation, rsn_of}

-- all of these nodes are above this one
abbrev Above : ℕ → List ℕ → Type 0
Above low ns = AllByRecursion (λ n. nat_cmp low n ≡ Less) ns

less : (a b : ℕ) → a < b → nat_cmp a b ≡ Less
less a b h = sym (nat_cmp_is a b Less h)

above_higher : (low node : ℕ) (ns : List ℕ) → nat_cmp low node ≡ Less → Above node ns → Above low ns
above_higher low node [] l a = tt
above_higher low node (n ∷ ns) l a = (nat_cmp_total.trans low node n l a.0, above_higher low node ns l a.1)

above_including : (low node : ℕ) (ns : List ℕ) → low < node → Above low ns → Above low (including node ns)
above_including low node [] l a = (less low node l, tt)
above_including low node (n ∷ ns) l a = by (nat_lt n node) (nat_eq n node) (above_including low node ns l a.1)
  where
    by : (b e : Bool) → Above low (including node ns) → Above low (if b then n ∷ including node ns else if e then n ∷ ns else node ∷ n ∷ ns)
    by true e r = (a.0, r)
    by false true r = a
    by false false r = (less low node l, a)

sorted_including : (node : ℕ) (ns : List ℕ) → IsStrictlySortedBy nat_cmp ns → IsStrictlySortedBy nat_cmp (including node ns)
unfolding IsStrictlySortedBy
sorted_including node [] s = (tt, tt)
sorted_including node (n ∷ ns) s = by (nat_lt n node) (nat_eq n node) refl refl (sorted_including node ns s.1)
  where
    by : (b e : Bool) → nat_lt n node ≡ b → nat_eq n node ≡ e → IsStrictlySortedBy nat_cmp (including node ns) → IsStrictlySortedBy nat_cmp (if b then n ∷ including node ns else if e then n ∷ ns else node ∷ n ∷ ns)
    by true e p q r = (above_including n node ns (grind arith) s.0, r)
    by false true p q r = s
    by false false p q r = (let l = less node n (grind arith) in ((l, above_higher node n ns l s.0), s))

pub sorted_none : IsStrictlySortedBy nat_cmp []
unfolding IsStrictlySortedBy
sorted_none = tt

-- with one more node they still ascend
pub ascends_including : (node : ℕ) (ns : List ℕ) → IsStrictlyIncreasing ns → IsStrictlyIncreasing (including node ns)
ascends_including node ns a = IsStrictlyIncreasing-from_sorted (including node ns) (sorted_including node ns (sorted_from_strictly_increasing ns a))

-- with one node less they still ascend
pub ascends_others : (node : ℕ) (ns : List ℕ) → IsStrictlyIncreasing ns → IsStrictlyIncreasing (others node ns)
ascends_others node ns a = IsStrictlyIncreasing-filter (λ n. not (nat_eq n node)) ns a

pub among_others : (node : ℕ) (ns : List ℕ) (n : ℕ) → Contains (others node ns) n → Contains ns n
among_others node ns n c = All-contains (Contains ns) (others node ns) n (All-filter (λ m. not (nat_eq m node)) (Contains ns) ns (All-contains_itself ns)) c

all_before : (P : ℕ → Type 0) (node : ℕ) (ns : List ℕ) → AllByRecursion P (including node ns) → AllByRecursion P ns
all_before P node [] a = tt
all_before P node (n ∷ ns) a = by (nat_lt n node) (nat_eq n node) (all_before P node ns) a
  where
    by : (b e : Bool) → (AllByRecursion P (including node ns) → AllByRecursion P ns) → AllByRecursion P (if b then n ∷ including node ns else if e then n ∷ ns else node ∷ n ∷ ns) → AllByRecursion P (n ∷ ns)
    by true e r a = (a.0, r a.1)
    by false true r a = a
    by false false r a = a.1

among_including : (node : ℕ) (ns : List ℕ) (n : ℕ) → Contains ns n → Contains (including node ns) n
among_including node ns n c =
    let all = recursion_from_All (Contains (including node ns)) (including node ns) (All-contains_itself (including node ns)) in
    All-contains (Contains (including node ns)) ns n (All-from_recursion (Contains (including node ns)) ns (all_before (Contains (including node ns)) node ns all)) c

not_nil : (ns : List ℕ) → ns ≢ [] → is_nil ns ≡ false
not_nil [] some = absurd (some refl)
not_nil (n ∷ ns) some = refl

-- the others of a list without the node are all of it
pub others_all : (node : ℕ) (ns : List ℕ) → list_any (nat_eq node) ns ≡ false → others node ns ≡ ns
others_all node [] e = refl
others_all node (n ∷ ns) e = grind (arith, others_all node ns)

-- lists that are asked and missing, with one more that is asked and with one less that is missing
pub asked_with : (node : ℕ) (asked more missing : List ℕ) → more ≡ including node asked → AreAsked asked missing → AreAsked more missing
asked_with node asked more missing is a = subst (λ ns. AreAsked ns missing) (sym is) (record {
  asked_ascend = ascends_including node asked a.asked_ascend;
  missing_ascend = a.missing_ascend;
  among = λ n c. among_including node asked n (a.among n c);
})

pub asked_without : (node : ℕ) (asked missing left : List ℕ) → left ≡ others node missing → AreAsked asked missing → AreAsked asked left
asked_without node asked missing left is a = subst (AreAsked asked) (sym is) (record {
  asked_ascend = a.asked_ascend;
  missing_ascend = ascends_others node missing a.missing_ascend;
  among = λ n c. a.among n (among_others node missing n c);
})

pub asked_all : (nodes asked missing : List ℕ) → IsStrictlyIncreasing nodes → asked ≡ nodes → missing ≡ nodes → AreAsked asked missing
asked_all nodes asked missing up e f = subst (λ ns. AreAsked ns missing) (sym e) (subst (AreAsked nodes) (sym f) (record { asked_ascend = up; missing_ascend = up; among = λ n c. c }))

pub asked_once_more : (asked missing again : List ℕ) → AreAsked asked missing → again ≡ asked → AreAsked asked again
asked_once_more asked missing again a is = asked_all asked asked again a.asked_ascend refl is

pub asked_nobody : (asked missing : List ℕ) → asked ≡ [] → missing ≡ [] → AreAsked asked missing
asked_nobody asked missing e f = asked_all [] asked missing (IsStrictlyIncreasing-from_sorted [] sorted_none) e f

-- where nobody is asked, nobody is missing
pub missing_nobody : (asked missing : List ℕ) → AreAsked asked missing → asked ≡ [] → missing ≡ []
missing_nobody asked [] a e = refl
missing_nobody asked (n ∷ ns) a e = let found : Contains [] n = subst (λ l. Contains l n) e (a.among n (0, omega arith, refl)) in absurd (omega (arith, found.1))

pub nobody_same : (asked missing : List ℕ) → AreAsked asked missing → asked ≡ [] → asking [] ≡ record { asked = asked; missing = missing }
nobody_same asked missing a e =
    let same : List ℕ → List ℕ → Awaited = λ l m. record { asked = l; missing = m } in
    ap (λ l. same l []) (sym e) ∙ ap (λ m. same asked m) (sym (missing_nobody asked missing a e))

-- where somebody is missing, a node is the last one where it leaves nobody missing
pub last_of_some : (node : ℕ) (missing : List ℕ) → missing ≢ [] → is_last node missing ≡ is_nil (others node missing)
last_of_some node missing some = by (list_any (nat_eq node) missing) refl
  where
    by : (b : Bool) → list_any (nat_eq node) missing ≡ b → (b && is_nil (others node missing)) ≡ is_nil (others node missing)
    by true e = refl
    by false e = sym (ap is_nil (others_all node missing e) ∙ not_nil missing some)

-- while a revocation runs: somebody is missing with one less, where that leaves some
pub still_missing : (running : Option ℕ) (rsn : ℕ) (left : List ℕ) → running ≡ Some rsn → is_nil left ≡ false → AreMissing running left
still_missing None rsn left e some = absurd (cc)
still_missing (Some r) rsn left e some = λ h. true≢false (sym (ap is_nil h) ∙ some)

pub tracked_missing : (running : Option ℕ) (tracked missing : List ℕ) → AreMissing running missing → AreAsked tracked missing → AreAsked tracked (missing_of (revocation running missing))
tracked_missing None tracked missing is a = subst (AreAsked tracked) is a
tracked_missing (Some r) tracked missing is a = a

pub some_missing : (running : Option ℕ) (missing : List ℕ) → AreMissing running missing → AreMissing (rsn_of (revocation running missing)) (missing_of (revocation running missing))
some_missing None missing is = refl
some_missing (Some r) missing is = is

-- a node that is there is not put there again
pub including_there : (node : ℕ) (ns : List ℕ) → slice_get ns (below node ns) ≡ Some node → including node ns ≡ ns
including_there node [] e = grind arith
including_there node (n ∷ ns) e = by (nat_lt n node) refl e (including_there node ns)
  where
    by : (b : Bool) → nat_lt n node ≡ b → slice_get (n ∷ ns) (if b then below node ns + 1 else 0) ≡ Some node → (slice_get ns (below node ns) ≡ Some node → including node ns ≡ ns) → (if b then n ∷ including node ns else if nat_eq n node then n ∷ ns else node ∷ n ∷ ns) ≡ n ∷ ns
    by true p e r = ap (λ ms. n ∷ ms) (r (grind arith))
    by false p e r = grind arith

-- one that is not there is put after those below it
pub including_new : (node : ℕ) (ns : List ℕ) → ¬ (slice_get ns (below node ns) ≡ Some node) → including node ns ≡ insert ns (below node ns) node
including_new node [] e = refl
including_new node (n ∷ ns) e = by (nat_lt n node) refl e (including_new node ns)
  where
    by : (b : Bool) → nat_lt n node ≡ b → ¬ (slice_get (n ∷ ns) (if b then below node ns + 1 else 0) ≡ Some node) → (¬ (slice_get ns (below node ns) ≡ Some node) → including node ns ≡ insert ns (below node ns) node) → (if b then n ∷ including node ns else if nat_eq n node then n ∷ ns else node ∷ n ∷ ns) ≡ insert (n ∷ ns) (if b then below node ns + 1 else 0) node
    by true p e r = rw (add-one (below node ns)) (ap (λ ms. n ∷ ms) (r (λ h. e (grind arith))))
    by false p e r = grind arith
