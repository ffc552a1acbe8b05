-- The first of a list in an order, and what holds of each item of the lists of choices.
use Rattle.std.proofs.Common.{◌≡◌, ℕ, ◌+◌, Bool, true, false, nat_eq, List, [], ◌∷◌, ◌++◌, Option, Some, None, refl, subst}
use Rattle.std.specs.Prelude.{if◌then◌else◌, is_some}
use Rattle.std.specs.List.{AllByRecursion}
use Rattle.std.specs.Option.{IfSome}
use Rattle.ct_values.specs.declared.address.Address.{Address}
use Rattle.ct_frame.specs.declared.frame.Assigned.{Assigned}
use Rattle.ct_lcp2.specs.Best.{better, best_from, best}
use Rattle.ct_lcp2.specs.Distance.{sum_to, imbalance}
use Rattle.ct_lcp2.specs.Placing.{choice_before, places_at, places, held, others, failbacks_of, failbacks, may_fail_back, source_of, sources}
use Rattle.ct_lcp2.specs.declared.choice.Choice.{Choice}
use Rattle.ct_lcp2.specs.declared.choice.Source.{Source}

module _ {X : Type 0} where
  pub best_from_append : (before : X → X → Bool) (b : Option X) (xs ys : List X) → best_from before b (xs ++ ys) ≡ best_from before (best_from before b xs) ys
  unfolding best_from
  best_from_append before b [] ys = refl
  best_from_append before b (x ∷ xs) ys = best_from_append before (better before b x) xs ys

  -- what holds of each holds of the first
  pub holds_of_best : (P : X → Type 0) (before : X → X → Bool) (b : Option X) (xs : List X) → IfSome b P → AllByRecursion P xs → IfSome (best_from before b xs) P
  unfolding best_from
  holds_of_best P before b [] h all = h
  holds_of_best P before b (x ∷ xs) h all = holds_of_best P before (better before b x) xs (by b h) all.1
    where
      by : (o : Option X) → IfSome o P → IfSome (better before o x) P
      by None k = all.0
      by (Some y) k = choose (before x y)
        where
          choose : (t : Bool) → IfSome (if t then Some x else Some y) P
          choose true = all.0
          choose false = k

  pub holds_of : (P : X → Type 0) (before : X → X → Bool) (xs : List X) (x : X) → AllByRecursion P xs → best before xs ≡ Some x → P x
  holds_of P before xs x all e = subst (λ o. IfSome o P) e (holds_of_best P before None xs tt all)

  pub all_append : (P : X → Type 0) (xs ys : List X) → AllByRecursion P xs → AllByRecursion P ys → AllByRecursion P (xs ++ ys)
  all_append P [] ys a b = b
  all_append P (x ∷ xs) ys a b = (a.0, all_append P xs ys a.1 b)

  pub all_weaken : (P Q : X → Type 0) → ((x : X) → P x → Q x) → (xs : List X) → AllByRecursion P xs → AllByRecursion Q xs
  all_weaken P Q f [] a = tt
  all_weaken P Q f (x ∷ xs) a = (f x a.0, all_weaken P Q f xs a.1)

all_places_at : (P : Choice → Type 0) (node : ℕ) (there : List Address) (xs : List Assigned)
    → AllByRecursion (λ x. is_some x.node ≡ false → (s n : ℕ) → P (record { sum = s; address = x.address; node = n })) xs → AllByRecursion P (places_at node there xs)
unfolding places_at
all_places_at P node there [] h = tt
all_places_at P node there (x ∷ xs) h = by (is_some x.node) refl (all_places_at P node there xs h.1)
  where
    by : (t : Bool) → is_some x.node ≡ t → AllByRecursion P (places_at node there xs)
        → AllByRecursion P (if t then places_at node there xs else record { sum = sum_to x.address there; address = x.address; node = node } ∷ places_at node there xs)
    by true e more = more
    by false e more = (h.0 e (sum_to x.address there) node, more)

-- what holds of each address with no node, wherever it is placed, holds of each place
pub all_places : (P : Choice → Type 0) (able : List ℕ) (xs : List Assigned)
    → AllByRecursion (λ x. is_some x.node ≡ false → (s n : ℕ) → P (record { sum = s; address = x.address; node = n })) xs → AllByRecursion P (places able xs)
unfolding places
all_places P [] xs h = tt
all_places P (n ∷ ns) xs h = all_append P (places_at n (held n xs) xs) (places ns xs) (all_places_at P n (held n xs) xs h) (all_places P ns xs h)

all_failbacks_of : (P : Choice → Type 0) (target : ℕ) (here there bs : List Address)
    → AllByRecursion (λ a. may_fail_back a here there ≡ true → (s : ℕ) → P (record { sum = s; address = a; node = target })) bs → AllByRecursion P (failbacks_of target here there bs)
unfolding failbacks_of
all_failbacks_of P target here there [] h = tt
all_failbacks_of P target here there (a ∷ bs) h = by (may_fail_back a here there) refl (all_failbacks_of P target here there bs h.1)
  where
    by : (t : Bool) → may_fail_back a here there ≡ t → AllByRecursion P (failbacks_of target here there bs)
        → AllByRecursion P (if t then record { sum = imbalance (others a here) + imbalance (a ∷ there); address = a; node = target } ∷ failbacks_of target here there bs else failbacks_of target here there bs)
    by true e more = (h.0 e (imbalance (others a here) + imbalance (a ∷ there)), more)
    by false e more = more

-- what holds of each address at the source that may fail back to another node holds of each move
pub all_failbacks : (P : Choice → Type 0) (source : ℕ) (targets : List ℕ) (xs : List Assigned)
    → ((target : ℕ) → nat_eq target source ≡ false → AllByRecursion (λ a. may_fail_back a (held source xs) (held target xs) ≡ true → (s : ℕ) → P (record { sum = s; address = a; node = target })) (held source xs))
    → AllByRecursion P (failbacks source targets xs)
unfolding failbacks
all_failbacks P source [] xs h = tt
all_failbacks P source (n ∷ ns) xs h = by (nat_eq n source) refl (all_failbacks P source ns xs h)
  where
    by : (t : Bool) → nat_eq n source ≡ t → AllByRecursion P (failbacks source ns xs)
        → AllByRecursion P (if t then failbacks source ns xs else failbacks_of n (held source xs) (held n xs) (held source xs) ++ failbacks source ns xs)
    by true e more = more
    by false e more = all_append P (failbacks_of n (held source xs) (held n xs) (held source xs)) (failbacks source ns xs) (all_failbacks_of P n (held source xs) (held n xs) (held source xs) (h n e)) more

-- what holds of each move from a node holds of the sources with their best moves
pub all_sources : (P : Source → Type 0) (able targets : List ℕ) (xs : List Assigned)
    → ((node : ℕ) → AllByRecursion (λ c. P (record { imbalance = imbalance (held node xs); node = node; choice = c })) (failbacks node targets xs)) → AllByRecursion P (sources able targets xs)
unfolding sources
all_sources P [] targets xs h = tt
all_sources P (n ∷ ns) targets xs h =
    all_append P (source_of n (imbalance (held n xs)) (best choice_before (failbacks n targets xs))) (sources ns targets xs) (by (best choice_before (failbacks n targets xs)) refl) (all_sources P ns targets xs h)
  where
    by : (o : Option Choice) → best choice_before (failbacks n targets xs) ≡ o → AllByRecursion P (source_of n (imbalance (held n xs)) o)
    by None e = tt
    by (Some c) e = (holds_of (λ c. P (record { imbalance = imbalance (held n xs); node = n; choice = c })) choice_before (failbacks n targets xs) c (h n) e, tt)
