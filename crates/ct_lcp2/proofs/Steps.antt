-- The second and the third step, each of which comes to an end.
use Rattle.std.proofs.Common.{◌≡◌, ℕ, zero, suc, ◌+◌, ◌<◌, Bool, true, false, nat_lt, ◌&&◌, List, [], ◌∷◌, ◌++◌, Option, Some, None, refl, sym, ap, ◌∙◌, subst, arith}
use native.Mathlib.Nat.{le_refl}
use Rattle.std.specs.Prelude.{if◌then◌else◌, is_some, option_map, map, not, nat_eq, ◌||◌}
use Rattle.std.specs.List.{AllByRecursion}
use Rattle.std.specs.List.Sorted.{IsStrictlySortedBy}
use Rattle.ct_values.specs.Words.{is_nil}
use Rattle.ct_values.specs.Address.{address_cmp, same_address}
use Rattle.ct_values.specs.declared.address.Address.{Address}
use Rattle.ct_frame.specs.declared.frame.Assigned.{Assigned}
use Rattle.ct_lcp2.specs.Distance.{sum_to, imbalance}
use Rattle.ct_lcp2.specs.Best.{best, best_from}
use Rattle.ct_lcp2.specs.Placing.{Ascend, sent, moved, homeless, total, held, others, may_fail_back, failbacks, choice_before, source_before, places, sources, next_place, next_failback, one_placed, one_failed_back, filled, failed_back, repeated, if_some, vacated, targets_of, placement, placed, source_of, addresses, is_able, must_leave, freed, places_at, failbacks_of}
use Rattle.ct_lcp2.specs.Tallies.{Stands}
use Rattle.ct_lcp2.specs.declared.choice.Choice.{Choice}
use Rattle.ct_lcp2.specs.declared.choice.Source.{Source}
use Rattle.ct_lcp2.specs.declared.placement.Placement.{Placement}
use Rattle.ct_lcp2.proofs.Choices.{all_weaken, holds_of, all_places, all_failbacks, all_sources, all_append}
use Rattle.ct_lcp2.proofs.Repeats.{Falls, none_left, one_more, at_end}
use Rattle.ct_lcp2.proofs.Standing.{homeless_falls, addresses_sent, addresses_begun, Splits, all_split, total_falls}

one_value : (p q : Placement) → Some p ≡ Some q → p ≡ q
one_value p q e = cc

-- ---- addresses with no node

pub place_less : (able : List ℕ) (xs : List Assigned) (c : Choice) → next_place able xs ≡ Some c → homeless (sent c.address c.node xs) < homeless xs
place_less able xs c e =
    holds_of (λ d. homeless (sent d.address d.node xs) < homeless xs) choice_before (places able xs) c
    (all_places (λ d. homeless (sent d.address d.node xs) < homeless xs) able xs
    (all_weaken (λ x. is_some x.node ≡ false → (n : ℕ) → homeless (sent x.address n xs) < homeless xs) (λ x. is_some x.node ≡ false → (s n : ℕ) → homeless (sent x.address n xs) < homeless xs) (λ x h f s n. h f n) xs (homeless_falls xs)))
    e

-- each address stands where it stands
all_stand : (xs : List Assigned) → AllByRecursion (λ x. Stands xs x.address x.node) xs
all_stand [] = tt
all_stand (x ∷ xs) = (([], xs, refl), all_weaken (λ y. Stands xs y.address y.node) (λ y. Stands (x ∷ xs) y.address y.node) (λ y h. (x ∷ h.0, h.1, ap (λ ys. x ∷ ys) h.2)) xs (all_stand xs))

no_node : (o : Option ℕ) → is_some o ≡ false → o ≡ None
no_node None e = refl
no_node (Some n) e = absurd (cc)

-- the address that is picked has no node
pub place_stands : (able : List ℕ) (xs : List Assigned) (c : Choice) → next_place able xs ≡ Some c → Stands xs c.address None
place_stands able xs c e =
    holds_of (λ d. Stands xs d.address None) choice_before (places able xs) c
    (all_places (λ d. Stands xs d.address None) able xs
    (all_weaken (λ x. Stands xs x.address x.node) (λ x. is_some x.node ≡ false → (s n : ℕ) → Stands xs x.address None) (λ x h f s n. subst (Stands xs x.address) (no_node x.node f) h) xs (all_stand xs)))
    e

pub places_end : (able : List ℕ) → Falls (λ p. homeless p.at) (λ p. Unit {0}) (one_placed able)
places_end able = record { less = less; kept = λ p q g e. tt }
  where
    less : (p q : Placement) → Unit {0} → one_placed able p ≡ Some q → homeless q.at < homeless p.at
    less p q g e = by (next_place able p.at) refl e
      where
        by : (o : Option Choice) → next_place able p.at ≡ o → option_map (λ c. moved c.address None c.node p) o ≡ Some q → homeless q.at < homeless p.at
        by None h k = absurd (cc)
        by (Some c) h k = subst (λ r. homeless r.at < homeless p.at) (one_value _ q k) (place_less able p.at c h)

pub place_more : (able : List ℕ) (p q : Placement) (c : Choice) → next_place able p.at ≡ Some c → q ≡ moved c.address None c.node p → filled able q ≡ filled able p
place_more able p q c e is =
    one_more {size = λ r. homeless r.at} {Good = λ r. Unit {0}} {next = one_placed able} (places_end able) p q tt (ap (option_map (λ d. moved d.address None d.node p)) e ∙ ap (λ r. Some r) (sym is))

pub place_end : (able : List ℕ) (p : Placement) → next_place able p.at ≡ None → filled able p ≡ p
place_end able p e = at_end (one_placed able) (homeless p.at) p (ap (option_map (λ d. moved d.address None d.node p)) e)

-- ---- failback

both_hold : (a b c d : ℕ) → (nat_lt a b && nat_lt c d) ≡ true → c < d
both_hold a b c d h = by (nat_lt a b) (nat_lt c d) refl h
  where
    by : (s t : Bool) → nat_lt c d ≡ t → (s && t) ≡ true → c < d
    by true true e k = grind arith
    by true false e k = absurd (cc)
    by false t e k = absurd (cc)

pub failback_less : (able targets : List ℕ) (xs : List Assigned) (s : Source) → Ascend xs → next_failback able targets xs ≡ Some s → total (sent s.choice.address s.choice.node xs) < total xs
failback_less able targets xs s asc e =
    holds_of (λ r. total (sent r.choice.address r.choice.node xs) < total xs) source_before (sources able targets xs) s
    (all_sources (λ r. total (sent r.choice.address r.choice.node xs) < total xs) able targets xs (λ node.
    all_failbacks (λ c. total (sent c.address c.node xs) < total xs) node targets xs (λ target apart.
    all_weaken (Splits xs node) (λ a. may_fail_back a (held node xs) (held target xs) ≡ true → (n : ℕ) → total (sent a target xs) < total xs)
    (λ a split may n. total_falls xs node target a asc split apart (both_hold (imbalance (a ∷ held target xs)) (imbalance (held node xs)) (sum_to a (held target xs)) (sum_to a (others a (held node xs))) may))
    (held node xs) (all_split node xs))))
    e

-- the address that is picked stands at the source, and the target is another node
pub failback_stands : (able targets : List ℕ) (xs : List Assigned) (s : Source) → next_failback able targets xs ≡ Some s → Splits xs s.node s.choice.address × (nat_eq s.choice.node s.node ≡ false)
failback_stands able targets xs s e =
    holds_of (λ r. Splits xs r.node r.choice.address × (nat_eq r.choice.node r.node ≡ false)) source_before (sources able targets xs) s
    (all_sources (λ r. Splits xs r.node r.choice.address × (nat_eq r.choice.node r.node ≡ false)) able targets xs (λ node.
    all_failbacks (λ c. Splits xs node c.address × (nat_eq c.node node ≡ false)) node targets xs (λ target apart.
    all_weaken (Splits xs node) (λ a. may_fail_back a (held node xs) (held target xs) ≡ true → (n : ℕ) → Splits xs node a × (nat_eq target node ≡ false))
    (λ a split may n. (split, apart))
    (held node xs) (all_split node xs))))
    e

pub still_ascends : (a : Address) (n : ℕ) (xs : List Assigned) → Ascend xs → Ascend (sent a n xs)
still_ascends a n xs h = subst (IsStrictlySortedBy address_cmp) (sym (addresses_sent a n xs)) h

pub failbacks_end : (able targets : List ℕ) → Falls (λ p. total p.at) (λ p. Ascend p.at) (one_failed_back able targets)
failbacks_end able targets = record { less = less; kept = kept }
  where
    less : (p q : Placement) → Ascend p.at → one_failed_back able targets p ≡ Some q → total q.at < total p.at
    less p q g e = by (next_failback able targets p.at) refl e
      where
        by : (o : Option Source) → next_failback able targets p.at ≡ o → option_map (λ s. moved s.choice.address (Some s.node) s.choice.node p) o ≡ Some q → total q.at < total p.at
        by None h k = absurd (cc)
        by (Some s) h k = subst (λ r. total r.at < total p.at) (one_value _ q k) (failback_less able targets p.at s g h)

    kept : (p q : Placement) → Ascend p.at → one_failed_back able targets p ≡ Some q → Ascend q.at
    kept p q g e = by (next_failback able targets p.at) refl e
      where
        by : (o : Option Source) → next_failback able targets p.at ≡ o → option_map (λ s. moved s.choice.address (Some s.node) s.choice.node p) o ≡ Some q → Ascend q.at
        by None h k = absurd (cc)
        by (Some s) h k = subst (λ r. Ascend r.at) (one_value _ q k) (still_ascends s.choice.address s.choice.node p.at g)

pub failback_more : (able targets : List ℕ) (p q : Placement) (s : Source) → Ascend p.at → next_failback able targets p.at ≡ Some s → q ≡ moved s.choice.address (Some s.node) s.choice.node p
    → failed_back able targets q ≡ failed_back able targets p
failback_more able targets p q s asc e is =
    one_more {size = λ r. total r.at} {Good = λ r. Ascend r.at} {next = one_failed_back able targets} (failbacks_end able targets) p q asc
    (ap (option_map (λ r. moved r.choice.address (Some r.node) r.choice.node p)) e ∙ ap (λ r. Some r) (sym is))

pub failback_end : (able targets : List ℕ) (p : Placement) → next_failback able targets p.at ≡ None → failed_back able targets p ≡ p
failback_end able targets p e =
    at_end (one_failed_back able targets) (total p.at) p (ap (option_map (λ r. moved r.choice.address (Some r.node) r.choice.node p)) e)

-- ---- the whole

pub whole : (able able' : List ℕ) (given given' : List Assigned) (targets : List ℕ) (p q r : Placement) → able' ≡ able → given' ≡ given
    → targets ≡ targets_of able' given' → p ≡ vacated able' given' → q ≡ filled able' p → r ≡ failed_back able' targets q → r ≡ placement able given
unfolding placement
whole able able' given given' targets p q r ea eg et ep eq er =
    er ∙ ap (failed_back able' targets) eq ∙ ap (λ s. failed_back able' targets (filled able' s)) ep ∙ ap (λ ts. failed_back able' ts (filled able' (vacated able' given'))) et
    ∙ ap (λ ns. failed_back ns (targets_of ns given') (filled ns (vacated ns given'))) ea ∙ ap (λ xs. failed_back able (targets_of able xs) (filled able (vacated able xs))) eg

-- steps of the second kind keep the addresses in their order
filled_keeps : (n : ℕ) (able : List ℕ) (p : Placement) → Ascend p.at → Ascend (repeated n (one_placed able) p).at
unfolding repeated
filled_keeps zero able p h = h
filled_keeps (suc n) able p h = by (next_place able p.at) (λ q k. filled_keeps n able q k)
  where
    by : (o : Option Choice) → ((q : Placement) → Ascend q.at → Ascend (repeated n (one_placed able) q).at)
        → Ascend (if_some (option_map (λ c. moved c.address None c.node p) o) (repeated n (one_placed able)) p).at
    by None more = h
    by (Some c) more = more (moved c.address None c.node p) (still_ascends c.address c.node p.at h)

stays : {X : Type 0} (before : X → X → Bool) (b : X) (ys : List X) → best_from before (Some b) ys ≡ None → ⊥
unfolding best_from
stays before b [] k = cc
stays {X = X} before b (y ∷ ys) k = by (before y b) (λ c h. stays before c ys h) k
  where
    by : (t : Bool) → ((c : X) → best_from before (Some c) ys ≡ None → ⊥) → best_from before (if t then Some y else Some b) ys ≡ None → ⊥
    by true more h = more y h
    by false more h = more b h

none_is_best : {X : Type 0} (before : X → X → Bool) (xs : List X) → best before xs ≡ None → xs ≡ []
unfolding best_from
none_is_best before [] e = refl
none_is_best before (x ∷ xs) e = absurd (stays before x xs e)

no_step : {X : Type 0} (f : X → Placement) (o : Option X) → option_map f o ≡ None → o ≡ None
no_step f None e = refl
no_step f (Some x) e = absurd (cc)

-- after the second step no address could be placed any more
pub all_placed : (able : List ℕ) (p : Placement) → places able (filled able p).at ≡ []
all_placed able p =
    none_is_best choice_before (places able (filled able p).at)
    (no_step (λ c. moved c.address None c.node (filled able p)) (next_place able (filled able p).at)
    (none_left {size = λ r. homeless r.at} {Good = λ r. Unit {0}} {next = one_placed able} (places_end able) (homeless p.at) p tt (le_refl (homeless p.at))))

parts_empty : {X : Type 0} (xs ys : List X) → xs ++ ys ≡ [] → (xs ≡ []) × (ys ≡ [])
parts_empty [] ys e = (refl, e)
parts_empty (x ∷ xs) ys e = absurd (cc)

no_source : (node weight : ℕ) (o : Option Choice) → source_of node weight o ≡ [] → o ≡ None
no_source node weight None e = refl
no_source node weight (Some c) e = absurd (cc)

none_moves : (able targets : List ℕ) (xs : List Assigned) → sources able targets xs ≡ [] → AllByRecursion (λ node. failbacks node targets xs ≡ []) able
unfolding sources
none_moves [] targets xs e = tt
none_moves (n ∷ ns) targets xs e =
    let parts = parts_empty (source_of n (imbalance (held n xs)) (best choice_before (failbacks n targets xs))) (sources ns targets xs) e in
    (none_is_best choice_before (failbacks n targets xs) (no_source n (imbalance (held n xs)) (best choice_before (failbacks n targets xs)) parts.0), none_moves ns targets xs parts.1)

-- after the third step no address may fail back
pub all_failed_back : (able : List ℕ) (given : List Assigned) → Ascend given → AllByRecursion (λ node. failbacks node (targets_of able given) (placed able given) ≡ []) able
unfolding placement
all_failed_back able given h =
    let p = filled able (vacated able given) in
    let q = failed_back able (targets_of able given) p in
    let asc : Ascend p.at = filled_keeps (homeless (vacated able given).at) able (vacated able given) (subst (IsStrictlySortedBy address_cmp) (sym (addresses_begun able given)) h) in
    none_moves able (targets_of able given) q.at (none_is_best source_before (sources able (targets_of able given) q.at)
    (no_step (λ s. moved s.choice.address (Some s.node) s.choice.node q) (next_failback able (targets_of able given) q.at)
    (none_left {size = λ r. total r.at} {Good = λ r. Ascend r.at} {next = one_failed_back able (targets_of able given)} (failbacks_end able (targets_of able given)) (total p.at) p asc (le_refl (total p.at)))))

-- ---- the addresses stay

kept_by : (next : Placement → Option Placement) → ((p q : Placement) → next p ≡ Some q → addresses q.at ≡ addresses p.at) → (n : ℕ) (p : Placement) → addresses (repeated n next p).at ≡ addresses p.at
unfolding repeated
kept_by next f zero p = refl
kept_by next f (suc n) p = by (next p) refl (λ q. kept_by next f n q)
  where
    by : (o : Option Placement) → next p ≡ o → ((q : Placement) → addresses (repeated n next q).at ≡ addresses q.at) → addresses (if_some o (repeated n next) p).at ≡ addresses p.at
    by None e more = refl
    by (Some q) e more = more q ∙ f p q e

place_keeps : (able : List ℕ) (p q : Placement) → one_placed able p ≡ Some q → addresses q.at ≡ addresses p.at
place_keeps able p q e = by (next_place able p.at) e
  where
    by : (o : Option Choice) → option_map (λ c. moved c.address None c.node p) o ≡ Some q → addresses q.at ≡ addresses p.at
    by None k = absurd (cc)
    by (Some c) k = subst (λ r. addresses r.at ≡ addresses p.at) (one_value _ q k) (addresses_sent c.address c.node p.at)

failback_keeps : (able targets : List ℕ) (p q : Placement) → one_failed_back able targets p ≡ Some q → addresses q.at ≡ addresses p.at
failback_keeps able targets p q e = by (next_failback able targets p.at) e
  where
    by : (o : Option Source) → option_map (λ s. moved s.choice.address (Some s.node) s.choice.node p) o ≡ Some q → addresses q.at ≡ addresses p.at
    by None k = absurd (cc)
    by (Some s) k = subst (λ r. addresses r.at ≡ addresses p.at) (one_value _ q k) (addresses_sent s.choice.address s.choice.node p.at)

pub same_addresses : (able : List ℕ) (given : List Assigned) → addresses (placed able given) ≡ addresses given
unfolding placement
same_addresses able given =
    let start = vacated able given in
    let p = filled able start in
    kept_by (one_failed_back able (targets_of able given)) (failback_keeps able (targets_of able given)) (total p.at) p
    ∙ kept_by (one_placed able) (place_keeps able) (homeless start.at) start
    ∙ addresses_begun able given

-- ---- only able nodes hold addresses

-- no address stands at a node that is not able
abbrev pub Able : List ℕ → List Assigned → Type 0
Able able xs = AllByRecursion (λ x. must_leave able x.node ≡ false) xs

freed_able : (able : List ℕ) (xs : List Assigned) → Able able (map (freed able) xs)
freed_able able [] = tt
freed_able able (x ∷ xs) = (by (must_leave able x.node) refl, freed_able able xs)
  where
    by : (t : Bool) → must_leave able x.node ≡ t → must_leave able (if t then record { address = x.address; node = None } else x).node ≡ false
    by true e = refl
    by false e = e

sent_able : (able : List ℕ) (a : Address) (n : ℕ) (xs : List Assigned) → is_able able n ≡ true → Able able xs → Able able (sent a n xs)
sent_able able a n [] e h = tt
sent_able able a n (x ∷ xs) e h = (by (same_address a x.address), sent_able able a n xs e h.1)
  where
    by : (t : Bool) → must_leave able (if t then record { address = x.address; node = Some n } else x).node ≡ false
    by true = ap not e
    by false = h.0

abbrev pub AllAble : List ℕ → List ℕ → Type 0
AllAble able ns = AllByRecursion (λ n. is_able able n ≡ true) ns

all_able : (able ns : List ℕ) → AllAble ns ns
all_able able [] = tt
all_able able (n ∷ ns) = (itself, all_weaken (λ m. is_able ns m ≡ true) (λ m. is_able (n ∷ ns) m ≡ true) (λ m h. more m h) ns (all_able able ns))
  where
    itself : (nat_eq n n || is_able ns n) ≡ true
    itself = let e : nat_eq n n ≡ true = grind arith in ap (λ t. t || is_able ns n) e

    more : (m : ℕ) → is_able ns m ≡ true → (nat_eq m n || is_able ns m) ≡ true
    more m h = by (nat_eq m n)
      where
        by : (t : Bool) → (t || is_able ns m) ≡ true
        by true = refl
        by false = h

places_at_able : (able : List ℕ) (node : ℕ) (there : List Address) (xs : List Assigned) → is_able able node ≡ true → AllByRecursion (λ c. is_able able c.node ≡ true) (places_at node there xs)
unfolding places_at
places_at_able able node there [] e = tt
places_at_able able node there (x ∷ xs) e = by (is_some x.node) (places_at_able able node there xs e)
  where
    by : (t : Bool) → AllByRecursion (λ c. is_able able c.node ≡ true) (places_at node there xs)
        → AllByRecursion (λ c. is_able able c.node ≡ true) (if t then places_at node there xs else record { sum = sum_to x.address there; address = x.address; node = node } ∷ places_at node there xs)
    by true h = h
    by false h = (e, h)

places_able : (able ns : List ℕ) (xs : List Assigned) → AllAble able ns → AllByRecursion (λ c. is_able able c.node ≡ true) (places ns xs)
unfolding places
places_able able [] xs h = tt
places_able able (n ∷ ns) xs h = all_append (λ c. is_able able c.node ≡ true) (places_at n (held n xs) xs) (places ns xs) (places_at_able able n (held n xs) xs h.0) (places_able able ns xs h.1)

failbacks_of_able : (able : List ℕ) (target : ℕ) (here there bs : List Address) → is_able able target ≡ true → AllByRecursion (λ c. is_able able c.node ≡ true) (failbacks_of target here there bs)
unfolding failbacks_of
failbacks_of_able able target here there [] e = tt
failbacks_of_able able target here there (a ∷ bs) e = by (may_fail_back a here there) (failbacks_of_able able target here there bs e)
  where
    by : (t : Bool) → AllByRecursion (λ c. is_able able c.node ≡ true) (failbacks_of target here there bs)
        → AllByRecursion (λ c. is_able able c.node ≡ true) (if t then record { sum = imbalance (others a here) + imbalance (a ∷ there); address = a; node = target } ∷ failbacks_of target here there bs else failbacks_of target here there bs)
    by true h = (e, h)
    by false h = h

failbacks_able : (able : List ℕ) (source : ℕ) (targets : List ℕ) (xs : List Assigned) → AllAble able targets → AllByRecursion (λ c. is_able able c.node ≡ true) (failbacks source targets xs)
unfolding failbacks
failbacks_able able source [] xs h = tt
failbacks_able able source (n ∷ ns) xs h = by (nat_eq n source) (failbacks_able able source ns xs h.1)
  where
    by : (t : Bool) → AllByRecursion (λ c. is_able able c.node ≡ true) (failbacks source ns xs)
        → AllByRecursion (λ c. is_able able c.node ≡ true) (if t then failbacks source ns xs else failbacks_of n (held source xs) (held n xs) (held source xs) ++ failbacks source ns xs)
    by true k = k
    by false k = all_append (λ c. is_able able c.node ≡ true) (failbacks_of n (held source xs) (held n xs) (held source xs)) (failbacks source ns xs) (failbacks_of_able able n (held source xs) (held n xs) (held source xs) h.0) k

targets_able : (able ns : List ℕ) (given : List Assigned) → AllAble able ns → AllAble able (targets_of ns given)
targets_able able [] given h = tt
targets_able able (n ∷ ns) given h = by (is_nil (held n given)) (targets_able able ns given h.1)
  where
    by : (t : Bool) → AllAble able (targets_of ns given) → AllAble able (if t then n ∷ targets_of ns given else targets_of ns given)
    by true k = (h.0, k)
    by false k = k

repeats_keep : (Good : Placement → Type 0) (next : Placement → Option Placement) → ((p q : Placement) → Good p → next p ≡ Some q → Good q) → (n : ℕ) (p : Placement) → Good p → Good (repeated n next p)
unfolding repeated
repeats_keep Good next f zero p g = g
repeats_keep Good next f (suc n) p g = by (next p) refl (λ q h. repeats_keep Good next f n q h)
  where
    by : (o : Option Placement) → next p ≡ o → ((q : Placement) → Good q → Good (repeated n next q)) → Good (if_some o (repeated n next) p)
    by None e more = g
    by (Some q) e more = more q (f p q g e)

place_able : (able : List ℕ) (p q : Placement) → Able able p.at → one_placed able p ≡ Some q → Able able q.at
place_able able p q g e = by (next_place able p.at) refl e
  where
    by : (o : Option Choice) → next_place able p.at ≡ o → option_map (λ c. moved c.address None c.node p) o ≡ Some q → Able able q.at
    by None h k = absurd (cc)
    by (Some c) h k =
        subst (λ r. Able able r.at) (one_value _ q k)
        (sent_able able c.address c.node p.at (holds_of (λ d. is_able able d.node ≡ true) choice_before (places able p.at) c (places_able able able p.at (all_able able able)) h) g)

failback_able : (able targets : List ℕ) → AllAble able targets → (p q : Placement) → Able able p.at → one_failed_back able targets p ≡ Some q → Able able q.at
failback_able able targets t p q g e = by (next_failback able targets p.at) refl e
  where
    by : (o : Option Source) → next_failback able targets p.at ≡ o → option_map (λ s. moved s.choice.address (Some s.node) s.choice.node p) o ≡ Some q → Able able q.at
    by None h k = absurd (cc)
    by (Some s) h k =
        subst (λ r. Able able r.at) (one_value _ q k)
        (sent_able able s.choice.address s.choice.node p.at
        (holds_of (λ r. is_able able r.choice.node ≡ true) source_before (sources able targets p.at) s
        (all_sources (λ r. is_able able r.choice.node ≡ true) able targets p.at (λ node. failbacks_able able node targets p.at t)) h) g)

pub placed_able : (able : List ℕ) (given : List Assigned) → Able able (placed able given)
unfolding placement
placed_able able given =
    let start = vacated able given in
    let p = filled able start in
    repeats_keep (λ r. Able able r.at) (one_failed_back able (targets_of able given)) (failback_able able (targets_of able given) (targets_able able able given (all_able able able))) (total p.at) p
    (repeats_keep (λ r. Able able r.at) (one_placed able) (place_able able) (homeless start.at) start (freed_able able given))
