-- Running sums before and after a move.
use Rattle.std.proofs.Common.{◌≡◌, ℕ, suc, ◌+◌, ◌-◌, ◌<◌, ◌≤◌, Bool, true, false, nat_eq, List, [], ◌∷◌, ◌++◌, length, get_or, Option, Some, None, Fits, w64, drop, drop-cons, take, set, add-one, refl, sym, ap, ◌∙◌, subst, arith}
use Rattle.std.specs.Prelude.{if◌then◌else◌, map}
use Rattle.std.proofs.lemmas.List.{get_or-map}
use Rattle.std.proofs.lemmas.List.{append_assoc, get_or-append_right, length-map, length-take-le, map-append, set-append_right, take_more}
use Rattle.ct_values.proofs.AddressOrder.{same_itself}
use Rattle.ct_values.specs.Words.{is_this_node}
use Rattle.ct_values.specs.Address.{same_address}
use Rattle.ct_values.specs.declared.address.Address.{Address}
use Rattle.ct_frame.specs.declared.frame.Assigned.{Assigned}
use Rattle.ct_lcp2.specs.Distance.{squared, sum_to, imbalance}
use Rattle.ct_lcp2.specs.Placing.{Ascend, held, next_failback, next_place, sent}
use Rattle.ct_lcp2.specs.Tallies.{sums_to, sums_less, tally, tallied, nodes, Stands}
use Rattle.ct_lcp2.specs.declared.choice.Choice.{Choice}
use Rattle.ct_lcp2.specs.declared.choice.Source.{Source}
use Rattle.ct_lcp2.specs.declared.tally.Tally.{Tally}
use Rattle.ct_lcp2.proofs.Distances.{sum_within, imbalance_within, squared_within}
use Rattle.ct_lcp2.proofs.Standing.{Away, sum_to_insert, imbalance_insert, held_length, held_append, sent_away, away_from}

-- ---- who is at a node, before and after an address went

sent_there : (a : Address) (o : Option ℕ) (t : ℕ) (pre post : List Assigned) → Away a pre → Away a post
    → sent a t (pre ++ record { address = a; node = o } ∷ post) ≡ pre ++ record { address = a; node = Some t } ∷ post
sent_there a o t [] post hp hq =
    ap (λ b. (if b then record { address = a; node = Some t } else record { address = a; node = o }) ∷ sent a t post) (same_itself a) ∙ ap (λ ys. record { address = a; node = Some t } ∷ ys) (sent_away a t post hq)
sent_there a o t (x ∷ pre) post hp hq =
    ap (λ b. (if b then record { address = x.address; node = Some t } else x) ∷ sent a t (pre ++ record { address = a; node = o } ∷ post)) hp.0 ∙ ap (λ ys. x ∷ ys) (sent_there a o t pre post hp.1 hq)

pub held_with : (m : ℕ) (a : Address) (o : Option ℕ) (pre post : List Assigned) → is_this_node m o ≡ true → held m (pre ++ record { address = a; node = o } ∷ post) ≡ held m pre ++ a ∷ held m post
unfolding held
held_with m a o pre post e = held_append m pre (record { address = a; node = o } ∷ post) ∙ ap (λ b. held m pre ++ (if b then a ∷ held m post else held m post)) e

held_without : (m : ℕ) (a : Address) (o : Option ℕ) (pre post : List Assigned) → is_this_node m o ≡ false → held m (pre ++ record { address = a; node = o } ∷ post) ≡ held m pre ++ held m post
unfolding held
held_without m a o pre post e = held_append m pre (record { address = a; node = o } ∷ post) ∙ ap (λ b. held m pre ++ (if b then a ∷ held m post else held m post)) e

pub at_some : (m n : ℕ) (t : Bool) → nat_eq n m ≡ t → is_this_node m (Some n) ≡ t
unfolding is_this_node
at_some m n t e = e

pub at_none : (m : ℕ) → is_this_node m None ≡ false
unfolding is_this_node
at_none m = refl

pub at_other : (m n : ℕ) → nat_eq m n ≡ false → is_this_node m (Some n) ≡ false
at_other m n e = at_some m n false (grind arith)

-- sums that change alike, over placements with the same addresses
kept_sums : (a : Address) (t : ℕ) (f g : Address → ℕ) → ((b : Address) → f b ≡ g b) → (xs : List Assigned) → map (λ x. f x.address) xs ≡ map (λ x. g x.address) (sent a t xs)
kept_sums a t f g e [] = refl
kept_sums a t f g e (x ∷ xs) = by (same_address a x.address) (kept_sums a t f g e xs)
  where
    by : (s : Bool) → map (λ x. f x.address) xs ≡ map (λ x. g x.address) (sent a t xs)
        → f x.address ∷ map (λ x. f x.address) xs ≡ map (λ x. g x.address) ((if s then record { address = x.address; node = Some t } else x) ∷ sent a t xs)
    by true h = ap (λ n. n ∷ map (λ x. f x.address) xs) (e x.address) ∙ ap (λ ns. g x.address ∷ ns) h
    by false h = ap (λ n. n ∷ map (λ x. f x.address) xs) (e x.address) ∙ ap (λ ns. g x.address ∷ ns) h

one_tally : (n i j : ℕ) (s r : List ℕ) → i ≡ j → s ≡ r → ◌≡◌ {A = Tally} (record { node = n; imbalance = i; sums = s }) (record { node = n; imbalance = j; sums = r })
one_tally n i j s r e h = ap (λ k. record { node = n; imbalance = k; sums = s }) e ∙ ap (λ q. record { node = n; imbalance = j; sums = q }) h

-- those at a node before and after an address went to t
module _ (xs : List Assigned) (a : Address) (o : Option ℕ) (t : ℕ) (asc : Ascend xs) (stands : Stands xs a o) (n : ℕ) where
  went : sent a t xs ≡ stands.0 ++ record { address = a; node = Some t } ∷ stands.1
  went = let away = away_from a o stands.0 stands.1 (subst Ascend stands.2 asc) in ap (sent a t) stands.2 ∙ sent_there a o t stands.0 stands.1 away.0 away.1

  before_with : is_this_node n o ≡ true → held n xs ≡ held n stands.0 ++ a ∷ held n stands.1
  before_with e = ap (held n) stands.2 ∙ held_with n a o stands.0 stands.1 e

  before_without : is_this_node n o ≡ false → held n xs ≡ held n stands.0 ++ held n stands.1
  before_without e = ap (held n) stands.2 ∙ held_without n a o stands.0 stands.1 e

  after_with : nat_eq t n ≡ true → held n (sent a t xs) ≡ held n stands.0 ++ a ∷ held n stands.1
  after_with e = ap (held n) went ∙ held_with n a (Some t) stands.0 stands.1 (at_some n t true e)

  after_without : nat_eq t n ≡ false → held n (sent a t xs) ≡ held n stands.0 ++ held n stands.1
  after_without e = ap (held n) went ∙ held_without n a (Some t) stands.0 stands.1 (at_some n t false e)

  more_there : is_this_node n o ≡ false → nat_eq t n ≡ true → (b : Address) → sum_to b (a ∷ held n xs) ≡ sum_to b (held n (sent a t xs))
  unfolding sum_to
  more_there e d b = ap (λ l. sum_to b (a ∷ l)) (before_without e) ∙ sym (sum_to_insert b a (held n stands.0) (held n stands.1)) ∙ sym (ap (sum_to b) (after_with d))

  less_there : is_this_node n o ≡ true → nat_eq t n ≡ false → (b : Address) → sum_to b (held n xs) - squared b a ≡ sum_to b (held n (sent a t xs))
  less_there e d b =
      let i = ap (sum_to b) (before_with e) ∙ sum_to_insert b a (held n stands.0) (held n stands.1) in
      let j = ap (sum_to b) (after_without d) in
      omega (arith, i, j)

  -- the target has one more
  pub joined : (sum weight : ℕ) (sums : List ℕ) → is_this_node n o ≡ false → nat_eq t n ≡ true → sum ≡ sum_to a (held n xs) → weight ≡ imbalance (held n xs) → sums ≡ sums_to (a ∷ held n xs) xs
      → ◌≡◌ {A = Tally} (record { node = n; imbalance = sum + weight; sums = sums }) (tally (sent a t xs) n)
  joined sum weight sums e d s w is =
      one_tally n (sum + weight) (imbalance (held n (sent a t xs))) sums (sums_to (held n (sent a t xs)) (sent a t xs))
      (ap (λ k. k + weight) s ∙ ap (λ k. sum_to a (held n xs) + k) w ∙ ap (λ l. sum_to a l + imbalance l) (before_without e) ∙ sym (imbalance_insert a (held n stands.0) (held n stands.1)) ∙ sym (ap imbalance (after_with d)))
      (is ∙ kept_sums a t (λ b. sum_to b (a ∷ held n xs)) (λ b. sum_to b (held n (sent a t xs))) (more_there e d) xs)

  -- the source has one fewer
  pub left : (weight sum square own less : ℕ) (sums : List ℕ) → is_this_node n o ≡ true → nat_eq t n ≡ false → sum ≡ sum_to a (held n xs) → square ≡ squared a a → own ≡ sum - square → less ≡ weight - own → weight ≡ imbalance (held n xs) → sums ≡ sums_less a (held n xs) xs
      → ◌≡◌ {A = Tally} (record { node = n; imbalance = less; sums = sums }) (tally (sent a t xs) n)
  left weight sum square own less sums e d s q f g w is =
      one_tally n less (imbalance (held n (sent a t xs))) sums (sums_to (held n (sent a t xs)) (sent a t xs)) lighter
      (is ∙ kept_sums a t (λ b. sum_to b (held n xs) - squared b a) (λ b. sum_to b (held n (sent a t xs))) (less_there e d) xs)
    where
      lighter : less ≡ imbalance (held n (sent a t xs))
      lighter =
          let i = ap (sum_to a) (before_with e) ∙ sum_to_insert a a (held n stands.0) (held n stands.1) in
          let j = ap imbalance (before_with e) ∙ imbalance_insert a (held n stands.0) (held n stands.1) in
          let k = ap imbalance (after_without d) in
          omega (arith, i, j, k, s, q, f, g, w)

  -- another node has the same
  pub stayed : (x : Tally) → is_this_node n o ≡ false → nat_eq t n ≡ false → x ≡ tally xs n → x ≡ tally (sent a t xs) n
  stayed x e d is =
      is
      ∙ (let h : held n xs ≡ held n (sent a t xs) = before_without e ∙ sym (after_without d) in
      one_tally n (imbalance (held n xs)) (imbalance (held n (sent a t xs))) (sums_to (held n xs) xs) (sums_to (held n (sent a t xs)) (sent a t xs)) (ap imbalance h)
      (kept_sums a t (λ b. sum_to b (held n xs)) (λ b. sum_to b (held n (sent a t xs))) (λ b. ap (sum_to b) h) xs))

-- ---- sums fit

pub weight_fits : (n : ℕ) (xs : List Assigned) (a : Address) (sum weight : ℕ) → length xs ≤ 256 → sum ≡ sum_to a (held n xs) → weight ≡ imbalance (held n xs) → Fits w64 (sum + weight)
weight_fits n xs a sum weight few s w =
    let l = held_length n xs in
    let i = sum_within a (held n xs) in
    let j = imbalance_within (held n xs) 256 (omega (arith, l, few)) in
    omega (arith, few, l, i, j, s, w)

pub sum_fits : (n : ℕ) (xs : List Assigned) (a b : Address) (sum new : ℕ) → length xs ≤ 256 → sum ≡ sum_to b (held n xs) → new ≡ squared b a → Fits w64 (new + sum)
sum_fits n xs a b sum new few s w =
    let l = held_length n xs in
    let i = sum_within b (held n xs) in
    let j = squared_within b a in
    omega (arith, few, l, i, j, s, w)

-- ---- lists that are made one by one

in_front : {X : Type 0} (f : X → ℕ) (xs : List X) (i : ℕ) → i < length xs → length (map f (take i xs)) ≡ i
in_front f xs i h = length-map (take i xs) f ∙ length-take-le i xs (omega (arith, h))

-- what is read past the end of a placement
pub sum_at : (there : List Address) (xs : List Assigned) (sums : List ℕ) (i : ℕ) (d : Assigned) → sums ≡ sums_to there xs → i < length xs → get_or sums i 0 ≡ sum_to (get_or xs i d).address there
sum_at there xs sums i d e h = ap (λ l. get_or l i 0) e ∙ get_or-map (λ x. sum_to x.address there) xs i d 0 h

pub pushed : {X Y : Type 0} (f : X → Y) (xs : List X) (i : ℕ) (d : X) (made more : List Y) (v : Y) → i < length xs → v ≡ f (get_or xs i d) → more ≡ made ++ v ∷ []
    → made ++ map f (drop i xs) ≡ map f xs → more ++ map f (drop (i + 1) xs) ≡ map f xs
pushed f xs i d made more v h is e k =
    ap (λ j. more ++ map f (drop j xs)) (add-one i)
    ∙ ap (λ l. l ++ map f (drop (suc i) xs)) e
    ∙ append_assoc made (v ∷ []) (map f (drop (suc i) xs))
    ∙ ap (λ y. made ++ y ∷ map f (drop (suc i) xs)) is
    ∙ ap (λ l. made ++ map f l) (sym (drop-cons xs i d h))
    ∙ k

-- a list that is changed in its place: what is read next, and one item more
pub unchanged : {X : Type 0} (f g : X → ℕ) (xs : List X) (i : ℕ) (d : X) (ys : List ℕ) (e : ℕ) → i < length xs → ys ≡ map f (take i xs) ++ map g (drop i xs) → get_or ys i e ≡ g (get_or xs i d)
unchanged f g xs i d ys e h k =
    let none : i - i ≡ 0 = omega arith in
    ap (λ l. get_or l i e) (k ∙ ap (λ l. map f (take i xs) ++ map g l) (drop-cons xs i d h))
    ∙ get_or-append_right (map f (take i xs)) (g (get_or xs i d) ∷ map g (drop (suc i) xs)) i i e (in_front f xs i h) (omega arith)
    ∙ ap (λ j. get_or (g (get_or xs i d) ∷ map g (drop (suc i) xs)) j e) none

pub changed : {X : Type 0} (f g : X → ℕ) (xs : List X) (i : ℕ) (d : X) (ys more : List ℕ) (v : ℕ) → i < length xs → v ≡ f (get_or xs i d) → more ≡ set ys i v → ys ≡ map f (take i xs) ++ map g (drop i xs)
    → more ≡ map f (take (i + 1) xs) ++ map g (drop (i + 1) xs)
changed f g xs i d ys more v h is e k =
    let front = map f (take i xs) in
    let rest = map g (drop (suc i) xs) in
    let none : i - i ≡ 0 = omega arith in
    e ∙ ap (λ l. set l i v) (k ∙ ap (λ l. front ++ map g l) (drop-cons xs i d h))
    ∙ set-append_right front (g (get_or xs i d) ∷ rest) i i v (in_front f xs i h) (omega arith)
    ∙ ap (λ j. front ++ set (g (get_or xs i d) ∷ rest) j v) none
    ∙ ap (λ w. front ++ w ∷ rest) is
    ∙ sym (append_assoc front (f (get_or xs i d) ∷ []) rest)
    ∙ ap (λ l. l ++ rest) (sym (map-append f (take i xs) (get_or xs i d ∷ [])) ∙ ap (map f) (sym (take_more xs i d h)))
    ∙ ap (λ j. map f (take (i + 1) xs) ++ map g (drop j xs)) (sym (add-one i))

-- a part of the sum to those at a node
pub held_part_fits : (n : ℕ) (xs : List Assigned) (i : ℕ) (d : Assigned) (a : Address) (sum new : ℕ) → length xs ≤ 256 → i < length xs → is_this_node n (get_or xs i d).node ≡ true
    → new ≡ squared a (get_or xs i d).address → sum + sum_to a (held n (drop i xs)) ≡ sum_to a (held n xs) → Fits w64 (sum + new)
unfolding held sum_to
held_part_fits n xs i d a sum new few h here is e =
    let l = held_length n xs in
    let k = sum_within a (held n xs) in
    let j : sum_to a (held n (drop i xs)) ≡ squared a (get_or xs i d).address + sum_to a (held n (drop (suc i) xs)) =
    ap (λ ys. sum_to a (held n ys)) (drop-cons xs i d h) ∙ ap (λ b. sum_to a (if b then (get_or xs i d).address ∷ held n (drop (suc i) xs) else held n (drop (suc i) xs))) here in
    omega (arith, few, l, k, j, is, e)

pub one_more : (there : List Address) (b a : Address) (new sum : ℕ) → new ≡ squared b a → sum ≡ sum_to b there → new + sum ≡ sum_to b (a ∷ there)
unfolding sum_to
one_more there b a new sum e h = omega (arith, e, h)

-- ---- the tallies of nodes

pub nodes_tallied : (xs : List Assigned) (ns : List ℕ) → nodes (map (tally xs) ns) ≡ ns
nodes_tallied xs [] = refl
nodes_tallied xs (n ∷ ns) = ap (λ ms. n ∷ ms) (nodes_tallied xs ns)

pub tallied_again : (xs ys : List Assigned) (ns : List ℕ) → tallied ys (map (tally xs) ns) ≡ map (tally ys) ns
tallied_again xs ys [] = refl
tallied_again xs ys (n ∷ ns) = ap (λ ts. tally ys n ∷ ts) (tallied_again xs ys ns)

pub true_tallies : (xs at : List Assigned) (ns : List ℕ) (ts : List Tally) → at ≡ xs → ts ≡ map (tally xs) ns → ts ≡ tallied at ts
true_tallies xs at ns ts h e = e ∙ ap (λ ys. map (tally ys) ns) (sym h) ∙ sym (tallied_again xs at ns) ∙ ap (tallied at) (sym e)

-- what they are after a move are those of the placement after it
pub next_tallies : (xs at ys : List Assigned) (ns : List ℕ) (ts us : List Tally) (a : Address) (t : ℕ) → ts ≡ map (tally xs) ns → at ≡ xs → us ≡ tallied (sent a t at) ts → ys ≡ sent a t xs → us ≡ map (tally ys) ns
next_tallies xs at ys ns ts us a t e h is moved = is ∙ ap (tallied (sent a t at)) e ∙ tallied_again xs (sent a t at) ns ∙ ap (λ l. map (tally (sent a t l)) ns) h ∙ ap (λ l. map (tally l) ns) (sym moved)

-- the first place by the tallies is that by the nodes
pub first_place : (able : List ℕ) (xs at : List Assigned) (ts : List Tally) (o : Option Choice) → at ≡ xs → ts ≡ map (tally xs) able → o ≡ next_place (nodes ts) at → next_place able xs ≡ o
first_place able xs at ts o h e is = sym (ap (λ l. next_place l xs) (ap nodes e ∙ nodes_tallied xs able)) ∙ ap (next_place (nodes ts)) (sym h) ∙ sym is

-- the first source by the tallies is that by the nodes
pub first_source : (able targets : List ℕ) (xs at : List Assigned) (f t : List Tally) (o : Option Source) → at ≡ xs → f ≡ map (tally xs) able → t ≡ map (tally xs) targets
    → o ≡ next_failback (nodes f) (nodes t) at → next_failback able targets xs ≡ o
first_source able targets xs at f t o h ef et is =
    sym (ap (λ l. next_failback l targets xs) (ap nodes ef ∙ nodes_tallied xs able)) ∙ sym (ap (λ l. next_failback (nodes f) l xs) (ap nodes et ∙ nodes_tallied xs targets)) ∙ ap (next_failback (nodes f) (nodes t)) (sym h) ∙ sym is

pub item_tally : (xs : List Assigned) (ts : List Tally) (i : ℕ) (one : Tally) → ts ≡ tallied xs ts → i < length ts → one ≡ get_or ts i one → one ≡ tally xs one.node
item_tally xs ts i one e h at = at ∙ ap (λ l. get_or l i one) e ∙ get_or-map (λ t. tally xs t.node) ts i one one h ∙ ap (λ t. tally xs t.node) (sym at)
