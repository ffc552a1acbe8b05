-- One more address, target or node in the loops of failback.
use Rattle.std.proofs.Common.{◌≡◌, ℕ, suc, ◌+◌, ◌-◌, ◌<◌, ◌≤◌, Bool, true, false, nat_eq, nat_lt, ◌&&◌, List, [], ◌∷◌, ◌++◌, length, get_or, take, drop, drop-cons, add-one, Option, Some, None, refl, sym, ap, ◌∙◌, subst, arith}
use Rattle.std.specs.Prelude.{if◌then◌else◌, map, not, ◌||◌, ◌==◌, is_some}
use Rattle.std.specs.List.Sorted.{IsStrictlySortedBy}
use Rattle.std.proofs.lemmas.List.{append_assoc, map-append, take-append-drop}
use Rattle.std.proofs.lemmas.List.Elements.{All-get_or}
use Rattle.std.proofs.lemmas.Bool.{and_right, and_left, and_from, le-ltb, lt-ltb}
use Rattle.ct_values.specs.Address.{address_before, address_cmp, same_address}
use Rattle.ct_values.specs.declared.address.Address.{Address}
use Rattle.ct_values.specs.Words.{is_this_node}
use Rattle.ct_values.proofs.Words.{this_node_is}
use Rattle.ct_frame.specs.declared.frame.Assigned.{Assigned}
use Rattle.ct_lcp2.specs.Distance.{squared, sum_to, imbalance}
use Rattle.ct_lcp2.specs.Best.{better, best_from, best}
use Rattle.ct_lcp2.specs.Leavers.{AreLeavers, IsLeaver, address_at, unplaced, is_beaten, is_behind}
use Rattle.ct_lcp2.specs.Placing.{Ascend, held, places, places_at, others, may_fail_back, failbacks_of, failbacks, choice_before, source_before, source_of, sources, with_source}
use Rattle.ct_lcp2.specs.declared.choice.Choice.{Choice}
use Rattle.ct_lcp2.specs.declared.choice.Source.{Source}
use Rattle.ct_lcp2.specs.declared.leaver.Leaver.{Leaver}
use Rattle.ct_lcp2.proofs.Choices.{best_from_append}
use Rattle.ct_lcp2.specs.Tallies.{Stands, nodes}
use Rattle.ct_lcp2.specs.declared.tally.Tally.{Tally}
use Rattle.ct_lcp2.proofs.Standing.{left_behind, all_held, away_from, held_ascends, others_split, sum_to_insert}
use Rattle.ct_lcp2.proofs.Tallies.{held_with, at_some}

-- of an address at a node: its sum to the others there, and what it leaves behind
module _ (xs : List Assigned) (s i : ℕ) (d : Assigned) (asc : Ascend xs) (within : i < length xs) (is : is_this_node s (get_or xs i d).node ≡ true) where
  abbrev here : Address
  here = (get_or xs i d).address

  stands_at : Stands xs here (Some s)
  stands_at = (
    take i xs,
    drop (suc i) xs,
    sym (take-append-drop i xs) ∙ ap (λ l. take i xs ++ l) (drop-cons xs i d within) ∙ ap (λ o. take i xs ++ record { address = here; node = o } ∷ drop (suc i) xs) (this_node_is s (get_or xs i d).node is),
  )

  split : held s xs ≡ held s (take i xs) ++ here ∷ held s (drop (suc i) xs)
  unfolding stands_at
  split = ap (held s) stands_at.2 ∙ held_with s here (Some s) (take i xs) (drop (suc i) xs) (at_some s s true (grind arith))

  pub own_at : sum_to here (held s xs) ≡ squared here here + sum_to here (others here (held s xs))
  unfolding stands_at
  own_at =
      let away = away_from here (Some s) (take i xs) (drop (suc i) xs) (subst Ascend stands_at.2 asc) in
      let o = ap (λ l. sum_to here (others here l)) split ∙ ap (sum_to here) (others_split here (held s (take i xs)) (held s (drop (suc i) xs)) (all_held (λ b. same_address here b ≡ false) s (take i xs) away.0) (all_held (λ b. same_address here b ≡ false) s (drop (suc i) xs) away.1)) in
      let w = ap (sum_to here) split ∙ sum_to_insert here here (held s (take i xs)) (held s (drop (suc i) xs)) in
      omega (arith, o, w)

  pub own_is : (own sum square : ℕ) → own ≡ sum - square → sum ≡ sum_to here (held s xs) → square ≡ squared here here → own ≡ sum_to here (others here (held s xs))
  own_is own sum square e f g = let o = own_at in omega (arith, e, f, g, o)

  pub left_at : imbalance (others here (held s xs)) + sum_to here (others here (held s xs)) ≡ imbalance (held s xs)
  left_at =
      subst (λ l. imbalance (others here l) + sum_to here (others here l) ≡ imbalance l) (sym split)
      (left_behind here (held s (take i xs)) (held s (drop (suc i) xs)) (subst (IsStrictlySortedBy address_cmp) split (held_ascends s xs asc)))

  held_at : held s (drop i xs) ≡ here ∷ held s (drop (suc i) xs)
  unfolding held
  held_at = ap (held s) (drop-cons xs i d within) ∙ ap (λ b. if b then here ∷ held s (drop (suc i) xs) else held s (drop (suc i) xs)) is

module _ (a : Address) (here there : List Address) (sum weight_there weight own : ℕ) where
  pub may : sum ≡ sum_to a there → weight_there ≡ imbalance there → weight ≡ imbalance here → own ≡ sum_to a (others a here) → sum + weight_there < weight → sum < own → may_fail_back a here there ≡ true
  unfolding imbalance
  may s t w o less near =
      and_from (nat_lt (sum_to a there + imbalance there) (imbalance here)) (nat_lt (sum_to a there) (sum_to a (others a here))) (lt-ltb (sum_to a there + imbalance there) (imbalance here) (omega (arith, s, t, w, less))) (lt-ltb (sum_to a there) (sum_to a (others a here)) (omega (arith, s, o, near)))

  pub may_not_by_weight : sum ≡ sum_to a there → weight_there ≡ imbalance there → weight ≡ imbalance here → weight ≤ sum + weight_there → may_fail_back a here there ≡ false
  unfolding imbalance
  may_not_by_weight s t w more =
      and_left (nat_lt (sum_to a there + imbalance there) (imbalance here)) (nat_lt (sum_to a there) (sum_to a (others a here))) (le-ltb (sum_to a there + imbalance there) (imbalance here) (omega (arith, s, t, w, more)))

  pub may_not_by_sum : sum ≡ sum_to a there → own ≡ sum_to a (others a here) → own ≤ sum → may_fail_back a here there ≡ false
  may_not_by_sum s o far =
      and_right (nat_lt (imbalance (a ∷ there)) (imbalance here)) (nat_lt (sum_to a there) (sum_to a (others a here))) (le-ltb (sum_to a there) (sum_to a (others a here)) (omega (arith, s, o, far)))

  pub new_sum : sum ≡ sum_to a there → weight_there ≡ imbalance there → weight ≡ imbalance here → own ≡ sum_to a (others a here) → imbalance (others a here) + sum_to a (others a here) ≡ imbalance here
      → weight - own + (sum + weight_there) ≡ imbalance (others a here) + imbalance (a ∷ there)
  unfolding imbalance
  new_sum s t w o left = omega (arith, s, t, w, o, left)

abbrev pub back : ℕ → List Address → List Address → Address → Choice
back target here there a = record { sum = imbalance (others a here) + imbalance (a ∷ there); address = a; node = target }

item_rest : {X : Type 0} (xs : List X) (i : ℕ) (one : X) → i < length xs → one ≡ get_or xs i one → drop i xs ≡ one ∷ drop (suc i) xs
item_rest xs i one h at = drop-cons xs i one h ∙ ap (λ x. x ∷ drop (suc i) xs) (sym at)

-- a choice of more than the best sum so far is not better
pub beaten : (sum : ℕ) (b : Option Choice) (c : Choice) → is_beaten sum b ≡ true → c.sum ≡ sum → better choice_before b c ≡ b
beaten sum None c h e = absurd (cc)
beaten sum (Some d) c h e =
    let less : nat_lt c.sum d.sum ≡ false = let k = h in let j = e in grind arith in
    let same : nat_eq c.sum d.sum ≡ false = let k = h in let j = e in grind arith in
    let next = address_before c.address d.address || (same_address c.address d.address && nat_lt c.node d.node) in
    ap (λ t. if t || (nat_eq c.sum d.sum && next) then Some c else Some d) less ∙ ap (λ t. if t && next then Some c else Some d) same

-- one of those that may leave
pub leaver_of : (node : ℕ) (xs : List Assigned) (ls : List Leaver) (i : ℕ) (d : Leaver) → AreLeavers node xs ls → i < length ls → IsLeaver (held node xs) xs (get_or ls i d)
leaver_of node xs ls i d are h = All-get_or (IsLeaver (held node xs) xs) ls i d h are.each

-- one address more that may leave
pub address_more : (target : ℕ) (here there : List Address) (xs : List Assigned) (ls : List Leaver) (i : ℕ) (d : Leaver) (b new whole : Option Choice) (t : Bool) → i < length ls
    → may_fail_back (address_at xs (get_or ls i d).place) here there ≡ t → new ≡ (if t then better choice_before b (back target here there (address_at xs (get_or ls i d).place)) else b)
    → best_from choice_before b (failbacks_of target here there (map (λ x. address_at xs x.place) (drop i ls))) ≡ whole
    → best_from choice_before new (failbacks_of target here there (map (λ x. address_at xs x.place) (drop (i + 1) ls))) ≡ whole
unfolding failbacks_of best_from
address_more target here there xs ls i d b new whole t h m is k =
    ap (λ j. best_from choice_before new (failbacks_of target here there (map (λ x. address_at xs x.place) (drop j ls)))) (add-one i)
    ∙ by t m is
    ∙ ap (λ j. best_from choice_before b (failbacks_of target here there (map (λ x. address_at xs x.place) j))) (sym (drop-cons ls i d h))
    ∙ k
  where
    a : Address
    a = address_at xs (get_or ls i d).place

    rest : List Choice
    rest = failbacks_of target here there (map (λ x. address_at xs x.place) (drop (suc i) ls))

    by : (u : Bool) → may_fail_back a here there ≡ u → new ≡ (if u then better choice_before b (back target here there a) else b)
        → best_from choice_before new rest ≡ best_from choice_before b (if may_fail_back a here there then back target here there a ∷ rest else rest)
    by true e n = ap (λ c. best_from choice_before c rest) n ∙ sym (ap (λ u. best_from choice_before b (if u then back target here there a ∷ rest else rest)) e)
    by false e n = ap (λ c. best_from choice_before c rest) n ∙ sym (ap (λ u. best_from choice_before b (if u then back target here there a ∷ rest else rest)) e)

-- the addresses at the node are listed: one more
pub leaver_more : (s : ℕ) (xs : List Assigned) (i : ℕ) (ls more : List Leaver) (l : Leaver) → Ascend xs → i < length xs → is_this_node s (get_or xs i unplaced).node ≡ true → l.place ≡ i → more ≡ ls ++ l ∷ []
    → map (λ x. address_at xs x.place) ls ++ held s (drop i xs) ≡ held s xs → map (λ x. address_at xs x.place) more ++ held s (drop (i + 1) xs) ≡ held s xs
leaver_more s xs i ls more l asc h e p is k =
    let rest = held s (drop (suc i) xs) in
    ap (λ j. map (λ x. address_at xs x.place) more ++ held s (drop j xs)) (add-one i)
    ∙ ap (λ m. map (λ x. address_at xs x.place) m ++ rest) is
    ∙ ap (λ m. m ++ rest) (map-append (λ (x : Leaver). address_at xs x.place) ls (l ∷ []))
    ∙ append_assoc (map (λ (x : Leaver). address_at xs x.place) ls) (address_at xs l.place ∷ []) rest
    ∙ ap (λ j. map (λ (x : Leaver). address_at xs x.place) ls ++ address_at xs j ∷ rest) p
    ∙ ap (λ m. map (λ (x : Leaver). address_at xs x.place) ls ++ m) (sym (held_at xs s i unplaced asc h e))
    ∙ k

-- and one that is not at the node
pub leaver_passed : (s : ℕ) (xs : List Assigned) (i : ℕ) (ls more : List Leaver) → i < length xs → is_this_node s (get_or xs i unplaced).node ≡ false → more ≡ ls
    → map (λ x. address_at xs x.place) ls ++ held s (drop i xs) ≡ held s xs → map (λ x. address_at xs x.place) more ++ held s (drop (i + 1) xs) ≡ held s xs
unfolding held
leaver_passed s xs i ls more h e is k =
    ap (λ j. map (λ x. address_at xs x.place) more ++ held s (drop j xs)) (add-one i)
    ∙ ap (λ m. map (λ x. address_at xs x.place) m ++ held s (drop (suc i) xs)) is
    ∙ sym (ap (λ m. map (λ (x : Leaver). address_at xs x.place) ls ++ m)
    (ap (held s) (drop-cons xs i unplaced h) ∙ ap (λ u. if u then (get_or xs i unplaced).address ∷ held s (drop (suc i) xs) else held s (drop (suc i) xs)) e))
    ∙ k

-- what an address leaves behind
pub leaver_at : (s : ℕ) (xs : List Assigned) (i own sum square : ℕ) → Ascend xs → i < length xs → is_this_node s (get_or xs i unplaced).node ≡ true
    → own ≡ sum - square → sum ≡ sum_to (address_at xs i) (held s xs) → square ≡ squared (address_at xs i) (address_at xs i) → IsLeaver (held s xs) xs (record { place = i; sum = own })
leaver_at s xs i own sum square asc h e o f g =
    let is = own_is xs s i unplaced asc h e own sum square o f g in
    record { within = h; sum = is; without = ap (λ n. imbalance (others (address_at xs i) (held s xs)) + n) is ∙ left_at xs s i unplaced asc h e }

pub target_more : (source : ℕ) (targets : List Tally) (i : ℕ) (one : Tally) (xs : List Assigned) (b new whole : Option Choice) (t : Bool) → i < length targets → one ≡ get_or targets i one → nat_eq (one.node) source ≡ t
    → new ≡ (if t then b else best_from choice_before b (failbacks_of (one.node) (held source xs) (held (one.node) xs) (held source xs)))
    → best_from choice_before b (failbacks source (nodes (drop i targets)) xs) ≡ whole → best_from choice_before new (failbacks source (nodes (drop (i + 1) targets)) xs) ≡ whole
unfolding failbacks
target_more source targets i one xs b new whole t h at m is k =
    ap (λ j. best_from choice_before new (failbacks source (nodes (drop j targets)) xs)) (add-one i)
    ∙ by t m is
    ∙ ap (λ l. best_from choice_before b (failbacks source (nodes l) xs)) (sym (item_rest targets i one h at))
    ∙ k
  where
    moves : List Choice
    moves = failbacks_of (one.node) (held source xs) (held (one.node) xs) (held source xs)

    rest : List Choice
    rest = failbacks source (nodes (drop (suc i) targets)) xs

    by : (s : Bool) → nat_eq (one.node) source ≡ s → new ≡ (if s then b else best_from choice_before b moves) → best_from choice_before new rest ≡ best_from choice_before b (if nat_eq (one.node) source then rest else moves ++ rest)
    by true e n = ap (λ c. best_from choice_before c rest) n ∙ sym (ap (λ s. best_from choice_before b (if s then rest else moves ++ rest)) e)
    by false e n = ap (λ c. best_from choice_before c rest) n ∙ sym (best_from_append choice_before b moves rest) ∙ sym (ap (λ s. best_from choice_before b (if s then rest else moves ++ rest)) e)

-- the places at one node more
pub places_more : (able : List Tally) (i : ℕ) (one : Tally) (xs : List Assigned) (b new whole : Option Choice) → i < length able → one ≡ get_or able i one
    → new ≡ best_from choice_before b (places_at one.node (held one.node xs) xs) → best_from choice_before b (places (nodes (drop i able)) xs) ≡ whole → best_from choice_before new (places (nodes (drop (i + 1) able)) xs) ≡ whole
unfolding places
places_more able i one xs b new whole h at is k =
    ap (λ j. best_from choice_before new (places (nodes (drop j able)) xs)) (add-one i)
    ∙ ap (λ c. best_from choice_before c (places (nodes (drop (suc i) able)) xs)) is
    ∙ sym (best_from_append choice_before b (places_at one.node (held one.node xs) xs) (places (nodes (drop (suc i) able)) xs))
    ∙ ap (λ l. best_from choice_before b (places (nodes l) xs)) (sym (item_rest able i one h at))
    ∙ k

-- one address more that may be placed, where it has no node
pub place_added : (node : ℕ) (there : List Address) (xs : List Assigned) (i : ℕ) (b new whole : Option Choice) (sum : ℕ) (t : Bool) → i < length xs → is_some (get_or xs i unplaced).node ≡ t → sum ≡ sum_to (get_or xs i unplaced).address there
    → new ≡ (if t then b else better choice_before b (record { sum = sum; address = (get_or xs i unplaced).address; node = node }))
    → best_from choice_before b (places_at node there (drop i xs)) ≡ whole → best_from choice_before new (places_at node there (drop (i + 1) xs)) ≡ whole
unfolding places_at best_from
place_added node there xs i b new whole sum t h e s is k =
    ap (λ j. best_from choice_before new (places_at node there (drop j xs))) (add-one i)
    ∙ by t e is
    ∙ ap (λ l. best_from choice_before b (places_at node there l)) (sym (drop-cons xs i unplaced h))
    ∙ k
  where
    rest : List Choice
    rest = places_at node there (drop (suc i) xs)

    place : ℕ → Choice
    place n = record { sum = n; address = (get_or xs i unplaced).address; node = node }

    by : (u : Bool) → is_some (get_or xs i unplaced).node ≡ u → new ≡ (if u then b else better choice_before b (place sum))
        → best_from choice_before new rest ≡ best_from choice_before b (if is_some (get_or xs i unplaced).node then rest else place (sum_to (get_or xs i unplaced).address there) ∷ rest)
    by true f n = ap (λ c. best_from choice_before c rest) n ∙ sym (ap (λ u. best_from choice_before b (if u then rest else place (sum_to (get_or xs i unplaced).address there) ∷ rest)) f)
    by false f n =
        ap (λ c. best_from choice_before c rest) n ∙ ap (λ m. best_from choice_before (better choice_before b (place m)) rest) s
        ∙ sym (ap (λ u. best_from choice_before b (if u then rest else place (sum_to (get_or xs i unplaced).address there) ∷ rest)) f)

source_added : (node weight : ℕ) (o : Option Choice) (b : Option Source) → best_from source_before b (source_of node weight o) ≡ with_source node weight o b
unfolding best_from
source_added node weight None b = refl
source_added node weight (Some c) b = refl

pub node_more : (able : List Tally) (targets : List ℕ) (i : ℕ) (one : Tally) (xs : List Assigned) (b new whole : Option Source) (weight : ℕ) (o : Option Choice) → i < length able → one ≡ get_or able i one
    → weight ≡ imbalance (held (one.node) xs) → o ≡ best choice_before (failbacks (one.node) targets xs) → new ≡ with_source (one.node) weight o b
    → best_from source_before b (sources (nodes (drop i able)) targets xs) ≡ whole → best_from source_before new (sources (nodes (drop (i + 1) able)) targets xs) ≡ whole
unfolding sources
node_more able targets i one xs b new whole weight o h at w found is k =
    let node = one.node in
    let rest = sources (nodes (drop (suc i) able)) targets xs in
    ap (λ j. best_from source_before new (sources (nodes (drop j able)) targets xs)) (add-one i)
    ∙ ap (λ c. best_from source_before c rest) (is ∙ sym (source_added node weight o b) ∙ ap (λ v. best_from source_before b (source_of node v o)) w ∙ ap (λ p. best_from source_before b (source_of node (imbalance (held node xs)) p)) found)
    ∙ sym (best_from_append source_before b (source_of node (imbalance (held node xs)) (best choice_before (failbacks node targets xs))) rest)
    ∙ ap (λ l. best_from source_before b (sources (nodes l) targets xs)) (sym (item_rest able i one h at))
    ∙ k

-- a node that comes after the best source so far adds nothing
pub behind : (node weight : ℕ) (o : Option Choice) (b : Option Source) → is_behind node weight b ≡ true → with_source node weight o b ≡ b
behind node weight None b h = refl
behind node weight (Some c) None h = absurd (cc)
behind node weight (Some c) (Some s) h = by (nat_lt s.imbalance weight || (weight == s.imbalance && nat_lt node s.node)) h
  where
    by : (t : Bool) → not t ≡ true → (if t then Some (record { imbalance = weight; node = node; choice = c }) else Some s) ≡ Some s
    by true k = absurd (cc)
    by false k = refl
