-- Addresses at their nodes, before and after one of them is sent to another.
use Rattle.std.proofs.Common.{◌≡◌, ℕ, suc, ◌+◌, ◌*◌, ◌<◌, ◌≤◌, Bool, true, false, nat_eq, List, [], ◌∷◌, ◌++◌, length, Option, Some, None, refl, sym, ap, ◌∙◌, subst, arith}
use Rattle.std.specs.Prelude.{if◌then◌else◌, is_some, map, not, ◌&&◌, ◌↔◌, IsTrue}
use Rattle.std.specs.List.{AllByRecursion}
use Rattle.std.specs.List.Sorted.{IsStrictlySortedBy}
use Rattle.std.specs.Ordering.{nat_cmp, is_lt}
use Rattle.ct_values.proofs.Words.{this_node_is}
use Rattle.ct_values.proofs.AddressOrder.{same_itself, less_differs, same_flips}
use Rattle.ct_values.specs.Words.{is_this_node}
use Rattle.ct_frame.specs.Fields.{ascends, ascends_after, assigned_before}
use Rattle.std.specs.declared.cmp.Ordering.TheVariants.{Less}
use Rattle.std.proofs.lemmas.Bool.Decides.{nat_tests}
use Rattle.std.proofs.lemmas.Bool.{and_parts}
use Rattle.ct_values.specs.Address.{address_cmp, same_address}
use Rattle.ct_values.specs.declared.address.Address.{Address}
use Rattle.ct_values.specs.declared.address.Address.TheVariants.{V4, V6}
use Rattle.ct_values.proofs.Orders.{is_less}
use Rattle.ct_frame.specs.declared.frame.Assigned.{Assigned}
use Rattle.ct_lcp2.specs.Distance.{squared, sum_to, imbalance}
use Rattle.ct_lcp2.specs.Placing.{addresses, Ascend, freed, must_leave, held, others, sent, beside, total, homeless}
use Rattle.ct_lcp2.proofs.Distances.{squared_symmetric, sum_within}
use Rattle.ct_lcp2.proofs.Choices.{all_weaken}

-- ---- one address

-- ---- lists of addresses

-- the address is none of these
abbrev pub Absent : Address → List Address → Type 0
Absent a bs = AllByRecursion (λ b. same_address a b ≡ false) bs

pub others_within : (a : Address) (bs : List Address) → sum_to a (others a bs) ≤ 16384 * length bs
others_within a bs = let s = sum_within a (others a bs) in let l = fewer bs in omega (arith, s, l)
  where
    fewer : (cs : List Address) → length (others a cs) ≤ length cs
    fewer [] = omega arith
    fewer (c ∷ cs) = by (same_address a c) (fewer cs)
      where
        by : (t : Bool) → length (others a cs) ≤ length cs → length (if not t then c ∷ others a cs else others a cs) ≤ suc (length cs)
        by true h = omega arith
        by false h = omega arith

pub others_absent : (a : Address) (bs : List Address) → Absent a bs → others a bs ≡ bs
others_absent a [] h = refl
others_absent a (b ∷ bs) h = ap (λ t. if not t then b ∷ others a bs else others a bs) h.0 ∙ ap (λ cs. b ∷ cs) (others_absent a bs h.1)

-- without the address itself
pub others_split : (a : Address) (pre post : List Address) → Absent a pre → Absent a post → others a (pre ++ a ∷ post) ≡ pre ++ post
others_split a [] post hp hq = ap (λ t. if not t then a ∷ others a post else others a post) (same_itself a) ∙ others_absent a post hq
others_split a (b ∷ pre) post hp hq = ap (λ t. if not t then b ∷ others a (pre ++ a ∷ post) else others a (pre ++ a ∷ post)) hp.0 ∙ ap (λ cs. b ∷ cs) (others_split a pre post hp.1 hq)

pub sum_to_insert : (b a : Address) (pre post : List Address) → sum_to b (pre ++ a ∷ post) ≡ squared b a + sum_to b (pre ++ post)
unfolding sum_to
sum_to_insert b a [] post = refl
sum_to_insert b a (c ∷ pre) post = let ih = sum_to_insert b a pre post in omega (arith, ih)

pub imbalance_insert : (a : Address) (pre post : List Address) → imbalance (pre ++ a ∷ post) ≡ sum_to a (pre ++ post) + imbalance (pre ++ post)
unfolding imbalance sum_to
imbalance_insert a [] post = refl
imbalance_insert a (b ∷ pre) post =
    let ih = imbalance_insert a pre post in
    let more = sum_to_insert b a pre post in
    let flip = squared_symmetric a b in
    omega (arith, ih, more, flip)

middle_differs : (a : Address) (pre post : List Address) → IsStrictlySortedBy address_cmp (pre ++ a ∷ post) → Absent a pre × Absent a post
unfolding IsStrictlySortedBy
middle_differs a [] post h = (tt, all_weaken (λ b. address_cmp a b ≡ Less) (λ b. same_address a b ≡ false) (less_differs a) post h.0)
middle_differs a (b ∷ pre) post h = let r = middle_differs a pre post h.1 in ((same_flips a b ∙ less_differs b a (found pre h.0), r.0), r.1)
  where
    found : (cs : List Address) → AllByRecursion (λ c. address_cmp b c ≡ Less) (cs ++ a ∷ post) → address_cmp b a ≡ Less
    found [] k = k.0
    found (c ∷ cs) k = found cs k.1

-- what an address leaves behind
pub left_behind : (a : Address) (pre post : List Address) → IsStrictlySortedBy address_cmp (pre ++ a ∷ post)
    → imbalance (others a (pre ++ a ∷ post)) + sum_to a (others a (pre ++ a ∷ post)) ≡ imbalance (pre ++ a ∷ post)
left_behind a pre post h =
    let r = middle_differs a pre post h in
    let o = others_split a pre post r.0 r.1 in
    let i = imbalance_insert a pre post in
    let x = ap imbalance o in
    let y = ap (sum_to a) o in
    omega (arith, x, y, i)

-- ---- who is where

pub held_length : (n : ℕ) (xs : List Assigned) → length (held n xs) ≤ length xs
unfolding held
held_length n [] = omega arith
held_length n (x ∷ xs) = by (is_this_node n x.node) (held_length n xs)
  where
    by : (t : Bool) → length (held n xs) ≤ length xs → length (if t then x.address ∷ held n xs else held n xs) ≤ suc (length xs)
    by true h = omega arith
    by false h = omega arith

pub all_held : (P : Address → Type 0) (n : ℕ) (xs : List Assigned) → AllByRecursion P (addresses xs) → AllByRecursion P (held n xs)
unfolding held
all_held P n [] h = tt
all_held P n (x ∷ xs) h = by (is_this_node n x.node) (all_held P n xs h.1)
  where
    by : (t : Bool) → AllByRecursion P (held n xs) → AllByRecursion P (if t then x.address ∷ held n xs else held n xs)
    by true k = (h.0, k)
    by false k = k

pub held_ascends : (n : ℕ) (xs : List Assigned) → Ascend xs → IsStrictlySortedBy address_cmp (held n xs)
unfolding held IsStrictlySortedBy
held_ascends n [] h = tt
held_ascends n (x ∷ xs) h = by (is_this_node n x.node) (held_ascends n xs h.1)
  where
    by : (t : Bool) → IsStrictlySortedBy address_cmp (held n xs) → IsStrictlySortedBy address_cmp (if t then x.address ∷ held n xs else held n xs)
    by true k = (all_held (λ b. address_cmp x.address b ≡ Less) n xs h.0, k)
    by false k = k

pub addresses_sent : (a : Address) (t : ℕ) (xs : List Assigned) → addresses (sent a t xs) ≡ addresses xs
addresses_sent a t [] = refl
addresses_sent a t (x ∷ xs) = by (same_address a x.address) (addresses_sent a t xs)
  where
    by : (b : Bool) → addresses (sent a t xs) ≡ addresses xs → addresses ((if b then record { address = x.address; node = Some t } else x) ∷ sent a t xs) ≡ x.address ∷ addresses xs
    by true h = ap (λ cs. x.address ∷ cs) h
    by false h = ap (λ cs. x.address ∷ cs) h

-- ---- addresses with no node

homeless_seated : (t : Bool) (x : Assigned) (n : ℕ) (xs : List Assigned) → homeless ((if t then record { address = x.address; node = Some n } else x) ∷ xs) ≤ homeless (x ∷ xs)
unfolding homeless
homeless_seated true x n xs = by (is_some x.node)
  where
    by : (b : Bool) → homeless xs ≤ (if b then homeless xs else suc (homeless xs))
    by true = omega arith
    by false = omega arith
homeless_seated false x n xs = omega arith

homeless_one : (x : Assigned) (xs ys : List Assigned) → homeless xs ≤ homeless ys → homeless (x ∷ xs) ≤ homeless (x ∷ ys)
unfolding homeless
homeless_one x xs ys h = by (is_some x.node)
  where
    by : (b : Bool) → (if b then homeless xs else suc (homeless xs)) ≤ (if b then homeless ys else suc (homeless ys))
    by true = h
    by false = omega (arith, h)

homeless_less : (x : Assigned) (xs ys : List Assigned) → homeless xs < homeless ys → homeless (x ∷ xs) < homeless (x ∷ ys)
unfolding homeless
homeless_less x xs ys h = by (is_some x.node)
  where
    by : (b : Bool) → (if b then homeless xs else suc (homeless xs)) < (if b then homeless ys else suc (homeless ys))
    by true = h
    by false = omega (arith, h)

homeless_sent : (a : Address) (n : ℕ) (xs : List Assigned) → homeless (sent a n xs) ≤ homeless xs
homeless_sent a n [] = omega arith
homeless_sent a n (x ∷ xs) =
    let h = homeless_one x (sent a n xs) xs (homeless_sent a n xs) in
    let s = homeless_seated (same_address a x.address) x n (sent a n xs) in
    omega (arith, h, s)

homeless_first : (x : Assigned) (n : ℕ) (xs : List Assigned) → is_some x.node ≡ false → homeless (sent x.address n (x ∷ xs)) < homeless (x ∷ xs)
unfolding homeless
homeless_first x n xs e =
    let h = homeless_sent x.address n xs in
    let own : homeless (x ∷ xs) ≡ suc (homeless xs) = ap (λ t. if t then homeless xs else suc (homeless xs)) e in
    let after : homeless (sent x.address n (x ∷ xs)) ≡ homeless (sent x.address n xs) = ap (λ t. homeless ((if t then record { address = x.address; node = Some n } else x) ∷ sent x.address n xs)) (same_itself x.address) in
    omega (arith, h, own, after)

-- one fewer where an address with no node is placed
pub homeless_falls : (xs : List Assigned) → AllByRecursion (λ x. is_some x.node ≡ false → (n : ℕ) → homeless (sent x.address n xs) < homeless xs) xs
homeless_falls [] = tt
homeless_falls (y ∷ ys) = (
  λ e n. homeless_first y n ys e,
  all_weaken (λ x. is_some x.node ≡ false → (n : ℕ) → homeless (sent x.address n ys) < homeless ys) (λ x. is_some x.node ≡ false → (n : ℕ) → homeless (sent x.address n (y ∷ ys)) < homeless (y ∷ ys))
      (λ x h e n. let k = homeless_less y (sent x.address n ys) ys (h e n) in let s = homeless_seated (same_address x.address y.address) y n (sent x.address n ys) in omega (arith, k, s)) ys (homeless_falls ys),
)

-- ---- an address is sent from one node to another

sum_held_insert : (b : Address) (m : ℕ) (pre : List Assigned) (x : Assigned) (post : List Assigned)
    → sum_to b (held m (pre ++ x ∷ post)) ≡ sum_to b (held m (x ∷ [])) + sum_to b (held m (pre ++ post))
unfolding held sum_to
sum_held_insert b m [] x post = by (is_this_node m x.node)
  where
    by : (t : Bool) → sum_to b (if t then x.address ∷ held m post else held m post) ≡ sum_to b (if t then x.address ∷ [] else []) + sum_to b (held m post)
    by true = omega arith
    by false = omega arith
sum_held_insert b m (y ∷ pre) x post = by (is_this_node m y.node) (sum_held_insert b m pre x post)
  where
    by : (t : Bool) → sum_to b (held m (pre ++ x ∷ post)) ≡ sum_to b (held m (x ∷ [])) + sum_to b (held m (pre ++ post))
        → sum_to b (if t then y.address ∷ held m (pre ++ x ∷ post) else held m (pre ++ x ∷ post)) ≡ sum_to b (held m (x ∷ [])) + sum_to b (if t then y.address ∷ held m (pre ++ post) else held m (pre ++ post))
    by true h = omega (arith, h)
    by false h = h

sum_beside_insert : (b : Address) (o : Option ℕ) (pre : List Assigned) (x : Assigned) (post : List Assigned)
    → sum_to b (beside o (pre ++ x ∷ post)) ≡ sum_to b (beside o (x ∷ [])) + sum_to b (beside o (pre ++ post))
unfolding sum_to
sum_beside_insert b None pre x post = omega arith
sum_beside_insert b (Some m) pre x post = sum_held_insert b m pre x post

pub eq_flips : (m n : ℕ) → nat_eq m n ≡ nat_eq n m
eq_flips m n = grind arith

-- two addresses at one node count alike
pair_flips : (a b : Address) (o p : Option ℕ) → sum_to a (beside o (record { address = b; node = p } ∷ [])) ≡ sum_to b (beside p (record { address = a; node = o } ∷ []))
unfolding held is_this_node sum_to
pair_flips a b None None = refl
pair_flips a b None (Some n) = refl
pair_flips a b (Some m) None = refl
pair_flips a b (Some m) (Some n) = by (nat_eq n m) (nat_eq m n) (eq_flips n m)
  where
    by : (s t : Bool) → s ≡ t → sum_to a (if s then b ∷ [] else []) ≡ sum_to b (if t then a ∷ [] else [])
    by true true e = ap (λ d. d + 0) (squared_symmetric a b)
    by false false e = refl
    by true false e = absurd (cc)
    by false true e = absurd (cc)

total_insert : (pre : List Assigned) (x : Assigned) (post : List Assigned) → total (pre ++ x ∷ post) ≡ sum_to x.address (beside x.node (pre ++ post)) + total (pre ++ post)
unfolding total
total_insert [] x post = refl
total_insert (y ∷ pre) x post =
    let ih = total_insert pre x post in
    let more = sum_beside_insert y.address y.node pre x post in
    let flip = pair_flips y.address x.address y.node x.node in
    let one = sum_beside_insert x.address x.node [] y (pre ++ post) in
    omega (arith, ih, more, flip, one)

abbrev pub Away : Address → List Assigned → Type 0
Away a xs = Absent a (addresses xs)

pub sent_away : (a : Address) (t : ℕ) (xs : List Assigned) → Away a xs → sent a t xs ≡ xs
sent_away a t [] h = refl
sent_away a t (x ∷ xs) h = ap (λ b. (if b then record { address = x.address; node = Some t } else x) ∷ sent a t xs) h.0 ∙ ap (λ ys. x ∷ ys) (sent_away a t xs h.1)

sent_split : (a : Address) (s t : ℕ) (pre post : List Assigned) → Away a pre → Away a post
    → sent a t (pre ++ record { address = a; node = Some s } ∷ post) ≡ pre ++ record { address = a; node = Some t } ∷ post
sent_split a s t [] post hp hq =
    ap (λ b. (if b then record { address = a; node = Some t } else record { address = a; node = Some s }) ∷ sent a t post) (same_itself a) ∙ ap (λ ys. record { address = a; node = Some t } ∷ ys) (sent_away a t post hq)
sent_split a s t (x ∷ pre) post hp hq =
    ap (λ b. (if b then record { address = x.address; node = Some t } else x) ∷ sent a t (pre ++ record { address = a; node = Some s } ∷ post)) hp.0 ∙ ap (λ ys. x ∷ ys) (sent_split a s t pre post hp.1 hq)

pub held_append : (m : ℕ) (xs ys : List Assigned) → held m (xs ++ ys) ≡ held m xs ++ held m ys
unfolding held
held_append m [] ys = refl
held_append m (x ∷ xs) ys = by (is_this_node m x.node) (held_append m xs ys)
  where
    by : (t : Bool) → held m (xs ++ ys) ≡ held m xs ++ held m ys → (if t then x.address ∷ held m (xs ++ ys) else held m (xs ++ ys)) ≡ (if t then x.address ∷ held m xs else held m xs) ++ held m ys
    by true h = ap (λ cs. x.address ∷ cs) h
    by false h = h

held_own : (a : Address) (s : ℕ) (post : List Assigned) → held s (record { address = a; node = Some s } ∷ post) ≡ a ∷ held s post
unfolding held is_this_node
held_own a s post = let e : nat_eq s s ≡ true = grind arith in ap (λ t. if t then a ∷ held s post else held s post) e

held_other : (a : Address) (s t : ℕ) (post : List Assigned) → nat_eq t s ≡ false → held t (record { address = a; node = Some s } ∷ post) ≡ held t post
unfolding held is_this_node
held_other a s t post d = let e : nat_eq s t ≡ false = grind arith in ap (λ b. if b then a ∷ held t post else held t post) e

-- the total after and before one address at node s was sent to node t
total_split : (a : Address) (s t : ℕ) (pre post : List Assigned) → nat_eq t s ≡ false → Away a pre → Away a post
    → total (sent a t (pre ++ record { address = a; node = Some s } ∷ post)) + sum_to a (others a (held s (pre ++ record { address = a; node = Some s } ∷ post)))
    ≡ total (pre ++ record { address = a; node = Some s } ∷ post) + sum_to a (held t (pre ++ record { address = a; node = Some s } ∷ post))
total_split a s t pre post d hp hq =
    let old : Assigned = record { address = a; node = Some s } in
    let new : Assigned = record { address = a; node = Some t } in
    let after = ap total (sent_split a s t pre post hp hq) ∙ total_insert pre new post in
    let before = total_insert pre old post in
    let here : held s (pre ++ old ∷ post) ≡ held s pre ++ a ∷ held s post = held_append s pre (old ∷ post) ∙ ap (λ cs. held s pre ++ cs) (held_own a s post) in
    let own : sum_to a (others a (held s (pre ++ old ∷ post))) ≡ sum_to a (held s (pre ++ post)) =
    ap (λ cs. sum_to a (others a cs)) here ∙ ap (sum_to a) (others_split a (held s pre) (held s post) (all_held (λ b. same_address a b ≡ false) s pre hp) (all_held (λ b. same_address a b ≡ false) s post hq) ∙ sym (held_append s pre post)) in
    let there : sum_to a (held t (pre ++ old ∷ post)) ≡ sum_to a (held t (pre ++ post)) =
    ap (sum_to a) (held_append t pre (old ∷ post) ∙ ap (λ cs. held t pre ++ cs) (held_other a s t post d) ∙ sym (held_append t pre post)) in
    omega (arith, after, before, own, there)

addresses_append : (xs ys : List Assigned) → addresses (xs ++ ys) ≡ addresses xs ++ addresses ys
addresses_append [] ys = refl
addresses_append (x ∷ xs) ys = ap (λ cs. x.address ∷ cs) (addresses_append xs ys)

pub away_from : (a : Address) (o : Option ℕ) (pre post : List Assigned) → Ascend (pre ++ record { address = a; node = o } ∷ post) → Away a pre × Away a post
away_from a o pre post h = middle_differs a (addresses pre) (addresses post) (subst (IsStrictlySortedBy address_cmp) (addresses_append pre (record { address = a; node = o } ∷ post)) h)

-- a place of the address at the node among all
abbrev pub Splits : List Assigned → ℕ → Address → Type 0
Splits xs s a = (pre : List Assigned) × (post : List Assigned) × (xs ≡ pre ++ record { address = a; node = Some s } ∷ post)

one_further : (x : Assigned) (xs : List Assigned) (s : ℕ) (a : Address) → Splits xs s a → Splits (x ∷ xs) s a
one_further x xs s a h = (x ∷ h.0, h.1, ap (λ ys. x ∷ ys) h.2)

pub all_split : (s : ℕ) (xs : List Assigned) → AllByRecursion (Splits xs s) (held s xs)
unfolding held
all_split s [] = tt
all_split s (x ∷ xs) = by (is_this_node s x.node) refl (all_weaken (Splits xs s) (Splits (x ∷ xs) s) (one_further x xs s) (held s xs) (all_split s xs))
  where
    by : (t : Bool) → is_this_node s x.node ≡ t → AllByRecursion (Splits (x ∷ xs) s) (held s xs) → AllByRecursion (Splits (x ∷ xs) s) (if t then x.address ∷ held s xs else held s xs)
    by true e more = (([], xs, ap (λ o. record { address = x.address; node = o } ∷ xs) (this_node_is s x.node e)), more)
    by false e more = more

-- the total falls where the address is nearer to the source's others
pub total_falls : (xs : List Assigned) (s t : ℕ) (a : Address) → Ascend xs → Splits xs s a → nat_eq t s ≡ false → sum_to a (held t xs) < sum_to a (others a (held s xs)) → total (sent a t xs) < total xs
total_falls xs s t a h split d near =
    let old : Assigned = record { address = a; node = Some s } in
    let away = away_from a (Some s) split.0 split.1 (subst Ascend split.2 h) in
    let e = subst (λ ys. total (sent a t ys) + sum_to a (others a (held s ys)) ≡ total ys + sum_to a (held t ys)) (sym split.2) (total_split a s t split.0 split.1 d away.0 away.1) in
    omega (arith, e, near)

-- ---- neighbours in order are in order

number_rises : (a b c : ℕ) → nat_cmp a b ≡ Less → nat_cmp b c ≡ Less → nat_cmp a c ≡ Less
number_rises a b c h k = grind (arith, nat_tests)

rises : (a b c : Address) → address_cmp a b ≡ Less → address_cmp b c ≡ Less → address_cmp a c ≡ Less
rises (V4 a) (V4 b) (V4 c) h k = number_rises a b c h k
rises (V4 a) (V4 b) (V6 c) h k = refl
rises (V4 a) (V6 b) (V6 c) h k = refl
rises (V4 a) (V6 b) (V4 c) h k = absurd (cc)
rises (V6 a) (V4 b) c h k = absurd (cc)
rises (V6 a) (V6 b) (V4 c) h k = absurd (cc)
rises (V6 a) (V6 b) (V6 c) h k = number_rises a b c h k

ascend_after : (x : Assigned) (xs : List Assigned) → ascends_after assigned_before x xs ≡ true → Ascend (x ∷ xs)
unfolding IsStrictlySortedBy
ascend_after x [] h = (tt, tt)
ascend_after x (y ∷ ys) h =
    let p = and_parts (assigned_before x y) (ascends_after assigned_before y ys) h in
    let less = is_less (address_cmp x.address y.address) p.0 in
    let more = ascend_after y ys p.1 in
    ((less, all_weaken (λ b. address_cmp y.address b ≡ Less) (λ b. address_cmp x.address b ≡ Less) (λ b k. rises x.address y.address b less k) (addresses ys) more.0), more)

pub ascend_from : (xs : List Assigned) → ascends assigned_before xs ≡ true → Ascend xs
unfolding IsStrictlySortedBy
ascend_from [] h = tt
ascend_from (x ∷ xs) h = ascend_after x xs h

ascends_from : (x : Assigned) (xs : List Assigned) → Ascend (x ∷ xs) → ascends_after assigned_before x xs ≡ true
unfolding IsStrictlySortedBy
ascends_from x [] h = refl
ascends_from x (y ∷ ys) h = ap (λ o. is_lt o && ascends_after assigned_before y ys) h.0.0 ∙ ascends_from y ys h.1

pub ascend_to : (xs : List Assigned) → Ascend xs → ascends assigned_before xs ≡ true
ascend_to [] h = refl
ascend_to (x ∷ xs) h = ascends_from x xs h

pub ascend_iff : (r : Bool) (xs : List Assigned) → r ≡ ascends assigned_before xs → IsTrue r ↔ Ascend xs
ascend_iff r xs e = (λ t. ascend_from xs (sym e ∙ true_is r t), λ a. is_true r (e ∙ ascend_to xs a))
  where
    true_is : (b : Bool) → IsTrue b → b ≡ true
    true_is b t = grind arith

    is_true : (b : Bool) → b ≡ true → IsTrue b
    is_true b t = grind arith

pub addresses_begun : (able : List ℕ) (xs : List Assigned) → addresses (map (freed able) xs) ≡ addresses xs
addresses_begun able [] = refl
addresses_begun able (x ∷ xs) = by (must_leave able x.node) (addresses_begun able xs)
  where
    by : (b : Bool) → addresses (map (freed able) xs) ≡ addresses xs → addresses ((if b then record { address = x.address; node = None } else x) ∷ map (freed able) xs) ≡ x.address ∷ addresses xs
    by true h = ap (λ cs. x.address ∷ cs) h
    by false h = ap (λ cs. x.address ∷ cs) h
