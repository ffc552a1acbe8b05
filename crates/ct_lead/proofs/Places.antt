-- Addresses in their places: with some left out, with more, and those that a placement gives to a node.
use Rattle.std.proofs.Common.{◌≡◌, ◌+◌, ℕ, Bool, true, false, cond, not, ◌&&◌, ◌||◌, List, [], ◌∷◌, Option, None, Some, refl, sym, ◌∙◌, ap, subst, add-one}
use Rattle.std.specs.Prelude.{if◌then◌else◌}
use Rattle.std.specs.List.{AllByRecursion, filter, insert, list_any}
use Rattle.std.specs.List.Sorted.{IsStrictlySortedBy}
use Rattle.std.specs.declared.cmp.Ordering.TheVariants.{Less}
use Rattle.std.proofs.lemmas.Bool.{and_parts}
use Rattle.std.proofs.lemmas.List.Kept.{IsStrictlySortedBy-filter}
use Rattle.ct_values.specs.Words.{is_this_node}
use Rattle.ct_values.specs.Address.{address_cmp, same_address, address_before}
use Rattle.ct_values.specs.declared.address.Address.{Address}
use Rattle.ct_values.specs.declared.address.Address.TheVariants.{V4, V6}
use Rattle.ct_values.proofs.AddressOrder.{address_total, address_is, less_differs, same_flips}
use Rattle.ct_values.proofs.Orders.{less_is, is_less, number_rises}
use Rattle.ct_frame.specs.Fields.{ascends, ascends_after, assigned_before}
use Rattle.ct_frame.specs.declared.frame.Assigned.{Assigned}
use Rattle.ct_rules_node.specs.Node.{holder_in}
use Rattle.ct_rules_node.specs.Rounds.{is_own}
use Rattle.ct_rules_node.specs.Takeovers.{has_address, held_with, share}
use Rattle.ct_lead.specs.Held.{before, held_with_all, kept, left_out}

-- ---- the order

both : (a b : Bool) → a ≡ true → b ≡ true → (a && b) ≡ true
both true b p q = q
both false b p q = absurd (cc)

-- all of these addresses come after this one
abbrev Above : Address → List Address → Type 0
Above a bs = AllByRecursion (λ b. address_cmp a b ≡ Less) bs

above_higher : (a b : Address) (cs : List Address) → address_cmp a b ≡ Less → Above b cs → Above a cs
above_higher a b [] l all = tt
above_higher a b (c ∷ cs) l all = (address_total.trans a b c l all.0, above_higher a b cs l all.1)

sorted_on : (a : Address) (bs : List Address) → ascends_after address_before a bs ≡ true → Above a bs × IsStrictlySortedBy address_cmp bs
unfolding IsStrictlySortedBy
sorted_on a [] e = (tt, tt)
sorted_on a (b ∷ bs) e = (let p = and_parts _ _ e in let l = is_less (address_cmp a b) p.0 in let s = sorted_on b bs p.1 in ((l, above_higher a b bs l s.0), s))

sorted_so : (bs : List Address) → ascends address_before bs ≡ true → IsStrictlySortedBy address_cmp bs
unfolding IsStrictlySortedBy
sorted_so [] e = tt
sorted_so (b ∷ bs) e = sorted_on b bs e

ascends_on : (a : Address) (bs : List Address) → Above a bs → IsStrictlySortedBy address_cmp bs → ascends_after address_before a bs ≡ true
unfolding IsStrictlySortedBy
ascends_on a [] l s = refl
ascends_on a (b ∷ bs) l s = both _ _ (less_is (address_cmp a b) l.0) (ascends_on b bs s.0 s.1)

ascends_so : (bs : List Address) → IsStrictlySortedBy address_cmp bs → ascends address_before bs ≡ true
unfolding IsStrictlySortedBy
ascends_so [] s = refl
ascends_so (b ∷ bs) s = ascends_on b bs s.0 s.1

-- an address that does not come after another and is not the same comes before it
rises : (a b : Address) → address_before b a ≡ false → same_address a b ≡ false → address_cmp a b ≡ Less
rises (V4 m) (V4 n) l e = number_rises m n l e
rises (V4 m) (V6 n) l e = refl
rises (V6 m) (V4 n) l e = absurd (let h : true ≡ false = l in cc)
rises (V6 m) (V6 n) l e = number_rises m n l e

-- ---- some left out

pub kept_ascend : (keep held left : List Address) → left ≡ kept keep held → ascends address_before held ≡ true → ascends address_before left ≡ true
kept_ascend keep held left is up = subst (λ bs. ascends address_before bs ≡ true) (sym is) (ascends_so (kept keep held) (IsStrictlySortedBy-filter address_cmp (has_address keep) held (sorted_so held up)))

-- ---- one more in its place

-- an address is put after those that come before it
pub put_in_place : (a : Address) (bs : List Address) → held_with a bs ≡ insert bs (before a bs) a
unfolding held_with
put_in_place a [] = refl
put_in_place a (b ∷ bs) = by (address_before b a) (put_in_place a bs)
  where
    by : (t : Bool) → held_with a bs ≡ insert bs (before a bs) a → (if t then b ∷ held_with a bs else a ∷ b ∷ bs) ≡ insert (b ∷ bs) (if t then before a bs + 1 else 0) a
    by true e = rw (add-one (before a bs)) (ap (λ cs. b ∷ cs) e)
    by false e = refl

all_with : (P : Address → Type 0) (a : Address) (bs : List Address) → P a → AllByRecursion P bs → AllByRecursion P (held_with a bs)
unfolding held_with
all_with P a [] p all = (p, tt)
all_with P a (b ∷ bs) p all = by (address_before b a) (all_with P a bs p all.1)
  where
    by : (t : Bool) → AllByRecursion P (held_with a bs) → AllByRecursion P (if t then b ∷ held_with a bs else a ∷ b ∷ bs)
    by true r = (all.0, r)
    by false r = (p, all)

neither : (a b : Bool) → (a || b) ≡ false → (a ≡ false) × (b ≡ false)
neither true b e = absurd (cc)
neither false b e = (refl, e)

nor : (a b : Bool) → a ≡ false → b ≡ false → (a || b) ≡ false
nor true b p q = absurd (cc)
nor false b p q = q

sorted_with : (a : Address) (bs : List Address) → has_address bs a ≡ false → IsStrictlySortedBy address_cmp bs → IsStrictlySortedBy address_cmp (held_with a bs)
unfolding IsStrictlySortedBy held_with has_address
sorted_with a [] new s = (tt, tt)
sorted_with a (b ∷ bs) new s = (let p = neither (same_address a b) (list_any (same_address a) bs) new in by (address_before b a) refl p.0 (sorted_with a bs p.1 s.1))
  where
    by : (t : Bool) → address_before b a ≡ t → same_address a b ≡ false → IsStrictlySortedBy address_cmp (held_with a bs) → IsStrictlySortedBy address_cmp (if t then b ∷ held_with a bs else a ∷ b ∷ bs)
    by true e n r = (all_with (λ c. address_cmp b c ≡ Less) a bs (is_less (address_cmp b a) e) s.0, r)
    by false e n r = (let l = rises a b e n in ((l, above_higher a b bs l s.0), s))

has_not : (x a : Address) (bs : List Address) → same_address x a ≡ false → has_address bs x ≡ false → has_address (held_with a bs) x ≡ false
unfolding held_with has_address
has_not x a [] n e = nor (same_address x a) false n refl
has_not x a (b ∷ bs) n e = (let p = neither (same_address x b) (list_any (same_address x) bs) e in by (address_before b a) p.0 (has_not x a bs n p.1))
  where
    by : (t : Bool) → same_address x b ≡ false → list_any (same_address x) (held_with a bs) ≡ false → list_any (same_address x) (if t then b ∷ held_with a bs else a ∷ b ∷ bs) ≡ false
    by true p r = nor (same_address x b) _ p r
    by false p r = nor (same_address x a) _ n e

-- ---- more in their places

-- none of these addresses is in the list
abbrev Fresh : List Address → List Address → Type 0
Fresh held more = AllByRecursion (λ a. has_address held a ≡ false) more

fresh_on : (a : Address) (held more : List Address) → Above a more → Fresh held more → Fresh (held_with a held) more
fresh_on a held [] l f = tt
fresh_on a held (x ∷ more) l f = (has_not x a held (same_flips x a ∙ less_differs a x l.0) f.0, fresh_on a held more l.1 f.1)

sorted_with_all : (more held : List Address) → Fresh held more → IsStrictlySortedBy address_cmp more → IsStrictlySortedBy address_cmp held → IsStrictlySortedBy address_cmp (held_with_all more held)
unfolding IsStrictlySortedBy
sorted_with_all [] held f m s = s
sorted_with_all (a ∷ more) held f m s = sorted_with_all more (held_with a held) (fresh_on a held more m.0 f.1) m.1 (sorted_with a held f.0 s)

not_true : (b : Bool) → not b ≡ true → b ≡ false
not_true true e = absurd (cc)
not_true false e = refl

fresh_left : (held xs : List Address) → Fresh held (left_out held xs)
fresh_left held [] = tt
fresh_left held (x ∷ xs) = by (has_address held x) refl (fresh_left held xs)
  where
    by : (b : Bool) → has_address held x ≡ b → Fresh held (left_out held xs) → Fresh held (cond (not b) (x ∷ left_out held xs) (left_out held xs))
    by true e r = r
    by false e r = (e, r)

-- ---- the share of a node

-- all of these addresses come after this one
abbrev AllAbove : Address → List Assigned → Type 0
AllAbove a xs = AllByRecursion (λ x. address_cmp a x.address ≡ Less) xs

all_above : (a b : Address) (xs : List Assigned) → address_cmp a b ≡ Less → AllAbove b xs → AllAbove a xs
all_above a b [] l all = tt
all_above a b (x ∷ xs) l all = (address_total.trans a b x.address l all.0, all_above a b xs l all.1)

-- each address comes after those before it
abbrev InOrder : List Assigned → Type 0
InOrder [] = Unit {0}
InOrder (x ∷ xs) = AllAbove x.address xs × InOrder xs

order_on : (y : Assigned) (xs : List Assigned) → ascends_after assigned_before y xs ≡ true → AllAbove y.address xs × InOrder xs
order_on y [] e = (tt, tt)
order_on y (x ∷ xs) e = (let p = and_parts _ _ e in let l = is_less (address_cmp y.address x.address) p.0 in let s = order_on x xs p.1 in ((l, all_above y.address x.address xs l s.0), s))

in_order : (xs : List Assigned) → ascends assigned_before xs ≡ true → InOrder xs
in_order [] e = tt
in_order (x ∷ xs) e = order_on x xs e

share_above : (me : ℕ) (a : Address) (xs : List Assigned) → AllAbove a xs → Above a (share me xs)
unfolding share
share_above me a [] all = tt
share_above me a (x ∷ xs) all = by (is_this_node me x.node) (share_above me a xs all.1)
  where
    by : (b : Bool) → Above a (share me xs) → Above a (if b then x.address ∷ share me xs else share me xs)
    by true r = (all.0, r)
    by false r = r

share_sorted : (me : ℕ) (xs : List Assigned) → InOrder xs → IsStrictlySortedBy address_cmp (share me xs)
unfolding share IsStrictlySortedBy
share_sorted me [] s = tt
share_sorted me (x ∷ xs) s = by (is_this_node me x.node) (share_sorted me xs s.1)
  where
    by : (b : Bool) → IsStrictlySortedBy address_cmp (share me xs) → IsStrictlySortedBy address_cmp (if b then x.address ∷ share me xs else share me xs)
    by true r = (share_above me x.address xs s.0, r)
    by false r = r

-- with what a placement in order gives to a node besides, what is held still ascends
pub taken_ascend : (me : ℕ) (assigned : List Assigned) (held own more all : List Address) → ascends assigned_before assigned ≡ true → own ≡ share me assigned → more ≡ left_out held own → all ≡ held_with_all more held →
    ascends address_before held ≡ true → ascends address_before all ≡ true
taken_ascend me assigned held own more all placed o m a up =
    let s = share_sorted me assigned (in_order assigned placed) in
    let left = IsStrictlySortedBy-filter address_cmp (λ x. not (has_address held x)) (share me assigned) s in
    let whole = sorted_with_all (left_out held (share me assigned)) held (fresh_left held (share me assigned)) left (sorted_so held up) in
    let is = a ∙ ap (λ bs. held_with_all bs held) (m ∙ ap (left_out held) o) in
    subst (λ bs. ascends address_before bs ≡ true) (sym is) (ascends_so _ whole)

-- an address that comes before all of a placement is in nobody's share
not_shared : (me : ℕ) (a : Address) (bs : List Address) → Above a bs → has_address bs a ≡ false
unfolding has_address
not_shared me a [] all = refl
not_shared me a (b ∷ bs) all = nor (same_address a b) _ (less_differs a b all.0) (not_shared me a bs all.1)

has_first : (a b : Address) (bs : List Address) → same_address a b ≡ true → has_address (b ∷ bs) a ≡ true
unfolding has_address
has_first a b bs e = ap (λ t. t || list_any (same_address a) bs) e

has_later : (a b : Address) (bs : List Address) → same_address a b ≡ false → has_address (b ∷ bs) a ≡ has_address bs a
unfolding has_address
has_later a b bs e = ap (λ t. t || list_any (same_address a) bs) e

nobody_has : (me : ℕ) (a : Address) → has_address [] a ≡ is_this_node me None
unfolding has_address is_this_node
nobody_has me a = refl

own_so : (me : ℕ) (assigned : List Assigned) (a : Address) → InOrder assigned → has_address (share me assigned) a ≡ is_this_node me (holder_in a assigned)
unfolding share holder_in
own_so me [] a s = nobody_has me a
own_so me (x ∷ xs) a s = by (same_address a x.address) refl (is_this_node me x.node) refl (own_so me xs a s.1)
  where
    by : (b : Bool) → same_address a x.address ≡ b → (t : Bool) → is_this_node me x.node ≡ t → has_address (share me xs) a ≡ is_this_node me (holder_in a xs) → has_address (if t then x.address ∷ share me xs else share me xs) a ≡ is_this_node me (if b then x.node else holder_in a xs)
    by true e true h r = has_first a x.address (share me xs) e ∙ sym h
    by true e false h r = subst (λ y. has_address (share me xs) y ≡ false) (sym (address_is a x.address e)) (not_shared me x.address (share me xs) (share_above me x.address xs s.0)) ∙ sym h
    by false e true h r = has_later a x.address (share me xs) e ∙ r
    by false e false h r = r

-- of a placement in order, a node's share has exactly the addresses that are assigned to it
pub share_is_own : (me : ℕ) (assigned : List Assigned) (a : Address) → ascends assigned_before assigned ≡ true → has_address (share me assigned) a ≡ is_own me assigned a
unfolding is_own
share_is_own me assigned a up = own_so me assigned a (in_order assigned up)
