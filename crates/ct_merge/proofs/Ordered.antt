-- Lists whose items each come before the next, and lists in order.
use Rattle.std.proofs.Common.{◌≡◌, ℕ, Bool, true, false, cond, ◌&&◌, ◌||◌, ◌==◌, nat_lt, List, [], ◌∷◌, refl, sym, ◌∙◌, ap, arith}
use Rattle.std.specs.Prelude.{if◌then◌else◌, map}
use Rattle.std.specs.declared.cmp.Ordering.{Ordering}
use Rattle.std.specs.declared.cmp.Ordering.TheVariants.{Less, Equal, Greater}
use Rattle.std.specs.Ordering.{is_lt, ordering_then}
use Rattle.std.specs.Cmp.{IsTotalOrder}
use Rattle.std.specs.List.{AllByRecursion}
use Rattle.std.specs.List.Sorted.{IsStrictlySortedBy}
use Rattle.std.proofs.lemmas.Bool.{and_from, and_parts}
use Rattle.ct_values.specs.Key.{key_cmp}
use Rattle.ct_values.specs.Address.{address_before}
use Rattle.ct_frame.specs.declared.frame.TableRow.{TableRow}
use Rattle.ct_frame.specs.declared.round.Pull.{Pull}
use Rattle.ct_frame.specs.Fields.{ascends, ascends_after, row_before, ptable_before, assigned_before, are_addresses}
use Rattle.ct_merge.specs.declared.held.HeldRow.{HeldRow}
use Rattle.ct_merge.specs.declared.held.HeldPTable.{HeldPTable}
use Rattle.ct_merge.specs.declared.held.HeldAddress.{HeldAddress}
use Rattle.ct_merge.specs.Held.{is_in_order, row_order, ptable_order, address_order, based_rows, held_rows, rows_of, ptables_of, addresses_of}
use Rattle.ct_merge.specs.Orders.{row_order_total, ptable_order_total, address_order_total}
use Rattle.ct_merge.specs.Gathered.{joined, assigned_to}
use Rattle.ct_merge.specs.Placing.{all_inserted}
use Rattle.ct_merge.proofs.Places.{all_inserted_ascends}

less_of : (r : Ordering) → is_lt r ≡ true → r ≡ Less
less_of Less h = refl
less_of Equal h = absurd (cc)
less_of Greater h = absurd (cc)

module _ {X Y : Type 0} (order : X → X → Ordering) (o : IsTotalOrder order) (before : Y → Y → Bool) (f : Y → X) (is : (a b : Y) → before a b ≡ is_lt (order (f a) (f b))) where
  below_chain : (x : X) (y : Y) (ys : List Y) → order x (f y) ≡ Less → ascends_after before y ys ≡ true → AllByRecursion (λ z. order x z ≡ Less) (map f ys)
  below_chain x y [] p h = tt
  below_chain x y (z ∷ zs) p h =
      let q = o.trans x (f y) (f z) p (less_of _ (sym (is y z) ∙ (and_parts _ _ h).0)) in
      (q, below_chain x z zs q (and_parts _ _ h).1)

  from_chain : (y : Y) (ys : List Y) → ascends_after before y ys ≡ true → IsStrictlySortedBy order (f y ∷ map f ys)
  unfolding IsStrictlySortedBy
  from_chain y [] h = (tt, tt)
  from_chain y (z ∷ zs) h =
      let p = less_of _ (sym (is y z) ∙ (and_parts _ _ h).0) in
      ((p, below_chain (f y) z zs p (and_parts _ _ h).1), from_chain z zs (and_parts _ _ h).1)

  -- each comes before the next, so the list is in order
  pub in_order : (ys : List Y) → ascends before ys ≡ true → IsStrictlySortedBy order (map f ys)
  unfolding IsStrictlySortedBy
  in_order [] h = tt
  in_order (y ∷ ys) h = from_chain y ys h

module _ {X Y : Type 0} (order : X → X → Ordering) (before : Y → Y → Bool) (g : X → Y) (is : (a b : X) → before (g a) (g b) ≡ is_lt (order a b)) where
  chain_after : (x : X) (xs : List X) → IsStrictlySortedBy order (x ∷ xs) → ascends_after before (g x) (map g xs) ≡ true
  unfolding IsStrictlySortedBy
  chain_after x [] h = refl
  chain_after x (y ∷ ys) h = and_from _ _ (is x y ∙ ap is_lt h.0.0) (chain_after y ys h.1)

  -- the list is in order, so each comes before the next
  pub chained : (xs : List X) → IsStrictlySortedBy order xs → ascends before (map g xs) ≡ true
  chained [] h = refl
  chained (x ∷ xs) h = chain_after x xs h

pub is_lt_then : (lt eq : Bool) (c : Ordering) → is_lt (ordering_then (cond lt Less (cond eq Equal Greater)) c) ≡ (lt || (eq && is_lt c))
is_lt_then true eq c = refl
is_lt_then false true c = refl
is_lt_then false false c = refl

pub is_lt_nat : (lt eq : Bool) → is_lt (cond lt Less (cond eq Equal Greater)) ≡ lt
is_lt_nat true eq = refl
is_lt_nat false true = refl
is_lt_nat false false = refl

pub row_is : (a b : HeldRow) → row_before a.row b.row ≡ is_lt (row_order a b)
row_is a b = sym (is_lt_then (nat_lt a.row.db b.row.db) (a.row.db == b.row.db) (key_cmp a.row.key b.row.key))

pub ptable_is : (a b : HeldPTable) → ptable_before a.ptable b.ptable ≡ is_lt (ptable_order a b)
ptable_is a b = sym (is_lt_nat (nat_lt a.ptable.db b.ptable.db) (a.ptable.db == b.ptable.db))

pub assigned_is : (a b : HeldAddress) → assigned_before (assigned_to a) (assigned_to b) ≡ is_lt (address_order a b)
assigned_is a b = refl

pub no_items : {X : Type 0} (order : X → X → Ordering) → IsStrictlySortedBy order []
unfolding IsStrictlySortedBy
no_items order = tt

pub one_item : {X : Type 0} (order : X → X → Ordering) (x : X) → IsStrictlySortedBy order (x ∷ [])
unfolding IsStrictlySortedBy
one_item order x = (tt, tt)

held_in_order : (node : ℕ) (table : List TableRow) → ascends row_before table ≡ true → IsStrictlySortedBy row_order (held_rows node table)
held_in_order node table h = in_order row_order row_order_total row_before (λ row. record { node = node; row = row }) (λ a b. row_is (record { node = node; row = a }) (record { node = node; row = b })) table h

based_in_order : (vbase node : ℕ) (table : List TableRow) → ascends row_before table ≡ true → IsStrictlySortedBy row_order (based_rows vbase node table)
based_in_order vbase node table h =
    elim (vbase == 0) as (λ b. IsStrictlySortedBy row_order (if b then [] else held_rows node table)) [ true ↦ no_items row_order | false ↦ held_in_order node table h ]

rows_part : (pull : Pull) → is_in_order pull ≡ true → ascends row_before pull.table ≡ true
rows_part pull h = by (ascends row_before pull.table) (ascends ptable_before pull.ptables) (are_addresses pull.addresses) h
  where
    by : (a b c : Bool) → (a && b && c) ≡ true → a ≡ true
    by true b c h = refl
    by false b c h = grind arith

ptables_part : (pull : Pull) → is_in_order pull ≡ true → ascends ptable_before pull.ptables ≡ true
ptables_part pull h = by (ascends row_before pull.table) (ascends ptable_before pull.ptables) (are_addresses pull.addresses) h
  where
    by : (a b c : Bool) → (a && b && c) ≡ true → b ≡ true
    by a true c h = refl
    by a false c h = grind arith

addresses_part : (pull : Pull) → is_in_order pull ≡ true → are_addresses pull.addresses ≡ true
addresses_part pull h = by (ascends row_before pull.table) (ascends ptable_before pull.ptables) (are_addresses pull.addresses) h
  where
    by : (a b c : Bool) → (a && b && c) ≡ true → c ≡ true
    by a b true h = refl
    by a b false h = grind arith

-- what a pull in order holds is in order
pub rows_ascend : (pull : Pull) → is_in_order pull ≡ true → IsStrictlySortedBy row_order (rows_of pull)
rows_ascend pull h = based_in_order pull.vbase pull.node pull.table (rows_part pull h)

pub ptables_ascend : (pull : Pull) → is_in_order pull ≡ true → IsStrictlySortedBy ptable_order (ptables_of pull)
ptables_ascend pull h = in_order ptable_order ptable_order_total ptable_before (λ p. record { node = pull.node; ptable = p }) (λ a b. ptable_is (record { node = pull.node; ptable = a }) (record { node = pull.node; ptable = b })) pull.ptables (ptables_part pull h)

pub addresses_ascend : (pull : Pull) → is_in_order pull ≡ true → IsStrictlySortedBy address_order (addresses_of pull)
addresses_ascend pull h = in_order address_order address_order_total address_before (λ a. record { node = pull.node; address = a }) (λ a b. refl) pull.addresses (addresses_part pull h)

-- the items of a base stay in order with those of one more base
pub joined_ascends : {X : Type 0} (order rank : X → X → Ordering) (o : IsTotalOrder order) (base : ℕ) (items : List X) (new : ℕ) (more : List X) → IsStrictlySortedBy order items → IsStrictlySortedBy order more → IsStrictlySortedBy order (joined order rank base items new more)
joined_ascends order rank o base items new more h k =
    elim (nat_lt base new) as (λ b. IsStrictlySortedBy order (if b then more else if nat_lt new base then items else all_inserted order rank more items)) [
      | true ↦ k
      | false ↦ elim (nat_lt new base) as (λ b. IsStrictlySortedBy order (if b then items else all_inserted order rank more items)) [ true ↦ h | false ↦ all_inserted_ascends order rank o more items h ]
    ]
