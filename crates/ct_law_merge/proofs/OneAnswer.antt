-- The rule of the merges gives one answer.
use Rattle.std.proofs.Common.{◌≡◌, ℕ, Bool, true, ◌==◌, nat_lt, List, [], ◌∷◌, refl, sym, ◌∙◌, ap, subst}
use Rattle.std.specs.Prelude.{map}
use Rattle.std.specs.declared.cmp.Ordering.{Ordering}
use Rattle.std.specs.Ordering.{is_eq, is_lt, nat_cmp}
use Rattle.std.specs.Cmp.{IsTotalOrder, nat_cmp_total, on_total, tied_then}
use Rattle.std.specs.List.{find}
use Rattle.std.specs.List.Sorted.{IsStrictlySortedBy}
use Rattle.ct_values.specs.Key.{key_cmp}
use Rattle.ct_values.specs.Address.{address_cmp}
use Rattle.ct_frame.specs.declared.frame.Assigned.{Assigned}
use Rattle.ct_frame.specs.declared.frame.PTable.{PTable}
use Rattle.ct_frame.specs.declared.frame.TableRow.{TableRow}
use Rattle.ct_frame.specs.declared.round.Pull.{Pull}
use Rattle.ct_frame.specs.Fields.{ascends, row_before, ptable_before, assigned_before}
use Rattle.ct_merge.specs.declared.merged.Merged.{Merged}
use Rattle.ct_merge.specs.declared.merged.MergedAll.{MergedAll}
use Rattle.ct_merge.specs.declared.merged.PMerged.{PMerged}
use Rattle.ct_values.proofs.AddressOrder.{address_total}
use Rattle.ct_merge.specs.Rule.{row_at, IsVolatileMerge, IsPersistentMerge, IsAddressMerge, IsMerge}
use Rattle.ct_merge.proofs.Ordered.{in_order, is_lt_then, is_lt_nat}
use Rattle.ct_law_merge.proofs.Rules.{place_cmp, place_total}
use Rattle.ct_merge.proofs.Among.{same_list}

module _ {X : Type 0} (order : X → X → Ordering) (o : IsTotalOrder order) (before : X → X → Bool) (is : (a b : X) → before a b ≡ is_lt (order a b)) where
  all_same : (xs : List X) → map (λ x. x) xs ≡ xs
  all_same [] = refl
  all_same (x ∷ xs) = ap (λ l. x ∷ l) (all_same xs)

  sorted : (xs : List X) → ascends before xs ≡ true → IsStrictlySortedBy order xs
  sorted xs h = subst (IsStrictlySortedBy order) (all_same xs) (in_order order o before (λ x. x) is xs h)

  one_list : (xs ys : List X) → ascends before xs ≡ true → ascends before ys ≡ true → ((z : X) → find (λ w. is_eq (order z w)) xs ≡ find (λ w. is_eq (order z w)) ys) → xs ≡ ys
  one_list xs ys h k e = same_list order o xs ys (sorted xs h) (sorted ys k) e

abbrev table_order : TableRow → TableRow → Ordering
table_order a b = place_cmp (a.db, a.key) (b.db, b.key)

row_test : (z : TableRow) (table : List TableRow) → find (λ w. is_eq (table_order z w)) table ≡ row_at z.db z.key table
row_test z table = λ i. find (λ w. sym (tied_then (nat_cmp z.db w.db) (key_cmp z.key w.key)) i) table

one_table : (a b : List TableRow) → ascends row_before a ≡ true → ascends row_before b ≡ true → ((db : ℕ) (key : List ℕ) → row_at db key a ≡ row_at db key b) → a ≡ b
one_table a b h k e =
    one_list table_order (on_total (λ r. (r.db, r.key)) place_total) row_before (λ x y. sym (is_lt_then (nat_lt x.db y.db) (x.db == y.db) (key_cmp x.key y.key))) a b h k
    (λ z. row_test z a ∙ e z.db z.key ∙ sym (row_test z b))

one_volatile : (pulls : List Pull) (m n : Merged) → IsVolatileMerge pulls m → IsVolatileMerge pulls n → m ≡ n
one_volatile pulls m n a b =
    let table = one_table m.table n.table a.1 b.1 (λ db key. a.2 db key ∙ sym (b.2 db key)) in
    let parent = a.0 ∙ sym b.0 in
    λ i. record { parent = parent i; table = table i }

abbrev ptable_order : PTable → PTable → Ordering
ptable_order a b = nat_cmp a.db b.db

one_persistent : (pulls : List Pull) (m n : PMerged) → IsPersistentMerge pulls m → IsPersistentMerge pulls n → m ≡ n
one_persistent pulls m n a b =
    let ptables = one_list ptable_order (on_total (λ p. p.db) nat_cmp_total) ptable_before (λ x y. sym (is_lt_nat (nat_lt x.db y.db) (x.db == y.db))) m.ptables n.ptables a.1 b.1 (λ z. a.2 z.db ∙ sym (b.2 z.db)) in
    let parent = a.0 ∙ sym b.0 in
    λ i. record { parent = parent i; ptables = ptables i }

abbrev assigned_order : Assigned → Assigned → Ordering
assigned_order a b = address_cmp a.address b.address

one_assigned : (pulls : List Pull) (m n : List Assigned) → IsAddressMerge pulls m → IsAddressMerge pulls n → m ≡ n
one_assigned pulls m n a b = one_list assigned_order (on_total (λ x. x.address) address_total) assigned_before (λ x y. refl) m n a.0 b.0 (λ z. a.1 z.address ∙ sym (b.1 z.address))

-- what the rule makes of pulls is one
pub one_merge : (pulls : List Pull) (m n : MergedAll) → IsMerge pulls m → IsMerge pulls n → m ≡ n
one_merge pulls m n a b =
    let table = one_volatile pulls m.table n.table a.0 b.0 in
    let ptables = one_persistent pulls m.ptables n.ptables a.1 b.1 in
    let assigned = one_assigned pulls m.assigned n.assigned a.2 b.2 in
    λ i. record { table = table i; ptables = ptables i; assigned = assigned i }
