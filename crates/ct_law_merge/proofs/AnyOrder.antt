-- What is gathered does not depend on the order in which the pulls come.
use Rattle.std.proofs.Common.{◌≡◌, ◌≤◌, ℕ, Bool, true, false, ◌==◌, List, [], ◌∷◌, inl, inr, refl, sym, ◌∙◌, ap, subst, arith}
use Rattle.std.specs.Prelude.{◌↔◌, if◌then◌else◌, Contains, map}
use Rattle.std.specs.declared.cmp.Ordering.{Ordering}
use Rattle.std.specs.declared.cmp.Ordering.TheVariants.{Less, Equal, Greater}
use Rattle.std.specs.Ordering.{is_eq, nat_cmp, bool_cmp, ordering_then}
use Rattle.std.specs.Cmp.{IsTotalOrder, alike_right, nat_cmp_total}
use Rattle.std.specs.List.{filter, find, list_all}
use Rattle.std.specs.List.Sorted.{IsStrictlySortedBy}
use Rattle.std.proofs.lemmas.Bool.{and_from, and_parts}
use Rattle.ct_frame.specs.declared.frame.TableRow.{TableRow}
use Rattle.ct_frame.specs.declared.round.Pull.{Pull}
use Rattle.ct_merge.specs.declared.held.HeldRow.{HeldRow}
use Rattle.ct_merge.specs.declared.held.HeldPTable.{HeldPTable}
use Rattle.ct_merge.specs.Placing.{best_from, best}
use Rattle.ct_merge.specs.Held.{is_in_order, is_own, held_rows, row_order, row_rank, ptable_order, ptable_rank, address_order, address_rank, rows_of, ptables_of, addresses_of}
use Rattle.ct_merge.specs.Orders.{row_order_total, row_rank_total, ptable_order_total, ptable_rank_total, address_order_total, address_rank_total}
use Rattle.ct_merge.specs.Gathered.{nothing, gathered_all, greater}
use Rattle.ct_merge.specs.Rule.{are_in_order, greatest, told, HasOneOfEach}
use Rattle.ct_merge.proofs.Ordered.{rows_ascend, ptables_ascend, addresses_ascend, no_items, one_item}
use Rattle.ct_law_merge.proofs.Folding.{based, based_is, all_joined, all_joined_ascends, find_all_joined}
use Rattle.ct_law_merge.proofs.Rules.{gathered_vbase, gathered_pbase, gathered_rows, gathered_ptables, gathered_addresses, gathered_nodes, from_zero, none_yet, equal}
use Rattle.ct_merge.proofs.Among.{In, in_of, contains_of, in_filter, into_filter, told_by, told_too, same_best, one_there, same_list}

each_of : (test : Pull → Bool) (pulls : List Pull) → list_all test pulls ≡ true → (p : Pull) → In p pulls → test p ≡ true
each_of test [] h p i = absurd i
each_of test (q ∷ qs) h p (inl e) = subst (λ z. test z ≡ true) e (and_parts _ _ h).0
each_of test (q ∷ qs) h p (inr i) = each_of test qs (and_parts _ _ h).1 p i

all_of : (test : Pull → Bool) (pulls : List Pull) → ((p : Pull) → In p pulls → test p ≡ true) → list_all test pulls ≡ true
all_of test [] h = refl
all_of test (q ∷ qs) h = and_from _ _ (h q (inl refl)) (all_of test qs (λ p i. h p (inr i)))

greater_left : (a b c : ℕ) → c ≤ a → c ≤ greater a b
greater_left a b c h = grind arith

greater_right : (a b c : ℕ) → c ≤ b → c ≤ greater a b
greater_right a b c h = grind arith

greater_most : (a b c : ℕ) → a ≤ c → b ≤ c → greater a b ≤ c
greater_most a b c h k = grind arith

no_less : (a : ℕ) → a ≤ a
no_less a = omega arith

one_number : (a b : ℕ) → a ≤ b → b ≤ a → a ≡ b
one_number a b h k = omega arith

at_most : (base : Pull → ℕ) (pulls : List Pull) (p : Pull) → In p pulls → base p ≤ greatest base pulls
at_most base [] p i = absurd i
at_most base (q ∷ qs) p (inl e) = greater_left (base q) (greatest base qs) (base p) (subst (λ z. base z ≤ base q) e (no_less (base q)))
at_most base (q ∷ qs) p (inr i) = greater_right (base q) (greatest base qs) (base p) (at_most base qs p i)

no_more : (base : Pull → ℕ) (pulls : List Pull) (m : ℕ) → ((p : Pull) → In p pulls → base p ≤ m) → greatest base pulls ≤ m
no_more base [] m h = omega arith
no_more base (q ∷ qs) m h = greater_most (base q) (greatest base qs) m (h q (inl refl)) (no_more base qs m (λ p i. h p (inr i)))

same_greatest : (base : Pull → ℕ) (pulls others : List Pull) → ((p : Pull) → In p pulls → In p others) → ((p : Pull) → In p others → In p pulls) → greatest base pulls ≡ greatest base others
same_greatest base pulls others there back = one_number _ _ (no_more base pulls _ (λ p i. at_most base others p (there p i))) (no_more base others _ (λ p i. at_most base pulls p (back p i)))

module _ {X : Type 0} (order rank : X → X → Ordering) (o : IsTotalOrder order) (base : Pull → ℕ) (held : Pull → List X) (holds : (pull : Pull) → is_in_order pull ≡ true → IsStrictlySortedBy order (held pull)) where
  -- at each place stands the best of what the pulls of the greatest base hold there
  pub found_at : (z : X) (ps : List Pull) → are_in_order ps ≡ true → find (λ x. is_eq (order z x)) (all_joined order rank base held ps 0 []) ≡ best rank (filter (λ x. is_eq (order z x)) (told base held (greatest base ps) ps))
  found_at z ps k =
      find_all_joined order rank o base held holds (λ x. is_eq (order z x)) (λ x y h. ap is_eq (alike_right o x y z h)) (λ x y p q. sym (o.congr z x y (equal _ p)) ∙ equal _ q) ps 0 [] k (no_items order) (greatest base ps) (sym (based_is base ps 0 ∙ from_zero _))
      ∙ ap (λ f. best_from rank f (filter (λ x. is_eq (order z x)) (told base held (greatest base ps) ps))) (none_yet (0 == greatest base ps) (λ x. is_eq (order z x)))

module _ {X : Type 0} (order rank : X → X → Ordering) (o : IsTotalOrder order) (r : IsTotalOrder rank) (node : X → ℕ) (by_node : (x y : X) → rank x y ≡ Equal → node x ≡ node y)
    (base : Pull → ℕ) (held : Pull → List X) (holds : (pull : Pull) → is_in_order pull ≡ true → IsStrictlySortedBy order (held pull)) (at_node : (pull : Pull) (x : X) → In x (held pull) → node x ≡ pull.node) where
  same_items : (pulls others : List Pull) → are_in_order pulls ≡ true → are_in_order others ≡ true → ((p q : Pull) → In p pulls → In q pulls → p.node ≡ q.node → p ≡ q)
      → ((p : Pull) → In p pulls → In p others) → ((p : Pull) → In p others → In p pulls) → all_joined order rank base held pulls 0 [] ≡ all_joined order rank base held others 0 []
  same_items pulls others k l apart there back =
      same_list order o _ _ (all_joined_ascends order rank o base held holds pulls 0 [] k (no_items order)) (all_joined_ascends order rank o base held holds others 0 [] l (no_items order))
      (λ z. found_at order rank o base held holds z pulls k ∙ same_best rank r _ _ (over z pulls others there) (over z others pulls back) (alone z) ∙ ap (λ p. best rank (filter (λ x. is_eq (order z x)) (told base held p others))) (same_greatest base pulls others there back) ∙ sym (found_at order rank o base held holds z others l))
    where
      over : (z : X) (ps qs : List Pull) → ((p : Pull) → In p ps → In p qs) → (x : X) → In x (filter (λ x. is_eq (order z x)) (told base held (greatest base pulls) ps)) → In x (filter (λ x. is_eq (order z x)) (told base held (greatest base pulls) qs))
      over z ps qs h x i =
          let j = in_filter (λ x. is_eq (order z x)) (told base held (greatest base pulls) ps) x i in
          into_filter (λ x. is_eq (order z x)) (told base held (greatest base pulls) qs) x (told_too base held (greatest base pulls) ps qs h x j.0) j.1

      alone : (z x y : X) → In x (filter (λ x. is_eq (order z x)) (told base held (greatest base pulls) pulls)) → In y (filter (λ x. is_eq (order z x)) (told base held (greatest base pulls) pulls)) → rank x y ≡ Equal → x ≡ y
      alone z x y i j e =
          let a = in_filter (λ x. is_eq (order z x)) (told base held (greatest base pulls) pulls) x i in
          let b = in_filter (λ x. is_eq (order z x)) (told base held (greatest base pulls) pulls) y j in
          let s = told_by base held (greatest base pulls) pulls x a.0 in
          let t = told_by base held (greatest base pulls) pulls y b.0 in
          let same = apart s.pull t.pull s.among t.among (sym (at_node s.pull x s.has) ∙ by_node x y e ∙ at_node t.pull y t.has) in
          one_there order o (held s.pull) x y (holds s.pull (each_of is_in_order pulls k s.pull s.among)) s.has (subst (λ p. In y (held p)) (sym same) t.has) (sym (o.congr z x y (equal _ a.1)) ∙ equal _ b.1)

equal_numbers : (a b : ℕ) → nat_cmp a b ≡ Equal → a ≡ b
equal_numbers a b e = grind arith

then_equal : (p q : Ordering) → ordering_then p q ≡ Equal → q ≡ Equal
then_equal Less q e = absurd (cc)
then_equal Equal q e = e
then_equal Greater q e = absurd (cc)

rows_by_node : (x y : HeldRow) → row_rank x y ≡ Equal → x.node ≡ y.node
rows_by_node x y e = equal_numbers x.node y.node (then_equal (ordering_then (nat_cmp y.row.rsn x.row.rsn) (bool_cmp (is_own y) (is_own x))) (nat_cmp x.node y.node) e)

ptables_by_node : (x y : HeldPTable) → ptable_rank x y ≡ Equal → x.node ≡ y.node
ptables_by_node x y e = equal_numbers x.node y.node (then_equal (nat_cmp y.ptable.seq x.ptable.seq) (nat_cmp x.node y.node) e)

-- the node of each item is that of its pull
rows_at_node : (node : ℕ) (table : List TableRow) (x : HeldRow) → In x (held_rows node table) → x.node ≡ node
rows_at_node node [] x i = absurd i
rows_at_node node (t ∷ ts) x (inl e) = ap (λ h. h.node) (sym e)
rows_at_node node (t ∷ ts) x (inr i) = rows_at_node node ts x i

based_at_node : (pull : Pull) (x : HeldRow) → In x (rows_of pull) → x.node ≡ pull.node
based_at_node pull x i =
    elim (pull.vbase == 0) as (λ b. In x (if b then [] else held_rows pull.node pull.table) → x.node ≡ pull.node) [ true ↦ λ i. absurd i | false ↦ λ i. rows_at_node pull.node pull.table x i ] i

module _ {X Y : Type 0} (node : X → ℕ) (f : Y → X) (n : ℕ) (is : (y : Y) → node (f y) ≡ n) where
  mapped_at_node : (ys : List Y) (x : X) → In x (map f ys) → node x ≡ n
  mapped_at_node [] x i = absurd i
  mapped_at_node (y ∷ ys) x (inl e) = ap node (sym e) ∙ is y
  mapped_at_node (y ∷ ys) x (inr i) = mapped_at_node ys x i

node_alone : (pull : Pull) (x : ℕ) → In x (pull.node ∷ []) → x ≡ pull.node
node_alone pull x (inl e) = sym e
node_alone pull x (inr i) = absurd i

same_base : (base : Pull → ℕ) (pulls others : List Pull) → ((p : Pull) → In p pulls → In p others) → ((p : Pull) → In p others → In p pulls) → based base pulls 0 ≡ based base others 0
same_base base pulls others there back = based_is base pulls 0 ∙ ap (greater 0) (same_greatest base pulls others there back) ∙ sym (based_is base others 0)

-- pulls of different members give the same in whatever order they come
pub any_order : (pulls others : List Pull) → are_in_order pulls ≡ true → HasOneOfEach pulls → ((p : Pull) → Contains pulls p ↔ Contains others p) → gathered_all pulls nothing ≡ gathered_all others nothing
any_order pulls others k one same = λ i. record { nodes = nodes i; vbase = vbase i; rows = rows i; pbase = pbase i; ptables = ptables i; addresses = addresses i }
  where
    there : (p : Pull) → In p pulls → In p others
    there p i = in_of others p ((same p).0 (contains_of pulls p i))

    back : (p : Pull) → In p others → In p pulls
    back p i = in_of pulls p ((same p).1 (contains_of others p i))

    l : are_in_order others ≡ true
    l = all_of is_in_order others (λ p i. each_of is_in_order pulls k p (back p i))

    apart : (p q : Pull) → In p pulls → In q pulls → p.node ≡ q.node → p ≡ q
    apart p q i j e = one p q (contains_of pulls p i) (contains_of pulls q j) e

    nodes : (gathered_all pulls nothing).nodes ≡ (gathered_all others nothing).nodes
    nodes = gathered_nodes pulls nothing ∙ same_items nat_cmp nat_cmp nat_cmp_total nat_cmp_total (λ n. n) equal_numbers (λ p. 0) (λ p. p.node ∷ []) (λ p _. one_item nat_cmp p.node) node_alone pulls others k l apart there back ∙ sym (gathered_nodes others nothing)

    vbase : (gathered_all pulls nothing).vbase ≡ (gathered_all others nothing).vbase
    vbase = gathered_vbase pulls nothing ∙ same_base (λ p. p.vbase) pulls others there back ∙ sym (gathered_vbase others nothing)

    pbase : (gathered_all pulls nothing).pbase ≡ (gathered_all others nothing).pbase
    pbase = gathered_pbase pulls nothing ∙ same_base (λ p. p.pbase) pulls others there back ∙ sym (gathered_pbase others nothing)

    rows : (gathered_all pulls nothing).rows ≡ (gathered_all others nothing).rows
    rows = gathered_rows pulls nothing ∙ same_items row_order row_rank row_order_total row_rank_total (λ h. h.node) rows_by_node (λ p. p.vbase) rows_of rows_ascend based_at_node pulls others k l apart there back ∙ sym (gathered_rows others nothing)

    ptables : (gathered_all pulls nothing).ptables ≡ (gathered_all others nothing).ptables
    ptables = gathered_ptables pulls nothing ∙ same_items ptable_order ptable_rank ptable_order_total ptable_rank_total (λ h. h.node) ptables_by_node (λ p. p.pbase) ptables_of ptables_ascend (λ p x i. mapped_at_node (λ h. h.node) (λ t. record { node = p.node; ptable = t }) p.node (λ t. refl) p.ptables x i) pulls others k l apart there back ∙ sym (gathered_ptables others nothing)

    addresses : (gathered_all pulls nothing).addresses ≡ (gathered_all others nothing).addresses
    addresses = gathered_addresses pulls nothing ∙ same_items address_order address_rank address_order_total address_rank_total (λ h. h.node) (λ x y e. equal_numbers x.node y.node e) (λ p. 0) addresses_of addresses_ascend (λ p x i. mapped_at_node (λ h. h.node) (λ a. record { node = p.node; address = a }) p.node (λ a. refl) p.addresses x i) pulls others k l apart there back ∙ sym (gathered_addresses others nothing)
