use Rattle.std.proofs.Common.{sym, subst, ◌∙◌, ap}
use Rattle.std.specs.Ordering.{nat_cmp}
use Rattle.std.specs.Cmp.{nat_cmp_total}
use Rattle.std.specs.List.Sorted.{IsStrictlySortedBy}
use Rattle.ct_merge.specs.Held.{row_order, row_rank, ptable_order, ptable_rank, address_order, address_rank, held_addresses}
use Rattle.ct_merge.specs.Orders.{row_order_total, ptable_order_total, address_order_total}
use Rattle.ct_merge.proofs.Ordered.{one_item, rows_ascend, ptables_ascend, addresses_ascend, joined_ascends}
use Rattle.ct_merge.proofs.merging.Merging.add.Goals as goal

pub join-requires-clause-ascends : goal.join-requires-clause-ascends
join-requires-clause-ascends c = subst (IsStrictlySortedBy nat_cmp) (sym c.in_ok-nodes.ensures.items) (one_item nat_cmp c.args.pull.node)

pub join-requires-2-clause-ascends : goal.join-requires-2-clause-ascends
join-requires-2-clause-ascends c = subst (IsStrictlySortedBy row_order) (sym c.in_ok-rows.ensures) (rows_ascend c.args.pull c.requires)

pub join-requires-3-clause-ascends : goal.join-requires-3-clause-ascends
join-requires-3-clause-ascends c = subst (IsStrictlySortedBy ptable_order) (sym c.in_ok-ptables.ensures) (ptables_ascend c.args.pull c.requires)

pub join-requires-4-clause-ascends : goal.join-requires-4-clause-ascends
join-requires-4-clause-ascends c =
    subst (IsStrictlySortedBy address_order) (sym (c.in_ok-addresses.ensures ∙ ap (held_addresses c.args.pull.node) c.as_slice.ensures)) (addresses_ascend c.args.pull c.requires)

pub invariant_of-self : goal.invariant_of-self
invariant_of-self c =
    let nodes = subst (IsStrictlySortedBy nat_cmp) (sym c.in_ok-nodes.ensures.items) (one_item nat_cmp c.args.pull.node) in
    let rows = subst (IsStrictlySortedBy row_order) (sym c.in_ok-rows.ensures) (rows_ascend c.args.pull c.requires) in
    let ptables = subst (IsStrictlySortedBy ptable_order) (sym c.in_ok-ptables.ensures) (ptables_ascend c.args.pull c.requires) in
    let addresses = subst (IsStrictlySortedBy address_order) (sym (c.in_ok-addresses.ensures ∙ ap (held_addresses c.args.pull.node) c.as_slice.ensures)) (addresses_ascend c.args.pull c.requires) in (
      subst (IsStrictlySortedBy nat_cmp) (sym c.join.ensures) (joined_ascends nat_cmp nat_cmp nat_cmp_total 0 _ 0 _ c.self.invariant.0 nodes),
      subst (IsStrictlySortedBy row_order) (sym c.join-2.ensures) (joined_ascends row_order row_rank row_order_total c.self.inside.vbase _ c.args.pull.vbase _ c.self.invariant.1 rows),
      subst (IsStrictlySortedBy ptable_order) (sym c.join-3.ensures) (joined_ascends ptable_order ptable_rank ptable_order_total c.self.inside.pbase _ c.args.pull.pbase _ c.self.invariant.2 ptables),
      subst (IsStrictlySortedBy address_order) (sym c.join-4.ensures) (joined_ascends address_order address_rank address_order_total 0 _ 0 _ c.self.invariant.3 addresses),
    )
