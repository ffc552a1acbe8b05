-- The orders of what members hold are total.
use Rattle.std.specs.Cmp.{IsTotalOrder, nat_cmp_total, bool_cmp_total, on_total, back_total, then_total}
use Rattle.std.specs.Cmp.Lexicographic.{nat_list_cmp_total}
use Rattle.ct_values.proofs.AddressOrder.{address_total}
use Rattle.ct_merge.specs.Held.{is_own, row_order, row_rank, ptable_order, ptable_rank, address_order, address_rank}

pub row_order_total : IsTotalOrder row_order
row_order_total = then_total (on_total (λ h. h.row.db) nat_cmp_total) (on_total (λ h. h.row.key) nat_list_cmp_total)

pub ptable_order_total : IsTotalOrder ptable_order
ptable_order_total = on_total (λ h. h.ptable.db) nat_cmp_total

pub address_order_total : IsTotalOrder address_order
address_order_total = on_total (λ h. h.address) address_total

pub row_rank_total : IsTotalOrder row_rank
row_rank_total = then_total (then_total (on_total (λ h. h.row.rsn) (back_total nat_cmp_total)) (on_total is_own (back_total bool_cmp_total))) (on_total (λ h. h.node) nat_cmp_total)

pub ptable_rank_total : IsTotalOrder ptable_rank
ptable_rank_total = then_total (on_total (λ h. h.ptable.seq) (back_total nat_cmp_total)) (on_total (λ h. h.node) nat_cmp_total)

pub address_rank_total : IsTotalOrder address_rank
address_rank_total = on_total (λ h. h.node) nat_cmp_total
