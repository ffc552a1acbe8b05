use Rattle.ct_merge.specs.Orders.{row_rank_total, ptable_rank_total, address_rank_total}
use Rattle.ct_law_merge.proofs.laws.ranks_are_total.Goals as goal

pub returns : goal.returns
returns c = record { rows = row_rank_total; ptables = ptable_rank_total; addresses = address_rank_total }
