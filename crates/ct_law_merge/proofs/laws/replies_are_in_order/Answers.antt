use Rattle.std.proofs.Common.{◌≡◌, Bool, true, ◌&&◌, arith}
use Rattle.std.specs.List.{list_all}
use Rattle.ct_frame.specs.Fields.{ascends, are_addresses, is_below_limit, is_own_or_none, is_ptable, is_row, ptable_before, row_before}
use Rattle.ct_law_merge.proofs.laws.replies_are_in_order.Goals as goal

of_all : (v p rows r tables t addresses : Bool) → (v && p && (rows && r) && (tables && t) && addresses) ≡ true → (r && t && addresses) ≡ true
of_all v p rows r tables t addresses h = grind arith

pub returns : goal.returns
returns c = λ node p h. of_all (is_below_limit p.vbase) (is_below_limit p.pbase) (list_all (is_row (is_own_or_none node)) p.table) (ascends row_before p.table) (list_all is_ptable p.ptables) (ascends ptable_before p.ptables) (are_addresses p.addresses) h
