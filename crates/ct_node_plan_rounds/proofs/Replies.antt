-- What a member tells.
use Rattle.std.proofs.Common.{◌≡◌, ◌∙◌, Bool, true, ◌&&◌, ap}
use Rattle.std.proofs.lemmas.Bool.{and_parts}
use Rattle.std.specs.List.{list_all}
use Rattle.ct_frame.specs.Fields.{are_addresses, are_ptables, are_rows, ascends, is_below_limit, is_message, is_own_or_none, is_ptable, is_row, ptable_before, row_before}
use Rattle.ct_frame.specs.declared.frame.Msg.TheVariants as msg
use Rattle.ct_frame.specs.declared.round.Pull.{Pull}
use Rattle.ct_merge.specs.Held.{is_in_order}

both : (a b : Bool) → a ≡ true → b ≡ true → (a && b) ≡ true
both a b p q = ap (λ (x : Bool). x && b) p ∙ q

-- what a member tells is in order
pub pull_in_order : (pull : Pull) → is_message pull.node (msg.PullReply pull.vbase pull.pbase pull.table pull.ptables pull.addresses) ≡ true → is_in_order pull ≡ true
pull_in_order pull h =
    let four = and_parts (is_below_limit pull.vbase && is_below_limit pull.pbase && are_rows (is_own_or_none pull.node) pull.table && are_ptables pull.ptables) (are_addresses pull.addresses) h in
    let three = and_parts (is_below_limit pull.vbase && is_below_limit pull.pbase && are_rows (is_own_or_none pull.node) pull.table) (are_ptables pull.ptables) four.0 in
    let two = and_parts (is_below_limit pull.vbase && is_below_limit pull.pbase) (are_rows (is_own_or_none pull.node) pull.table) three.0 in
    both (ascends row_before pull.table && ascends ptable_before pull.ptables) (are_addresses pull.addresses)
    (both (ascends row_before pull.table) (ascends ptable_before pull.ptables) (and_parts (list_all (is_row (is_own_or_none pull.node)) pull.table) (ascends row_before pull.table) two.1).1
    (and_parts (list_all is_ptable pull.ptables) (ascends ptable_before pull.ptables) three.1).1) four.1
