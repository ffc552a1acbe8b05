use Rattle.ct_law_journal_reach.proofs.Whole.{in_order_have_own_tickets, in_order_is_never_stuck}
use Rattle.ct_law_journal_reach.proofs.laws.in_order_is_never_stuck.Goals as goal

pub returns : goal.returns
returns c = record { counts = in_order_is_never_stuck; tickets = in_order_have_own_tickets }
