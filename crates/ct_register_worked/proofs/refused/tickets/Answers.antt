-- Each run, as it was shown.
use Rattle.ct_register_worked.proofs.Refusals.{ticket_while_held, ticket_left_out, yielded_by_another}
use Rattle.ct_register_worked.proofs.refused.tickets.Goals as goal

pub returns-clause-ticket_while_held : goal.returns-clause-ticket_while_held
returns-clause-ticket_while_held c = ticket_while_held

pub returns-clause-ticket_left_out : goal.returns-clause-ticket_left_out
returns-clause-ticket_left_out c = ticket_left_out

pub returns-clause-yielded_by_another : goal.returns-clause-yielded_by_another
returns-clause-yielded_by_another c = yielded_by_another
