use Rattle.ct_call.specs.Shown.{rules_of}
use Rattle.ct_record.proofs.Machines.{steps_made, in_form_after, in_form_here}
use Rattle.ct_record.proofs.machine.step.Goals as goal

-- a step of what the event makes of a state in form leaves one in form
pub returns-clause-in_form : goal.returns-clause-in_form
returns-clause-in_form g c =
    let at = c.args.at.now in
    let rules = rules_of c.args.table.now in
    let e = c.args.event.now in
    in_form_here
    c.settle.result
    at
    rules
    e
    (record { state = c.args.state.now; next = c.args.next_request.now; acts = c.args.acts.now })
    (record { state = c.settle.new.state; next = c.settle.new.next_request; acts = c.settle.new.acts })
    c.requires.in_form
    c.requires.may_come
    (steps_made
    c.settle.result
    at
    rules
    e
    (record { state = c.args.state.now; next = c.args.next_request.now; acts = c.args.acts.now })
    (record { state = c.settle.new.state; next = c.settle.new.next_request; acts = c.settle.new.acts })
    c.in_ok-draft.draft
    c.in_ok-draft.ensures
    c.settle.ensures)

pub returns-clause-keeps_form : goal.returns-clause-keeps_form
returns-clause-keeps_form g c =
    in_form_after
    c.settle.result
    c.args.at.now
    (rules_of c.args.table.now)
    c.args.event.now
    c.args.state.now
    c.args.next_request.now
    c.requires.in_form
    c.requires.may_come
