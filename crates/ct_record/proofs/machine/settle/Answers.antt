use Rattle.ct_record.proofs.Machines.{settles}
use Rattle.ct_record.proofs.machine.settle.Goals as goal

-- what is put in place of the record is the draft
pub returns : goal.returns
returns c =
    settles
    c.args.draft
    (record { state = c.draft.inside.state; next = c.draft.inside.next; floor = c.draft.inside.floor; acts = c.draft.inside.acts; spent = c.draft.inside.spent })
    c.into_inner.result
    (record { state = c.args.state.now; next = c.args.next_request.now; acts = c.args.acts.now })
    c.into_vec.result.items
    c.append.new.self
    c.draft.view_is
    c.if-draft.false
    c.into_inner.ensures
    c.into_vec.ensures
    c.in_ok-append.ensures.ok
