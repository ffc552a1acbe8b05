use Rattle.std.proofs.Common.{◌≡◌, ◌∙◌, ℕ, ◌+◌, ◌++◌, List, length, ap, ap₂, subst, sym}
use Rattle.ct_frame.specs.declared.event.Out.{Out}
use Rattle.ct_journal.specs.Order.{frames_in, front_after, taken_of}
use Rattle.ct_journal_join.proofs.Passing.{passed}
use Rattle.ct_journal_join.proofs.scheduler.Scheduler.pass.Goals as goal
use Rattle.ct_journal_join.specs.Passing.{AgreesWith, Queueing}
use Rattle.ct_journal_join.specs.Queues.{Carry}
use Rattle.ct_law_journal_schedule.specs.Scheduling.{carried_after, carried_of}

pub returns : goal.returns
unfolding front_after taken_of
returns c k a =
    let n : ℕ = c.args.node in
    let x = c.args.entry.now in
    let s = c.self.inside in
    let q : Queueing = record { front = record { taken = s.taken.items; ticket = s.ticket }; sent = s.sent; outgoing = s.outgoing.items; holder = s.holder } in
    let outs : c.as_slice.result.now ≡ x.outs = c.as_slice.ensures in
    passed n x k q
    (record { front = record { taken = c.count_taken.new.taken.items; ticket = c.ticket_after-self-inside.result }; sent = c.in_ok-self-inside.field-0; outgoing = c.post.new.senders.items; holder = c.holder_after-self-inside.result })
    (subst (λ (p : Queueing). AgreesWith k p) (sym c.self.view_is) a)
    (ap₂ (λ ts t. record { taken = ts; ticket = t }) c.count_taken.ensures c.ticket_after-self-inside.ensures)
    (c.in_ok-self-inside.ensures.sent ∙ ap (λ (xs : List Out). s.sent + length (frames_in xs)) outs)
    c.holder_after-self-inside.ensures
    (λ nodes ms h. subst (λ (xs : List Out). Carry nodes c.post.new.senders.items (carried_after n x.event ms ++ carried_of n (s.sent + 1) (frames_in xs))) outs (c.in_ok-self-inside.ensures.carried nodes (carried_after n x.event ms) (c.drop_arrived.ensures.carried nodes ms h)))
