use Rattle.std.proofs.Common.{◌≡◌, ◌∙◌, ℕ, List, [], ◌∷◌, ◌++◌, length, ap, sym, subst}
use Rattle.ct_rules_cluster.specs.declared.step.Step.TheVariants as step
use Rattle.ct_law_journal_schedule.specs.Scheduling.{steps_for}
use Rattle.ct_journal_join.proofs.scheduler.Scheduler.add_steps.Goals as goal
use Rattle.ct_journal_join.specs.Passing.{Queueing}
use Rattle.ct_journal_join.specs.Queues.{Carry}

pub returns-in_ok-push-in-Arrive : goal.returns-in_ok-push-in-Arrive
unfolding steps_for
returns-in_ok-push-in-Arrive c k a =
    let node = c.args.node in
    let sender = c.in-Arrive.frame.sender in
    let nodes = length c.args.self.now.front.taken in
    let carried : Carry nodes c.args.self.now.outgoing k.carried = a.carried in
    let queues : c.as_slice.result.now ≡ c.args.self.now.outgoing = c.as_slice.ensures.value ∙ ap (λ (q : Queueing). q.outgoing) c.self.view_is in
    let first = c.first_between-number.ensures nodes k.carried (subst (λ (qs : List (List (List ℕ))). Carry nodes qs k.carried) (sym queues) carried) c.requires in
    rw c.in-Arrive.is (c.in_ok-push-in-Arrive.ensures.items ∙ ap (λ (m : ℕ). c.args.steps.now.items ++ step.Deliver m ∷ []) first)
