use Rattle.std.proofs.Common.{subst}
use Rattle.ct_call.specs.Shown.{rules_of}
use Rattle.ct_journal.specs.Order.{AreInOrder}
use Rattle.ct_journal_order.specs.Order.{IsAnswer}
use Rattle.ct_troupe_threads.proofs.Meshing.{ends_played, ends_turned}
use Rattle.ct_troupe_threads.proofs.meshed.play_over_streams.Goals as goal

pub returns-in-Some-clause-played : goal.returns-in-Some-clause-played
returns-in-Some-clause-played g c =
    let answer = subst (λ o. IsAnswer c.as_slice.result.now o) c.in-Some.is c.in_ok-in_order.ensures in
    ends_played (rules_of c.args.table.now) c.args.plan.now c.in_ok-all.all.items c.in_ok-ends.ends.items c.in_ok-left.left.journals.items c.requires.sound c.in_ok-all.ensures.count c.in_ok-all.ensures.each c.in_ok-ends.ensures.ends c.in_ok-left.ensures.journals
    (subst (λ js. AreInOrder js) c.as_slice.ensures.value answer.0)

pub returns-in-Some-clause-turns : goal.returns-in-Some-clause-turns
returns-in-Some-clause-turns g c =
    ends_turned (rules_of c.args.table.now) c.args.plan.now c.in_ok-all.all.items c.in_ok-ends.ends.items c.in_ok-left.left.tallies.items c.in_ok-all.ensures.count c.in_ok-all.ensures.each c.in_ok-ends.ensures.ends c.in_ok-left.ensures.tallies
