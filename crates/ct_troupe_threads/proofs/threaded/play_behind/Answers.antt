use Rattle.std.proofs.Common.{◌≡◌, map, subst}
use Rattle.std.specs.Prelude.{IfSome, MatchBool}
use Rattle.ct_call.specs.Shown.{rules_of}
use Rattle.ct_troupe_threads.proofs.Threading.{are_played, few_journals}
use Rattle.ct_troupe_threads.specs.Threaded.{AreSettled, served}
use Rattle.ct_troupe_threads.proofs.threaded.play_behind.Goals as goal

pub returns-then-branch-clause-played : goal.returns-then-branch-clause-played
returns-then-branch-clause-played g c =
    let gathered = subst (λ o. IfSome o (λ v. c.in_ok-all.all.items ≡ map served v.items)) c.in-Some.is c.in_ok-journals.ensures in
    let settled = subst (λ b. MatchBool b (AreSettled c.as_slice.result.now) (AreSettled c.as_slice.result.now → ⊥)) c.if-branch.true c.in_ok-are_settled.ensures in
    are_played (rules_of c.args.table.now) c.args.plan.now c.in_ok-all.all.items c.in-Some.journals.items c.requires c.in_ok-all.ensures.count c.in_ok-all.ensures.each gathered
    (subst (λ js. AreSettled js) c.as_slice.ensures.value settled).in_order
