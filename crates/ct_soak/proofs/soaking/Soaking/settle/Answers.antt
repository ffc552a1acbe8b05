use Rattle.std.proofs.Common.{rules, ◌≡◌, false, Some, arith}
use Rattle.ct_call.specs.Shown.{rules_of}
use Rattle.ct_rules_cluster.specs.Steps.{applied}
use Rattle.ct_rules_cluster.specs.declared.step.Step.TheVariants as step
use Rattle.ct_mail.specs.Mail.{next_waiting}
use Rattle.ct_soak.specs.Counts.{is_taken}
use Rattle.ct_soak.specs.Soaking.{settled, soak_config}
use Rattle.ct_soak.proofs.Settling.{ends_all, ends_out}
use Rattle.ct_soak.proofs.soaking.Soaking.settle.Goals as goal

pub returns-then-not-branch-clause-took : goal.returns-then-not-branch-clause-took
returns-then-not-branch-clause-took g c =
    let functions = rules_of c.args.table.now in
    let waits : next_waiting c.loop-i.self.cluster.sent ≡ Some c.in-Some.number = search rules in
    let out : is_taken (applied soak_config functions c.loop-i.self.cluster (step.Deliver c.in-Some.number)) ≡ false = search rules in
    ends_out functions c.args.count c.loop-i.i c.loop-i.self (settled functions c.args.count c.args.self.now) c.in-Some.number c.take.new.self
    (omega (arith, c.loop-i-test.true)) waits out c.in_ok-take.ensures.took c.loop-i.invariant.left

pub returns-clause-took : goal.returns-clause-took
returns-clause-took g c =
    let functions = rules_of c.args.table.now in
    ends_all functions c.args.count c.loop-i.i c.loop-i.self (settled functions c.args.count c.args.self.now) (omega (arith, c.loop-i-test.false)) c.loop-i.invariant.left
