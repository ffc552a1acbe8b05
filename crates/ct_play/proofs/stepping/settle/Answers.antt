use Rattle.std.proofs.Common.{◌∙◌, ◌+◌, ◌-◌, sym, ap, arith}
use Rattle.ct_call.specs.Shown.{rules_of}
use Rattle.ct_mail.specs.Mail.{next_waiting}
use Rattle.ct_rules_cluster.specs.declared.step.Step.TheVariants as step
use Rattle.ct_play.specs.Effect.{delivery, stepped}
use Rattle.ct_play.proofs.Coming.{Next, begins, came, ends, fails, none_comes}
use Rattle.ct_play.proofs.stepping.settle.Goals as goal

pub returns-in-Err : goal.returns-in-Err
returns-in-Err g c =
    let rules = rules_of c.args.table.now in
    let next : Next = λ v k. delivery rules v k (next_waiting v.cluster.sent) in
    let w = c.loop-i.world in
    let k = c.loop-i.walker in
    fails next c.args.count c.args.world.now c.args.walker.now w c.deliver.new.world c.deliver.new.world k c.deliver.new.walker c.deliver.new.walker (c.args.count - c.loop-i.i) (c.args.count - (c.loop-i.i + 1))
    (stepped rules w k (step.Deliver c.in-Some.number)) c.in-Err.fault c.args.texts.now.items c.loop-i.texts.items c.deliver.new.texts.items
    (omega (arith, c.loop-i-test.true)) (ap (delivery rules w k) (sym c.next_waiting.ensures ∙ c.in-Some.is)) c.in-Err.ensures c.loop-i.invariant.left

pub returns-in-None : goal.returns-in-None
returns-in-None g c =
    let rules = rules_of c.args.table.now in
    let next : Next = λ v k. delivery rules v k (next_waiting v.cluster.sent) in
    let w = c.loop-i.world in
    let k = c.loop-i.walker in
    none_comes next c.args.count c.args.world.now c.args.walker.now w k (c.args.count - c.loop-i.i) (c.args.count - (c.loop-i.i + 1)) c.args.texts.now.items c.loop-i.texts.items
    (omega (arith, c.loop-i-test.true)) (ap (delivery rules w k) (sym c.next_waiting.ensures ∙ c.in-None.is)) c.loop-i.invariant.left

pub loop-i-init : goal.loop-i-init
loop-i-init g c =
    let rules = rules_of c.args.table.now in
    let next : Next = λ v k. delivery rules v k (next_waiting v.cluster.sent) in
    record { within = omega arith; left = begins next c.args.count (c.args.count - 0) c.args.world.now c.args.walker.now c.args.texts.now.items (omega arith) }

pub loop-i-preserved : goal.loop-i-preserved
loop-i-preserved g c =
    let rules = rules_of c.args.table.now in
    let next : Next = λ v k. delivery rules v k (next_waiting v.cluster.sent) in
    let w = c.loop-i.world in
    let k = c.loop-i.walker in
    record {
      within = omega (arith, c.loop-i-test.true);
      left = came next c.args.count c.args.world.now c.args.walker.now w c.deliver.new.world k c.deliver.new.walker (c.args.count - c.loop-i.i) (c.args.count - (c.loop-i.i + 1))
          (stepped rules w k (step.Deliver c.in-Some.number)) c.args.texts.now.items c.loop-i.texts.items c.deliver.new.texts.items
          (omega (arith, c.loop-i-test.true)) (ap (delivery rules w k) (sym c.next_waiting.ensures ∙ c.in-Some.is)) c.in-Ok.ensures c.loop-i.invariant.left;
    }

pub returns : goal.returns
returns g c =
    let rules = rules_of c.args.table.now in
    let next : Next = λ v k. delivery rules v k (next_waiting v.cluster.sent) in
    ends next c.args.count c.args.world.now c.args.walker.now c.loop-i.world c.loop-i.walker (c.args.count - c.loop-i.i) c.args.texts.now.items c.loop-i.texts.items
    (omega (arith, c.loop-i-test.false)) c.loop-i.invariant.left
