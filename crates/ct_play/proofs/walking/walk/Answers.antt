use Rattle.std.proofs.Common.{◌∙◌, ◌+◌, ◌-◌, sym, ap, arith}
use Rattle.ct_traverse_parts.specs.Posts.{next_waiting}
use Rattle.ct_play.specs.Effect.{carriage, message_carried}
use Rattle.ct_play.proofs.Coming.{Next, begins, came, ends, fails, none_comes}
use Rattle.ct_play.proofs.walking.walk.Goals as goal

pub returns-in-Err : goal.returns-in-Err
returns-in-Err c =
    let next : Next = λ v k. carriage v k (next_waiting k.posts) in
    let w = c.args.world.now in
    let k = c.loop-i.walker in
    fails next c.args.count w c.args.walker.now w w w k c.carry.new.walker c.carry.new.walker (c.args.count - c.loop-i.i) (c.args.count - (c.loop-i.i + 1))
    (message_carried w k c.in-Some.number) c.in-Err.fault c.args.texts.now.items c.loop-i.texts.items c.carry.new.texts.items
    (omega (arith, c.loop-i-test.true)) (ap (carriage w k) (sym c.next_waiting.ensures ∙ c.in-Some.is)) c.in-Err.ensures c.loop-i.invariant.left

pub returns-in-None : goal.returns-in-None
returns-in-None c =
    let next : Next = λ v k. carriage v k (next_waiting k.posts) in
    let w = c.args.world.now in
    let k = c.loop-i.walker in
    none_comes next c.args.count w c.args.walker.now w k (c.args.count - c.loop-i.i) (c.args.count - (c.loop-i.i + 1)) c.args.texts.now.items c.loop-i.texts.items
    (omega (arith, c.loop-i-test.true)) (ap (carriage w k) (sym c.next_waiting.ensures ∙ c.in-None.is)) c.loop-i.invariant.left

pub loop-i-init : goal.loop-i-init
loop-i-init c =
    let next : Next = λ v k. carriage v k (next_waiting k.posts) in
    record { within = omega arith; left = begins next c.args.count (c.args.count - 0) c.args.world.now c.args.walker.now c.args.texts.now.items (omega arith) }

pub loop-i-preserved : goal.loop-i-preserved
loop-i-preserved c =
    let next : Next = λ v k. carriage v k (next_waiting k.posts) in
    let w = c.args.world.now in
    let k = c.loop-i.walker in
    record {
      within = omega (arith, c.loop-i-test.true);
      left = came next c.args.count w c.args.walker.now w w k c.carry.new.walker (c.args.count - c.loop-i.i) (c.args.count - (c.loop-i.i + 1))
          (message_carried w k c.in-Some.number) c.args.texts.now.items c.loop-i.texts.items c.carry.new.texts.items
          (omega (arith, c.loop-i-test.true)) (ap (carriage w k) (sym c.next_waiting.ensures ∙ c.in-Some.is)) c.in-Ok.ensures c.loop-i.invariant.left;
    }

pub returns : goal.returns
returns c =
    let next : Next = λ v k. carriage v k (next_waiting k.posts) in
    ends next c.args.count c.args.world.now c.args.walker.now c.args.world.now c.loop-i.walker (c.args.count - c.loop-i.i) c.args.texts.now.items c.loop-i.texts.items
    (omega (arith, c.loop-i-test.false)) c.loop-i.invariant.left
