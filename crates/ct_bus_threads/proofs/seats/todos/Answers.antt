use Rattle.std.proofs.Common.{arith, rules, [], length}
use Rattle.ct_bus_exchange.specs.Exchange.{script}
use Rattle.ct_bus_threads.specs.Works.{left_of}
use Rattle.ct_bus_threads.proofs.Ranged.{mapped_next, mapped_same}
use Rattle.ct_bus_threads.proofs.seats.todos.Goals as goal

pub loop-other-preserved : goal.loop-other-preserved
loop-other-preserved c =
    let i = c.loop-other.invariant in
    let k = c.loop-other.other in
    record {
      below = omega (arith, c.loop-other-test.true);
      left = mapped_next left_of (λ n. script c.args.scripts.now c.args.node n) k c.loop-other.all.items c.push.new.self.items _ i.left (search rules) c.in_ok-push.ensures.items;
      wanted = mapped_next (λ t. t.wanted) (λ n. length (script c.args.scripts.now n c.args.node)) k c.loop-other.all.items c.push.new.self.items _ i.wanted (search rules) c.in_ok-push.ensures.items;
      came = mapped_same (λ t. t.came) (λ t. 0) c.loop-other.all.items c.push.new.self.items _ i.came (search rules) c.in_ok-push.ensures.items;
      got = mapped_same (λ t. t.got.items) (λ t. []) c.loop-other.all.items c.push.new.self.items _ i.got (search rules) c.in_ok-push.ensures.items;
    }
