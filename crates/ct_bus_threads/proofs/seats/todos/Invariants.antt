use Rattle.std.proofs.Common.{◌≡◌, ◌≤◌, [], length, map}
use Rattle.std.specs.List.{range_with_len}
use Rattle.ct_bus_exchange.specs.Exchange.{script}
use Rattle.ct_bus_threads.specs.Works.{left_of}
use Rattle.ct_bus_threads.proofs.seats.todos.Given as goal

-- what there is to do with the nodes below this one
abbrev pub invariant-loop-other : goal.invariant-loop-other
invariant-loop-other l = record {
  below : l.other ≤ length l.scripts;
  left : map left_of l.all.items ≡ map (λ k. script l.scripts l.node k) (range_with_len 0 l.other);
  wanted : map (λ t. t.wanted) l.all.items ≡ map (λ k. length (script l.scripts k l.node)) (range_with_len 0 l.other);
  came : map (λ t. t.came) l.all.items ≡ map (λ t. 0) l.all.items;
  got : map (λ t. t.got.items) l.all.items ≡ map (λ t. []) l.all.items;
}
