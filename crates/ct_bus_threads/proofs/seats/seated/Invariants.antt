use Rattle.std.proofs.Common.{◌≡◌, ℕ, ◌++◌, length, map}
use Rattle.std.specs.Prelude.{Some, slice_get}
use Rattle.std.specs.Vec.Iter.{into_iter_items}
use Rattle.ct_bus_threads.specs.Works.{HasTodos}
use Rattle.ct_bus_threads.specs.declared.work.Work.{Work}
use Rattle.ct_bus_threads.proofs.seats.seated.Given as goal

-- the nodes below this one, and the seats that are left
abbrev pub invariant-loop-send : goal.invariant-loop-send
invariant-loop-send l = record {
  count : length l.works.items ≡ l.node;
  sends : map (λ w. w.send) l.works.items ++ l.send-iterator.rest.items ≡ l.initial.send-iterator.rest.items;
  receives : map (λ w. w.receive) l.works.items ++ into_iter_items l.seats ≡ into_iter_items l.initial.seats;
  todos : (node : ℕ) (w : Work) → slice_get l.works.items node ≡ Some w → HasTodos l.scripts node w;
}
