use Rattle.std.proofs.Common.{◌≡◌, ◌++◌, map}
use Rattle.std.specs.Prelude.{Some}
use Rattle.ct_bus_threads.proofs.settled.take_apart.Given as goal

-- the parts so far, and those of the works that are left
abbrev pub invariant-loop-work : goal.invariant-loop-work
invariant-loop-work l = record {
  senders : l.senders.items ++ map (λ w. w.send) l.work-iterator.rest.items ≡ map (λ w. w.send) l.initial.work-iterator.rest.items;
  receivers : l.receivers.items ++ map (λ w. w.receive) l.work-iterator.rest.items ≡ map (λ w. w.receive) l.initial.work-iterator.rest.items;
  done : map (λ v. Some v) l.all.items ++ map (λ w. w.done) l.work-iterator.rest.items ≡ map (λ w. w.done) l.initial.work-iterator.rest.items;
}
