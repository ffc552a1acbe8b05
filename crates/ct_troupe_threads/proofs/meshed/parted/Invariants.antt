use Rattle.std.proofs.Common.{◌≡◌, map}
use Rattle.ct_troupe_threads.proofs.meshed.parted.Given as goal

-- those of the nodes so far
abbrev pub invariant-loop-journal : goal.invariant-loop-journal
invariant-loop-journal l = (l.journals.items ≡ map (λ x. x.journal) l.yielded) × (l.tallies.items ≡ map (λ x. x.tally) l.yielded)
