use Rattle.std.proofs.Common.{◌≡◌, ◌++◌, map}
use Rattle.ct_troupe_threads.proofs.meshed.ends_of.Given as goal
use Rattle.ct_troupe_threads.specs.Threaded.{served}

-- what was seen so far was left by nodes that served to their end
abbrev pub invariant-loop-left : goal.invariant-loop-left
invariant-loop-left l = map served l.ends.items ++ l.left-iterator.rest.items ≡ l.initial.left-iterator.rest.items
