use Rattle.std.proofs.Common.{◌≡◌, ◌++◌, drop, map}
use Rattle.ct_bus_run.specs.Generated.{messages_from, word_at}
use Rattle.ct_bus_run.proofs.generated.messages_to.Given as goal

-- the messages of the rounds so far, and of those that are left
abbrev pub invariant-loop-round : goal.invariant-loop-round
invariant-loop-round l = (l.place ≡ l.round-index) × (l.messages ++ messages_from l.place (map (word_at l.other) (drop l.round-index l.all)) ≡ messages_from 0 (map (word_at l.other) l.all))
