use Rattle.ct_world.proofs.Telling.{TellsOn}
use Rattle.ct_world.proofs.lines.told.Given as goal

-- what is told and what is left to tell is the whole; the number is that of the next message
abbrev pub invariant-loop-out : goal.invariant-loop-out
invariant-loop-out l = TellsOn l.node l.first l.initial.lines.items l.initial.out-iterator.rest.items l.number l.lines.items l.frames l.out-iterator.rest.items
