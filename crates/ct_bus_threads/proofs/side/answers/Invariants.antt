use Rattle.std.proofs.Common.{◌≡◌, map, take}
use Rattle.ct_bus_exchange.specs.Handling.{handled}
use Rattle.ct_bus_exchange.specs.Shown.{handled_by}
use Rattle.ct_bus_threads.proofs.side.answers.Given as goal

-- what came of the nodes so far is handled
abbrev pub invariant-loop-todo : goal.invariant-loop-todo
invariant-loop-todo g l = l.all ≡ map (λ ms. map (handled (handled_by l.handlers)) ms) (map (λ t. t.got.items) (take l.todo-index l.todos))
