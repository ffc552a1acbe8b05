use Rattle.std.proofs.Common.{◌≡◌, map, take}
use Rattle.ct_bus_exchange.specs.Handling.{handled}
use Rattle.ct_bus_exchange.specs.Shown.{handled_by}
use Rattle.ct_bus_exchange.proofs.handlers.Handlers.handle_all.Given as goal

-- the messages so far are handled
abbrev pub invariant-loop-message : goal.invariant-loop-message
invariant-loop-message g l = l.all ≡ map (handled (handled_by l.self)) (take l.message-index l.messages)
