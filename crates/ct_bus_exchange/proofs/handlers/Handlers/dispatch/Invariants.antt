use Rattle.std.proofs.Common.{◌≡◌, ◌++◌, drop}
use Rattle.ct_bus_exchange.specs.Handling.{dispatched}
use Rattle.ct_bus_exchange.specs.Named.{named}
use Rattle.ct_bus_exchange.proofs.handlers.Handlers.dispatch.Given as goal

-- the answers so far, and those of the handlers that are left
abbrev pub invariant-loop-entry : goal.invariant-loop-entry
invariant-loop-entry g l = l.answers.items ++ dispatched (named (drop l.entry-index l.entries)) l.message.srvid l.message.body ≡ dispatched (named l.entries) l.message.srvid l.message.body
