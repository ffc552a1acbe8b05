-- What handlers show: their services and rules.
use Rattle.ct_bus_exchange.specs.Handling.{Handling}
use Rattle.ct_bus_exchange.specs.Named.{named}
use Rattle.ct_bus_exchange.specs.declared.handlers.Handlers.{Handlers}

-- Handlers: the services with the rules of their handlers, in the order in which they were added
abbrev pub handled_by : {a b c : _} → Handlers a b c → Handling
handled_by t = named t.entries.items
