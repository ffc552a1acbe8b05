-- The handlers as they stand in memory.
use Rattle.std.specs.Prelude.{ℕ, List, map}
use Rattle.ct_call.specs.Rules.{Rule}
use Rattle.ct_call.specs.Seen.{seen}
use Rattle.ct_bus_exchange.specs.Handling.{Handling}
use Rattle.ct_bus_exchange.specs.declared.entry.Entry.{Entry}
use Rattle.ct_bus_exchange.specs.declared.entry.Entry.TheVariants.{Own, Plain}

-- the service of a handler
abbrev pub service_of : {a b c : _} → Entry a b c → ℕ
service_of (Own own) = own.srvid
service_of (Plain plain) = plain.srvid

-- the rule of a handler
abbrev pub rule_in : {a b c : _} → Entry a b c → Rule
rule_in (Own own) = seen own.rule
rule_in (Plain plain) = seen plain.rule

-- the services and the rules of handlers
abbrev pub named : {a b c : _} → List (Entry a b c) → Handling
named es = map (λ e. (service_of e, rule_in e)) es
