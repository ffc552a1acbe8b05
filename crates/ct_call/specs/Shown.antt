-- What a table shows: the rules of its functions.
use Rattle.ct_call.specs.Named.{named}
use Rattle.ct_call.specs.Rules.{Rules}
use Rattle.ct_call.specs.declared.table.CallTable.{CallTable}

-- the numbers and the rules of a table's functions, in the order in which they were added
abbrev pub rules_of : {a b c : _} → CallTable a b c → Rules
rules_of t = named t.calls.items
