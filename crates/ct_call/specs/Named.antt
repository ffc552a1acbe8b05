-- The rules of functions, as they stand in memory.
use Rattle.std.specs.Prelude.{ℕ, List, map}
use Rattle.ct_call.specs.Rules.{Rule, Rules}
use Rattle.ct_call.specs.Seen.{seen}
use Rattle.ct_call.specs.declared.entry.Entry.{Entry}
use Rattle.ct_call.specs.declared.entry.Entry.TheVariants.{Own, Plain}

-- the number of a function
abbrev pub id_of : {a b c : _} → Entry a b c → ℕ
id_of (Own own) = own.id
id_of (Plain plain) = plain.id

-- the rule of a function
abbrev pub rule_in : {a b c : _} → Entry a b c → Rule
rule_in (Own own) = seen own.rule
rule_in (Plain plain) = seen plain.rule

-- the numbers and the rules of functions
abbrev pub named : {a b c : _} → List (Entry a b c) → Rules
named es = map (λ e. (id_of e, rule_in e)) es
