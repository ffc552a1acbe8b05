-- What follows for the rules of every table.
use Rattle.std.specs.Prelude.{◌≡◌, ℕ, Some, None}
use Rattle.ct_call.specs.Rules.{Rule, Rules, rule_of}
use Rattle.ct_call.specs.Table.{with_rule}

-- a function that was added has its rule
abbrev pub HasNewRule : Type 0
HasNewRule = (id : ℕ) (rule : Rule) (rs : Rules) → rule_of id rs ≡ None → rule_of id (with_rule id rule rs) ≡ Some rule

-- whatever is added, a function that is there keeps its rule
abbrev pub KeepsRules : Type 0
KeepsRules = (n id : ℕ) (rule kept : Rule) (rs : Rules) → rule_of n rs ≡ Some kept → rule_of n (with_rule id rule rs) ≡ Some kept
