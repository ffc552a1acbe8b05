-- The rules of call functions: what each answers, and which function has which rule.
use Rattle.std.specs.Prelude.{ℕ, nat_eq, Bool, true, not, ◌&&◌, if◌then◌else◌, List, [], ◌∷◌, ◌++◌, take, Option, None, Some, is_some}

-- an answer, as an expression over the record's old value and the call's argument
pub data Rule : Type 0 where
  Old : Rule
  Arg : Rule
  Join : (first second : Rule) → Rule
  Cut : (count : ℕ) (of : Rule) → Rule

-- the answer of a rule to an old value and an argument: one of them, two answers one after the other, or the first bytes of one
abbrev pub value_of : Rule → List ℕ → List ℕ → List ℕ
value_of Old old arg = old
value_of Arg old arg = arg
value_of (Join first second) old arg = value_of first old arg ++ value_of second old arg
value_of (Cut count of) old arg = take count (value_of of old arg)

-- the numbers of the functions with their rules, in the order in which they were added
abbrev pub Rules : Type 0
Rules = List (ℕ × Rule)

-- the rule of the function with this number
abbrev pub rule_of : ℕ → Rules → Option Rule
rule_of id [] = None
rule_of id ((n, r) ∷ rs) = if nat_eq n id then Some r else rule_of id rs

-- is there a function with this number?
abbrev pub is_known : ℕ → Rules → Bool
is_known id rs = is_some (rule_of id rs)

-- does no number stand twice?
abbrev pub are_distinct : Rules → Bool
are_distinct [] = true
are_distinct ((n, r) ∷ rs) = not (is_known n rs) && are_distinct rs
