-- What a table of call functions is told and answers.
use Rattle.std.specs.Prelude.{◌≡◌, ◌≢◌, ℕ, nat_le, true, if◌then◌else◌, List, [], ◌∷◌, ◌++◌, length, Option, None, Some, Result, Ok, Err}
use Rattle.ct_call.specs.Rules.{Rule, Rules, rule_of, is_known, value_of}
use Rattle.ct_call.specs.declared.fault.AddFault.{AddFault}
use Rattle.ct_call.specs.declared.fault.AddFault.TheVariants as add
use Rattle.ct_call.specs.declared.fault.CallFault.{CallFault}
use Rattle.ct_call.specs.declared.fault.CallFault.TheVariants as call

-- one more function, after all others
abbrev pub with_rule : ℕ → Rule → Rules → Rules
with_rule id rule rs = rs ++ (id, rule) ∷ []

-- one more function is there, unless memory runs out; then all is as it was
abbrev pub Pushes : Result (Unit {0}) AddFault → ℕ → Rule → Rules → Rules → Type 0
Pushes (Ok u) id rule old new = new ≡ with_rule id rule old
Pushes (Err (add.Repeated n)) id rule old new = ⊥
Pushes (Err add.NoMemory) id rule old new = new ≡ old

-- a function is added where no function has its number, unless memory runs out; else nothing changes
abbrev pub Adds : Result (Unit {0}) AddFault → ℕ → Rule → Rules → Rules → Type 0
Adds (Ok u) id rule old new = (rule_of id old ≡ None) × (new ≡ with_rule id rule old)
Adds (Err (add.Repeated n)) id rule old new = (n ≡ id) × (is_known id old ≡ true) × (new ≡ old)
Adds (Err add.NoMemory) id rule old new = (rule_of id old ≡ None) × (new ≡ old)

-- a value of at most 1,024 bytes, or its length
abbrev pub bounded : List ℕ → Result (List ℕ) CallFault
bounded value = if nat_le (length value) 1024 then Ok value else Err (call.TooLong (length value))

-- the answer by a rule, if there is one
abbrev pub applied_by : Option Rule → List ℕ → List ℕ → Result (List ℕ) CallFault
applied_by None old arg = Err call.NoSuchCall
applied_by (Some rule) old arg = bounded (value_of rule old arg)

-- the answer to a call: the value of the function's rule, unless there is no such function or its value is too long
abbrev pub applied : ℕ → List ℕ → List ℕ → Rules → Result (List ℕ) CallFault
applied id old arg rs = applied_by (rule_of id rs) old arg

-- a call has exactly this answer, unless there is such a function and memory runs out
abbrev pub Applies : Result (List ℕ) CallFault → Result (List ℕ) CallFault → Type 0
Applies (Ok value) wanted = wanted ≡ Ok value
Applies (Err call.NoSuchCall) wanted = wanted ≡ Err call.NoSuchCall
Applies (Err (call.TooLong n)) wanted = wanted ≡ Err (call.TooLong n)
Applies (Err call.NoMemory) wanted = wanted ≢ Err call.NoSuchCall
