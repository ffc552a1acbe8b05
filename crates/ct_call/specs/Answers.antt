-- What is asked of a function that a table takes.
use Rattle.std.specs.Prelude.{◌≡◌, ◌≤◌, ℕ, List, length, Result, Ok}
use Rattle.std.specs.Borrow.{Bor}
use Rattle.std.specs.Global.{Vec}
use Rattle.ct_values.specs.declared.memory.NoMemory.{NoMemory}
use Rattle.ct_call.specs.Rules.{Rule, value_of}

-- it may be called at any two values
abbrev pub IsCallable : (Bor (List ℕ) → Bor (List ℕ) → Type 0) → Type 0
IsCallable pre = (old arg : Bor (List ℕ)) → length old.now ≤ 1024 → length arg.now ≤ 1024 → pre old arg

-- whatever it answers to two values is the rule's value, unless memory runs out
abbrev pub AnswersBy : (Bor (List ℕ) → Bor (List ℕ) → Result (Vec ℕ) NoMemory → Type 0) → Rule → Type 0
AnswersBy post rule = (old arg : Bor (List ℕ)) (bytes : Vec ℕ) → length old.now ≤ 1024 → length arg.now ≤ 1024 → post old arg (Ok bytes) → bytes.items ≡ value_of rule old.now arg.now
