-- The handlers of services: what is asked of them, and what they answer.
use Rattle.std.specs.Prelude.{◌≡◌, ◌≤◌, ℕ, nat_eq, if◌then◌else◌, List, [], ◌∷◌, length, Result, Ok}
use Rattle.std.specs.Borrow.{Bor}
use Rattle.std.specs.Global.{Vec}
use Rattle.ct_values.specs.declared.memory.NoMemory.{NoMemory}
use Rattle.ct_call.specs.Rules.{Rule, value_of}
use Rattle.ct_bus.specs.declared.message.Message.{Message}
use Rattle.ct_bus_exchange.specs.declared.handled.Handled.{Handled}

-- it may be called at any body
abbrev pub IsCallable : (Bor (List ℕ) → Type 0) → Type 0
IsCallable pre = (body : Bor (List ℕ)) → length body.now ≤ 1024 → pre body

-- Handlers: whatever it answers to a body is the rule's value with the empty value as Old and the body as Arg
abbrev pub AnswersBody : (Bor (List ℕ) → Result (Vec ℕ) NoMemory → Type 0) → Rule → Type 0
AnswersBody post rule = (body : Bor (List ℕ)) (bytes : Vec ℕ) → length body.now ≤ 1024 → post body (Ok bytes) → bytes.items ≡ value_of rule [] body.now

-- the numbers of services with the rules of their handlers, in the order in which they were added
abbrev pub Handling : Type 0
Handling = List (ℕ × Rule)

-- Handlers: what the handlers of a service answer to a body, in the order in which they were added
abbrev pub dispatched : Handling → ℕ → List ℕ → List (List ℕ)
dispatched [] srvid body = []
dispatched ((n, rule) ∷ hs) srvid body = if nat_eq n srvid then value_of rule [] body ∷ dispatched hs srvid body else dispatched hs srvid body

-- Handlers: a message with what the handlers of its service answer
abbrev pub handled : Handling → Message → Handled
handled hs m = record { message = m; answers = dispatched hs m.srvid m.body }
