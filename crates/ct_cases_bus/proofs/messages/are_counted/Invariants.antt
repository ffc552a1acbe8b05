use Rattle.std.proofs.Common.{◌≡◌, ◌<◌, ℕ, Some}
use Rattle.std.specs.Prelude.{slice_get}
use Rattle.ct_bus.specs.declared.message.Message.{Message}
use Rattle.ct_cases_bus.proofs.messages.are_counted.Given as goal

-- the messages so far stand at their places
abbrev pub invariant-loop-place : goal.invariant-loop-place
invariant-loop-place l = (k : ℕ) (m : Message) → k < l.place → slice_get l.messages k ≡ Some m → m.place ≡ k
