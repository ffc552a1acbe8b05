-- What the nodes tell of one record, and which of it its register accepts.
use Rattle.std.specs.Prelude.{◌≡◌, ℕ, List, [], ◌∷◌}
use Rattle.ct_values.specs.declared.client.Answer.{Answer}
use Rattle.ct_values.specs.declared.client.ClientOp.{ClientOp}
use Rattle.ct_call.specs.Rules.{Rules}
use Rattle.ct_register.specs.Register.{Register, Accepts, AcceptsEnd, AcceptsVacuum, left_by, joined_by}

-- a client of a node asked for this and was answered this; a call was answered that nobody asked; the record was vacuumed at a
-- node; a lock ended without its client; a node stopped; or a node joined the generation
pub data Label : Type 0 where
  Told : (node : ℕ) (asked : ClientOp) (answer : Answer) → Label
  Unasked : (node : ℕ) (answer : Answer) → Label
  Vacuumed : (node : ℕ) → Label
  Ended : (node : ℕ) → Label
  Left : (node : ℕ) → Label
  Joined : (node : ℕ) → Label

-- the register accepts the label and goes on as the second; it accepts no answer that nobody asked
abbrev pub AcceptsLabel : Rules → Register → Label → Register → Type 0
AcceptsLabel rules r (Told n asked answer) s = Accepts rules n asked answer r s
AcceptsLabel rules r (Unasked n answer) s = ⊥
AcceptsLabel rules r (Vacuumed n) s = AcceptsVacuum r s
AcceptsLabel rules r (Ended n) s = AcceptsEnd n r s
AcceptsLabel rules r (Left n) s = s ≡ left_by n r
AcceptsLabel rules r (Joined n) s = s ≡ joined_by n r

-- all labels, one after the other
abbrev pub AcceptsAll : Rules → Register → List Label → Register → Type 0
AcceptsAll rules r [] s = s ≡ r
AcceptsAll rules r (label ∷ labels) s = (mid : Register) × AcceptsLabel rules r label mid × AcceptsAll rules mid labels s
