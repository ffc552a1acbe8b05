-- What the state of a node is made of.
use Rattle.std.specs.Prelude.{ℕ, false, List, [], Option, None, Some}
use Rattle.ct_frame.specs.declared.frame.Assigned.{Assigned}
use Rattle.ct_rules.specs.Parts.{Moving}
use Rattle.ct_rules.specs.declared.state.RecState.{RecState}

-- the members of a map, and none where there is no map
abbrev pub or_nobody : Option (List ℕ) → List ℕ
or_nobody None = []
or_nobody (Some ns) = ns

-- what a step at one record leaves of the record and of the node's numbers
abbrev pub left_as : RecState → ℕ → ℕ → Moving
left_as s next floor = record { state = s; next = next; floor = floor; acts = []; spent = false }

-- an address with no node that is known to have it
abbrev pub nowhere : Assigned → Assigned
nowhere x = record x { node = None }
