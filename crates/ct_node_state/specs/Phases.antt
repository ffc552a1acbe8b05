-- What a phase tells, with the generation that it is of.
use Rattle.std.specs.Prelude.{ℕ, nat_eq, Bool, true, false}
use Rattle.ct_frame.specs.declared.round.Phase.{Phase}
use Rattle.ct_frame.specs.declared.round.Phase.TheVariants as phase

-- does it serve clients?
abbrev pub tells_serving : Phase → Bool
tells_serving phase.Idle = false
tells_serving (phase.Serving g) = true
tells_serving (phase.Freezing g) = false
tells_serving (phase.Frozen g) = false
tells_serving (phase.Installed g) = false

-- does it wait for locks to end?
abbrev pub tells_freezing : Phase → Bool
tells_freezing phase.Idle = false
tells_freezing (phase.Serving g) = false
tells_freezing (phase.Freezing g) = true
tells_freezing (phase.Frozen g) = false
tells_freezing (phase.Installed g) = false

-- is it present in this generation?
abbrev pub tells_present : ℕ → Phase → Bool
tells_present g phase.Idle = false
tells_present g (phase.Serving h) = nat_eq h g
tells_present g (phase.Freezing h) = false
tells_present g (phase.Frozen h) = false
tells_present g (phase.Installed h) = nat_eq h g
