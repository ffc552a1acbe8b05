-- How the fields of a member stand for its phase.
use Rattle.std.specs.Prelude.{◌≡◌, refl}
use Rattle.ct_lead.specs.declared.member.State.{State}
use Rattle.ct_lead.specs.declared.member.State.TheVariants as state
use Rattle.ct_rules_node.specs.Node.{Phase, Idle, Serving, Installed, Freezing, Frozen}

abbrev pub phase_of : State → Phase
phase_of state.Idle = Idle
phase_of state.Serving = Serving
phase_of state.Installed = Installed
phase_of (state.Freezing g leader) = Freezing g leader
phase_of (state.Frozen g) = Frozen g

abbrev pub state_of : Phase → State
state_of Idle = state.Idle
state_of Serving = state.Serving
state_of Installed = state.Installed
state_of (Freezing g leader) = state.Freezing g leader
state_of (Frozen g) = state.Frozen g

pub state_back : (s : State) → state_of (phase_of s) ≡ s
state_back state.Idle = refl
state_back state.Serving = refl
state_back state.Installed = refl
state_back (state.Freezing g leader) = refl
state_back (state.Frozen g) = refl
