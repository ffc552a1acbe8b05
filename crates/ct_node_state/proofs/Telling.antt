-- What is told of a phase holds of it.
use Rattle.std.proofs.Common.{◌≡◌, ℕ, Bool, ◌&&◌, refl}
use Rattle.std.specs.Prelude.{nat_eq}
use Rattle.ct_rules_node.specs.Node.{Phase, Idle, Serving, Installed, Freezing, Frozen, is_serving, is_freezing, is_present}
use Rattle.ct_lead.specs.Member.{told_in}
use Rattle.ct_node_state.specs.Phases.{tells_serving, tells_freezing, tells_present}

pub serving_told : (p : Phase) (generation : ℕ) → tells_serving (told_in p generation) ≡ is_serving p
unfolding is_serving
serving_told Idle g = refl
serving_told Serving g = refl
serving_told Installed g = refl
serving_told (Freezing h leader) g = refl
serving_told (Frozen h) g = refl

pub freezing_told : (p : Phase) (generation : ℕ) → tells_freezing (told_in p generation) ≡ is_freezing p
unfolding is_freezing
freezing_told Idle g = refl
freezing_told Serving g = refl
freezing_told Installed g = refl
freezing_told (Freezing h leader) g = refl
freezing_told (Frozen h) g = refl

pub present_told : (p : Phase) (generation g : ℕ) → tells_present g (told_in p generation) ≡ (is_present p && nat_eq generation g)
unfolding is_present
present_told Idle h g = refl
present_told Serving h g = refl
present_told Installed h g = refl
present_told (Freezing i leader) h g = refl
present_told (Frozen i) h g = refl
