-- Where a member of a cluster stands in its rounds.
use Rattle.std.specs.Prelude.{◌≡◌, ℕ, nat_eq, nat_lt, Bool, true, false, ◌&&◌, if◌then◌else◌, Option, None, Some}
use Rattle.ct_frame.specs.declared.round.Phase.{Phase}
use Rattle.ct_frame.specs.declared.round.Phase.TheVariants as phase
use Rattle.ct_rules_node.specs.Node as node
use Rattle.ct_rules_node.specs.Node.{Idle, Serving, Installed, Freezing, Frozen, is_frozen_in, is_present}
use Rattle.ct_lead.specs.declared.member.FreezeStep.{FreezeStep}
use Rattle.ct_lead.specs.declared.member.FreezeStep.TheVariants as freeze
use Rattle.ct_lead.specs.declared.member.PushStep.{PushStep}
use Rattle.ct_lead.specs.declared.member.PushStep.TheVariants as push

-- the promise, the phase, and the generation that the member installed last, 0 for none
pub record Membership : Type 0 where
  pub promise : ℕ
  pub phase : node.Phase
  pub generation : ℕ

-- the phase with the generation that it is of
abbrev pub told_in : node.Phase → ℕ → Phase
told_in Idle generation = phase.Idle
told_in Serving generation = phase.Serving generation
told_in (Freezing g leader) generation = phase.Freezing g
told_in (Frozen g) generation = phase.Frozen g
told_in Installed generation = phase.Installed generation

abbrev pub told_phase : Membership → Phase
told_phase m = told_in m.phase m.generation

-- in no generation, with this promise
abbrev pub apart : ℕ → Membership
apart promise = record { promise = promise; phase = Idle; generation = 0 }

-- Opening: it serves in this generation, which it promised
abbrev pub opening_member : ℕ → Membership
opening_member generation = record { promise = generation; phase = Serving; generation = generation }

-- Freeze: above the promise it is followed, and a member that is Frozen for it acknowledges again
abbrev pub freeze_step : ℕ → Membership → FreezeStep
freeze_step g m = if nat_lt m.promise g then freeze.Accepted else if is_frozen_in g m.phase then freeze.Again else freeze.Dropped

-- Freeze: it is promised, and the member is Freezing
abbrev pub after_freeze : ℕ → ℕ → Membership → Membership
after_freeze g leader m = if nat_lt m.promise g then record m { promise = g; phase = Freezing g leader } else m

-- Frozen: who is told that the last lock is gone, for which round
abbrev pub waits_for : node.Phase → Option (ℕ × ℕ)
waits_for (Freezing g leader) = Some (g, leader)
waits_for Idle = None
waits_for Serving = None
waits_for Installed = None
waits_for (Frozen g) = None

-- Frozen: a Freezing member without locks is Frozen
abbrev pub unlocked : node.Phase → node.Phase
unlocked (Freezing g leader) = Frozen g
unlocked Idle = Idle
unlocked Serving = Serving
unlocked Installed = Installed
unlocked (Frozen g) = Frozen g

abbrev pub after_locks : Membership → Membership
after_locks m = record m { phase = unlocked m.phase }

-- Push: a member that is Frozen for this generation installs it, and one that is present in it acknowledges again
abbrev pub push_step : ℕ → Membership → PushStep
push_step g m = if is_frozen_in g m.phase then push.Install else if is_present m.phase && nat_eq m.generation g then push.Again else push.Dropped

-- Push: the generation is Installed
abbrev pub after_push : ℕ → Membership → Membership
after_push g m = if is_frozen_in g m.phase then record m { phase = Installed; generation = g } else m

abbrev pub is_installed : node.Phase → Bool
is_installed Installed = true
is_installed Idle = false
is_installed Serving = false
is_installed (Freezing g leader) = false
is_installed (Frozen g) = false

-- Thaw: a member that has installed this generation is thawed
abbrev pub is_thawed : ℕ → Membership → Bool
is_thawed g m = is_installed m.phase && nat_eq m.generation g

-- Thaw: it serves
abbrev pub after_thaw : ℕ → Membership → Membership
after_thaw g m = if is_thawed g m then record m { phase = Serving } else m
