-- The two phases of a vacuum of one key.
use Rattle.std.specs.Prelude.{ℕ, Bool, true, false, ◌&&◌, ◌==◌, if◌then◌else◌, List}
use Rattle.ct_values.specs.Words.{others}
use Rattle.ct_tracking.specs.Awaited.{is_last}
use Rattle.ct_tracking.specs.declared.vacuum.VacuumPhase.{VacuumPhase}
use Rattle.ct_tracking.specs.declared.vacuum.VacuumPhase.TheVariants.{Storing, Deleting}

-- the phase, the sequence number of the copy that is stored, the nodes that have not acknowledged the phase, and all
-- nodes that take part
pub record Vacuuming : Type 0 where
  pub phase : VacuumPhase
  pub rsn : ℕ
  pub missing : List ℕ
  pub others : List ℕ

-- it begins with `Storing`, and all others are missing
abbrev pub vacuum_begun : ℕ → List ℕ → Vacuuming
vacuum_begun rsn nodes = record { phase = Storing; rsn = rsn; missing = nodes; others = nodes }

abbrev pub is_phase : VacuumPhase → VacuumPhase → Bool
is_phase Storing Storing = true
is_phase Storing Deleting = false
is_phase Deleting Storing = false
is_phase Deleting Deleting = true

-- is the vacuum of this sequence number, and in this phase?
abbrev pub is_in : VacuumPhase → ℕ → Vacuuming → Bool
is_in phase rsn v = is_phase phase v.phase && (v.rsn == rsn)

-- a node acknowledged this phase: it is not missing any more
abbrev pub done_by : VacuumPhase → ℕ → ℕ → Vacuuming → Vacuuming
done_by phase node rsn v = if is_in phase rsn v then record v { missing = others node v.missing } else v

-- does the node's acknowledgement end this phase?
abbrev pub ends_phase : VacuumPhase → ℕ → ℕ → Vacuuming → Bool
ends_phase phase node rsn v = is_in phase rsn v && is_last node v.missing

-- `Deleting` begins, and all others are missing
abbrev pub deleting : Vacuuming → Vacuuming
deleting v = record v { phase = Deleting; missing = v.others }

-- after the last one `Deleting` begins
abbrev pub stored : ℕ → ℕ → Vacuuming → Vacuuming
stored node rsn v = if ends_phase Storing node rsn v then deleting v else done_by Storing node rsn v

abbrev pub deleted : ℕ → ℕ → Vacuuming → Vacuuming
deleted node rsn v = done_by Deleting node rsn v
