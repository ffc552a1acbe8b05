-- A recovery lock in memory.
use Rattle.std.specs.Prelude.{ℕ, Bool, if◌then◌else◌}
use Rattle.ct_outside.specs.Causes.{one_more}
use Rattle.ct_outside.specs.Locks.{LockState}

-- the lock, and how often it has refused
pub record Locking : Type 0 where
  pub state : LockState
  pub refusals : ℕ

-- how often the lock has refused after one more answer
abbrev pub refused_more : Bool → ℕ → ℕ
refused_more refused count = if refused then one_more count else count
