-- The recovery lock: its holder, its tickets and its refusals.
use Rattle.std.specs.Prelude.{ℕ, ◌≡◌, ◌≢◌, ◌+◌, ◌^◌, ◌<◌, ◌==◌, Bool, true, false, not, Option, None, Some, Result, Ok, Err}
use Rattle.ct_outside.specs.declared.fault.TakeFault.{TakeFault}
use Rattle.ct_outside.specs.declared.fault.TakeFault.TheVariants as take
use Rattle.ct_outside.specs.declared.fault.ReleaseFault.{ReleaseFault}
use Rattle.ct_outside.specs.declared.fault.ReleaseFault.TheVariants as release

-- tickets are below it
abbrev pub ticket_limit : ℕ
ticket_limit = 2 ^ 62

-- who holds the lock, and the last ticket that was given
pub record LockState : Type 0 where
  pub holder : Option ℕ
  pub last : ℕ

-- free, and ticket 1 was the last
abbrev pub free_lock : LockState
free_lock = record { holder = None; last = 1 }

-- does another node hold the lock?
abbrev pub is_with_another : ℕ → Option ℕ → Bool
is_with_another node None = false
is_with_another node (Some holder) = not (holder == node)

-- the next ticket was given to the node
abbrev pub given : ℕ → LockState → LockState
given node s = record { holder = Some node; last = s.last + 1 }

-- the lock was taken back
abbrev pub freed : LockState → LockState
freed s = record s { holder = None }

-- a take gives the next ticket, also to the node that holds the lock already. It is refused exactly where another node
-- holds the lock or no ticket is left, or, without a cause here, where the outside fails or memory runs out
abbrev pub TakesLock : Result ℕ TakeFault → ℕ → LockState → LockState → Type 0
TakesLock (Ok ticket) node old new = (is_with_another node old.holder ≡ false) × (ticket ≡ old.last + 1) × (ticket < ticket_limit) × (new ≡ given node old)
TakesLock (Err (take.Held holder ticket)) node old new = (old.holder ≡ Some holder) × (holder ≢ node) × (ticket ≡ old.last) × (new ≡ old)
TakesLock (Err take.Exhausted) node old new = (is_with_another node old.holder ≡ false) × (old.last + 1 ≡ ticket_limit) × (new ≡ old)
TakesLock (Err take.Failed) node old new = new ≡ old
TakesLock (Err take.NoMemory) node old new = new ≡ old

-- a release leaves no holder. It is refused exactly where the node does not hold the lock, or where the outside fails
abbrev pub Releases : Result (Unit {0}) ReleaseFault → ℕ → LockState → LockState → Type 0
Releases (Ok u) node old new = (old.holder ≡ Some node) × (new ≡ freed old)
Releases (Err (release.NotHolder holder)) node old new = (old.holder ≢ Some node) × (holder ≡ old.holder) × (new ≡ old)
Releases (Err release.Failed) node old new = new ≡ old

-- did the outside fail at a take?
abbrev pub is_take_failure : Result ℕ TakeFault → Bool
is_take_failure (Ok ticket) = false
is_take_failure (Err (take.Held holder ticket)) = false
is_take_failure (Err take.Exhausted) = false
is_take_failure (Err take.Failed) = true
is_take_failure (Err take.NoMemory) = false

-- did the lock refuse a take?
abbrev pub is_take_refusal : Result ℕ TakeFault → Bool
is_take_refusal (Ok ticket) = false
is_take_refusal (Err (take.Held holder ticket)) = true
is_take_refusal (Err take.Exhausted) = true
is_take_refusal (Err take.Failed) = false
is_take_refusal (Err take.NoMemory) = false

-- did the outside fail at a release?
abbrev pub is_release_failure : Result (Unit {0}) ReleaseFault → Bool
is_release_failure (Ok u) = false
is_release_failure (Err (release.NotHolder holder)) = false
is_release_failure (Err release.Failed) = true

-- did the lock refuse a release?
abbrev pub is_release_refusal : Result (Unit {0}) ReleaseFault → Bool
is_release_refusal (Ok u) = false
is_release_refusal (Err (release.NotHolder holder)) = true
is_release_refusal (Err release.Failed) = false
