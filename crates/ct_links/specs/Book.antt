-- The book of the recovery lock: its takes and releases in order, and the lock that they make.
use Rattle.std.specs.Prelude.{ℕ, suc, zero, ◌≡◌, ◌+◌, ◌==◌, Bool, false, not, ◌&&◌, if◌then◌else◌, List, [], ◌∷◌, ◌++◌, length, fold, Option, None, Some, Result, Ok, Err}
use Rattle.ct_outside.specs.Locks.{LockState, free_lock, freed, given, is_with_another}
use Rattle.ct_outside.specs.declared.fault.TakeFault.{TakeFault}
use Rattle.ct_outside.specs.declared.fault.ReleaseFault.{ReleaseFault}
use Rattle.ct_links.specs.declared.book.LockStep.{LockStep}
use Rattle.ct_links.specs.declared.book.LockStep.TheVariants.{Take, Release}

-- the lock, how often it has refused, and its takes and releases so far
pub record Booked : Type 0 where
  pub state : LockState
  pub refusals : ℕ
  pub steps : List LockStep

-- does this node hold the lock?
abbrev pub is_with : ℕ → Option ℕ → Bool
is_with node None = false
is_with node (Some holder) = holder == node

-- the lock after one more take or release, where that may come: a take, while no other node holds the lock, with the
-- ticket after the last one; a release by the holder
abbrev pub step_from : LockState → LockStep → Option LockState
step_from s (Take node ticket) = if not (is_with_another node s.holder) && (ticket == s.last + 1) then Some (given node s) else None
step_from s (Release node) = if is_with node s.holder then Some (freed s) else None

abbrev pub onward : Option LockState → LockStep → Option LockState
onward None x = None
onward (Some s) x = step_from s x

-- the lock after these takes and releases, the first of them from a free lock whose last ticket is 1; none where one of
-- them could not come
abbrev pub state_after : List LockStep → Option LockState
state_after steps = fold onward (Some free_lock) steps

-- the tickets of the takes
abbrev pub tickets_of : List LockStep → List ℕ
tickets_of [] = []
tickets_of (Take node ticket ∷ xs) = ticket ∷ tickets_of xs
tickets_of (Release node ∷ xs) = tickets_of xs

-- so many numbers in a row, the first of them given
abbrev pub in_a_row : ℕ → ℕ → List ℕ
in_a_row first zero = []
in_a_row first (suc more) = first ∷ in_a_row (first + 1) more

-- the tickets are 2, 3, 4 and so on
abbrev pub CountsFromTwo : List ℕ → Type 0
CountsFromTwo tickets = tickets ≡ in_a_row 2 (length tickets)

-- the book after a take
abbrev pub with_take : Result ℕ TakeFault → ℕ → List LockStep → List LockStep
with_take (Ok ticket) node steps = steps ++ Take node ticket ∷ []
with_take (Err e) node steps = steps

-- the book after a release
abbrev pub with_release : Result (Unit {0}) ReleaseFault → ℕ → List LockStep → List LockStep
with_release (Ok u) node steps = steps ++ Release node ∷ []
with_release (Err e) node steps = steps
