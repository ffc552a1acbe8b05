-- A commit that waits for the other members.
use Rattle.std.specs.Prelude.{ℕ, nat_eq, Bool, ◌&&◌, if◌then◌else◌, List}
use Rattle.ct_values.specs.Words.{others}
use Rattle.ct_tracking.specs.Awaited.{is_last}

-- the number of the commit, and the members that have not acknowledged it
pub record Pending : Type 0 where
  pub seq : ℕ
  pub missing : List ℕ

-- a commit of this number, which all of these members have still to acknowledge
abbrev pub commit_begun : ℕ → List ℕ → Pending
commit_begun seq members = record { seq = seq; missing = members }

-- a member applied the commit of this number: it is not missing any more
abbrev pub applied_by : ℕ → ℕ → Pending → Pending
applied_by node seq c = if nat_eq c.seq seq then record c { missing = others node c.missing } else c

-- does the member's acknowledgement complete the commit?
abbrev pub completes : ℕ → ℕ → Pending → Bool
completes node seq c = nat_eq c.seq seq && is_last node c.missing
