-- A takeover run as its leader sees it: which members have not released yet, and what they take then.
use Rattle.std.specs.Prelude.{ℕ, nat_eq, Bool, ◌&&◌, if◌then◌else◌, List}
use Rattle.ct_values.specs.Words.{others}
use Rattle.ct_tracking.specs.Awaited.{is_last}
use Rattle.ct_frame.specs.declared.frame.Assigned.{Assigned}

-- the run's number, the members, the placement that is made, and the members that have not released yet; once there is
-- none they take
pub record Handing : Type 0 where
  pub number : ℕ
  pub members : List ℕ
  pub placement : List Assigned
  pub missing : List ℕ

-- Begin of a takeover: all members are to release
abbrev pub run_begun : ℕ → List ℕ → List Assigned → Handing
run_begun number members placement = record { number = number; members = members; placement = placement; missing = members }

-- ReleaseAck: a run of this number strikes its sender off
abbrev pub after_releaseack : ℕ → ℕ → Handing → Handing
after_releaseack n number r = if nat_eq r.number number then record r { missing = others n r.missing } else r

-- ReleaseAck: is it the last one that the run waits for?
abbrev pub ends_releases : ℕ → ℕ → Handing → Bool
ends_releases n number r = nat_eq r.number number && is_last n r.missing
