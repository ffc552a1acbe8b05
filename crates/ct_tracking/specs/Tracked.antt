-- The nodes that may hold a copy of a record for reading, and the revocation that calls the copies back.
use Rattle.std.specs.Prelude.{◌≡◌, ℕ, nat_eq, Bool, false, ◌&&◌, if◌then◌else◌, List, [], ◌∷◌, Option, None, Some}
use Rattle.ct_values.specs.Words.{is_nil, others}
use Rattle.ct_tracking.specs.Awaited.{including}

-- a revocation that runs: the number of the record whose copies it calls back, and the nodes that have not acknowledged it
pub record Revocation : Type 0 where
  pub rsn : ℕ
  pub missing : List ℕ

-- the tracked nodes, and the revocation where one runs
pub record Tracked : Type 0 where
  pub tracked : List ℕ
  pub revoking : Option Revocation

-- nothing is tracked, and no revocation runs
abbrev pub untracked : Tracked
untracked = record { tracked = []; revoking = None }

-- one more node is tracked
abbrev pub added : ℕ → Tracked → Tracked
added node t = record t { tracked = including node t.tracked }

-- a revocation of all tracked nodes runs
abbrev pub revocation_begun : ℕ → Tracked → Tracked
revocation_begun rsn t = record t { revoking = Some (record { rsn = rsn; missing = t.tracked }) }

-- the tracking with these nodes missing: with none, the revocation ends and nothing is tracked
abbrev pub awaiting : ℕ → List ℕ → Tracked → Tracked
awaiting rsn [] t = untracked
awaiting rsn (n ∷ ns) t = record t { revoking = Some (record { rsn = rsn; missing = n ∷ ns }) }

-- the revocation that runs has an acknowledgement of this number from this node
abbrev pub called_back_in : Option Revocation → ℕ → ℕ → Tracked → Tracked
called_back_in None node rsn t = t
called_back_in (Some r) node rsn t = if nat_eq r.rsn rsn then awaiting rsn (others node r.missing) t else t

-- a node acknowledged the revocation of this number
abbrev pub called_back : ℕ → ℕ → Tracked → Tracked
called_back node rsn t = called_back_in t.revoking node rsn t

-- is this the last acknowledgement that the revocation waits for?
abbrev pub ends_revocation : Option Revocation → ℕ → ℕ → Bool
ends_revocation None node rsn = false
ends_revocation (Some r) node rsn = nat_eq r.rsn rsn && is_nil (others node r.missing)

-- does this acknowledgement end the revocation?
abbrev pub ends : ℕ → ℕ → Tracked → Bool
ends node rsn t = ends_revocation t.revoking node rsn

-- the number of the revocation that runs
abbrev pub rsn_of : Option Revocation → Option ℕ
rsn_of None = None
rsn_of (Some r) = Some r.rsn

-- the nodes that the revocation waits for
abbrev pub missing_of : Option Revocation → List ℕ
missing_of None = []
missing_of (Some r) = r.missing

-- the revocation that a number and a list stand for
abbrev pub revocation : Option ℕ → List ℕ → Option Revocation
revocation None missing = None
revocation (Some rsn) missing = Some (record { rsn = rsn; missing = missing })

-- while a revocation runs somebody is missing; else nobody is
abbrev pub AreMissing : Option ℕ → List ℕ → Type 0
AreMissing None missing = missing ≡ []
AreMissing (Some rsn) missing = ¬ (missing ≡ [])
