-- What arrives of the pieces that a node takes while it serves.
use Rattle.std.specs.Prelude.{◌≡◌, ℕ, ◌++◌, List, [], ◌∷◌, Option, None, Some}
use Rattle.ct_call.specs.Rules.{Rules}
use Rattle.ct_frame.specs.declared.frame.Frame.{Frame}
use Rattle.ct_actor.specs.Journalled.{Journalled}
use Rattle.ct_outside.specs.Links.{Parcel, Pieces}
use Rattle.ct_outside.specs.Locks.{LockState}
use Rattle.ct_wire_link.specs.Parcels.{bytes_of}
use Rattle.ct_wire_link.specs.Following.{AreFirst, AreWhole, BreaksAt, Follows, frames_from}
use Rattle.ct_wire_link.specs.Reading.{Reading, broken_at, progress_of}
use Rattle.ct_actor_serving.specs.Outside.{Heard, Outside, ServesOn, heard_but, heard_then, outside}
use Rattle.ct_actor_serving.specs.declared.fault.ServeFault.{ServeFault}
use Rattle.ct_actor_serving.specs.declared.fault.ServeFault.TheVariants as fault

-- Serving: by sender, the messages that arrive are all that the bytes of its pieces, joined, complete, and these bytes break no
-- rule; on a fault they are the first ones of them, and so they are with the one that was refused behind them
abbrev pub Arrive : Option ServeFault → ℕ → Heard → Type 0
Arrive None me h = (sender : ℕ) → AreWhole me sender (bytes_of sender h.taken) (frames_from sender h.arrived)
Arrive (Some f) me h = (sender : ℕ) → AreFirst (bytes_of sender h.taken) (frames_from sender (h.arrived ++ h.late))

-- Serving: where bytes of a sender are answered as no frames of it, the bytes of its pieces, joined, break a rule at that offset
abbrev pub AreForeign : Option ServeFault → ℕ → List Parcel → Type 0
AreForeign (Some (fault.Foreign sender offset)) me taken = BreaksAt me sender (bytes_of sender taken) offset
AreForeign _ me taken = Unit {0}

-- Serving: what a node heard and did while it served, as far as it is told
pub record Serves (rules : Rules) (fault : Option ServeFault) (x y : Journalled) (old new : Outside) : Type 0 where
  pub heard : Heard
  pub on : ServesOn rules fault heard x y old new
  pub arrive : Arrive fault x.core.pnn heard
  pub foreign : AreForeign fault x.core.pnn heard.taken

-- ---- by the readers of senders

-- so far all has arrived of the pieces that were taken, and no bytes break a rule
pub record IsReadSoFar (me : ℕ) (h : Heard) (readings : List Reading) : Type 0 where
  pub follows : Follows me h.taken h.arrived readings
  pub unbroken : (sender : ℕ) → broken_at (progress_of sender readings) ≡ None

-- the same where nothing went wrong, and else what is told at the end
abbrev pub IsReadTo : Option ServeFault → ℕ → Heard → List Reading → Type 0
IsReadTo None me h readings = IsReadSoFar me h readings
IsReadTo (Some f) me h readings = Arrive (Some f) me h × AreForeign (Some f) me h.taken

-- this more was heard
abbrev pub Hears : Option ServeFault → ℕ → Heard → List Reading → List Reading → Type 0
Hears fault me h old new = (before : Heard) → IsReadSoFar me before old → IsReadTo fault me (heard_then before h) new

-- a piece that was taken before
pub record ServesPiece (rules : Rules) (fault : Option ServeFault) (piece : Parcel) (x y : Journalled) (p q : Option Pieces) (old new : List Reading) : Type 0 where
  pub arrived : List Frame
  pub late : List Frame
  pub on : (lock : Option LockState) → ServesOn rules fault (heard_but [] arrived late) x y (outside p lock) (outside q lock)
  pub hears : Hears fault x.core.pnn (heard_but (piece ∷ []) arrived late) old new

-- one turn
pub record ServesTurn (rules : Rules) (fault : Option ServeFault) (x y : Journalled) (a b : Outside) (old new : List Reading) : Type 0 where
  pub heard : Heard
  pub on : ServesOn rules fault heard x y a b
  pub hears : Hears fault x.core.pnn heard old new
