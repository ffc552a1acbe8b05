-- Turns, one after the other.
use Rattle.std.proofs.Common.{◌≡◌, ◌∙◌, ℕ, List, [], ◌∷◌, ◌++◌, Option, None, Some, refl, sym, ap, subst}
use Rattle.ct_call.specs.Rules.{Rules}
use Rattle.ct_actor.specs.Journalled.{Journalled}
use Rattle.ct_frame.specs.declared.frame.Frame.{Frame}
use Rattle.ct_outside.specs.Links.{Parcel, Pieces, parcel}
use Rattle.ct_outside.specs.Locks.{LockState}
use Rattle.ct_outside.specs.Told.{Told}
use Rattle.ct_wire_link.specs.declared.arrived.Arrived.{Arrived}
use Rattle.ct_wire_link.specs.Reading.{Reading}
use Rattle.ct_actor_serving.specs.Hearing.{AreForeign, Arrive, Hears, IsReadSoFar, IsReadTo, Serves, ServesPiece, ServesTurn}
use Rattle.ct_actor_serving.specs.Outside.{Heard, Outside, HasNoTicket, ServesFrames, ServesOn, TakesOnly, heard, heard_but, heard_then, outside}
use Rattle.ct_actor_serving.specs.Serving.{IsNoPiece, IsNoSend}
use Rattle.ct_actor_serving.specs.declared.fault.ServeFault.{ServeFault}
use Rattle.ct_actor_serving.specs.declared.fault.ServeFault.TheVariants as fault
use Rattle.ct_actor_serving.proofs.Hearing.{Gives, arrive_last, hears_foreign, hears_none, hears_nothing, hears_piece, hears_some, hears_stopped, read_first}
use Rattle.ct_actor_serving.proofs.Telling.{serves_but, serves_look, serves_same, serves_then, unforeign}

-- ---- one piece

-- its frames arrive up to a fault
pub piece_stopped : (rules : Rules) (f : ServeFault) (me sender : ℕ) (bytes : List ℕ) (a : Arrived) (x y : Journalled) (p q : Option Pieces) (old new : List Reading) →
    me ≡ x.core.pnn → Gives me sender bytes a old new → ServesFrames rules (Some f) a.frames.items x y p q → ((me : ℕ) (taken : List Parcel) → AreForeign (Some f) me taken)
    → ServesPiece rules (Some f) (parcel sender bytes) x y p q old new
piece_stopped rules f me sender bytes a x y p q old new own g s ours = record {
  arrived = s.0;
  late = s.1;
  on = s.3;
  hears = subst (λ (n : ℕ). Hears (Some f) n (heard_but (parcel sender bytes ∷ []) s.0 s.1) old new) own (hears_some me sender f bytes a s.0 s.1 s.2.0 old new g s.2.1 (λ taken. ours me taken));
}

-- all frames have arrived, and none is refused
none_late : (rules : Rules) (x y : Journalled) (frames : List Frame) (p q : Option Pieces) (s : ServesFrames rules None frames x y p q) (lock : Option LockState) → ServesOn rules None (heard [] s.0) x y (outside p lock) (outside q lock)
none_late rules x y frames p q s lock = subst (λ (late : List Frame). ServesOn rules None (heard_but [] s.0 late) x y (outside p lock) (outside q lock)) s.2.1 (s.3 lock)

-- all its frames arrive, and a fault stands behind them
pub piece_foreign : (rules : Rules) (me sender offset : ℕ) (bytes : List ℕ) (a : Arrived) (x y : Journalled) (p q : Option Pieces) (old new : List Reading) →
    me ≡ x.core.pnn → Gives me sender bytes a old new → ServesFrames rules None a.frames.items x y p q → a.broken ≡ Some offset
    → ServesPiece rules (Some (fault.Foreign sender offset)) (parcel sender bytes) x y p q old new
piece_foreign rules me sender offset bytes a x y p q old new own g s is = record {
  arrived = s.0;
  late = [];
  on = λ lock. serves_but rules (fault.Foreign sender offset) (heard [] s.0) x y (outside p lock) (outside q lock) (none_late rules x y a.frames.items p q s lock) (λ t. tt) tt tt;
  hears = subst (λ (n : ℕ). Hears (Some (fault.Foreign sender offset)) n (heard (parcel sender bytes ∷ []) s.0) old new) own (hears_foreign me sender offset bytes a s.0 old new g s.2.0 is);
}

-- all its frames arrive
pub piece_whole : (rules : Rules) (me sender : ℕ) (bytes : List ℕ) (a : Arrived) (x y : Journalled) (p q : Option Pieces) (old new : List Reading) →
    me ≡ x.core.pnn → Gives me sender bytes a old new → ServesFrames rules None a.frames.items x y p q → a.broken ≡ None → ServesPiece rules None (parcel sender bytes) x y p q old new
piece_whole rules me sender bytes a x y p q old new own g s none = record {
  arrived = s.0;
  late = [];
  on = none_late rules x y a.frames.items p q s;
  hears = subst (λ (n : ℕ). Hears None n (heard (parcel sender bytes ∷ []) s.0) old new) own (hears_piece me sender bytes a s.0 old new g s.2.0 none);
}

-- it is not read
pub piece_unread : (rules : Rules) (sender : ℕ) (bytes : List ℕ) (x : Journalled) (p : Option Pieces) (old new : List Reading) → ServesPiece rules (Some fault.NoMemory) (parcel sender bytes) x x p p old new
piece_unread rules sender bytes x p old new = record {
  arrived = [];
  late = [];
  on = λ lock. serves_same rules (Some fault.NoMemory) x p lock (λ t. tt) tt tt;
  hears = hears_none x.core.pnn sender fault.NoMemory bytes old new (λ taken. tt);
}

-- ---- one turn

-- a piece comes
pub turn_piece : (rules : Rules) (f : Option ServeFault) (piece : Parcel) (x y : Journalled) (p q r : Option Pieces) (lock : Option LockState) (old new : List Reading) →
    Told p q (TakesOnly (piece ∷ [])) → ServesPiece rules f piece x y q r old new → ServesTurn rules f x y (outside p lock) (outside r lock) old new
turn_piece rules f piece x y p q r lock old new took s = record {
  heard = heard_but (piece ∷ []) s.arrived s.late;
  on = serves_then rules f (heard (piece ∷ []) []) (heard_but [] s.arrived s.late) x x y (outside p lock) (outside q lock) (outside r lock) (serves_look rules None x (piece ∷ []) p q lock took (λ t. tt) tt tt) (s.on lock);
  hears = s.hears;
}

hears_by : (f : Option ServeFault) (me : ℕ) (readings : List Reading) → IsNoPiece f → Hears f me (heard [] []) readings readings
hears_by None me readings piece = hears_nothing me readings
hears_by (Some f) me readings piece = hears_stopped me f readings (λ taken. unforeign (Some f) me taken piece)

-- without a look
pub turn_rest : (rules : Rules) (f : Option ServeFault) (x y : Journalled) (a b : Outside) (readings : List Reading) →
    ServesOn rules f (heard [] []) x y a b → IsNoPiece f → ServesTurn rules f x y a b readings readings
turn_rest rules f x y a b readings s piece = record { heard = heard [] []; on = s; hears = hears_by f x.core.pnn readings piece }

-- nothing comes, and an item may be taken
pub turn_item : (rules : Rules) (f : Option ServeFault) (x y : Journalled) (p q r : Option Pieces) (s t : Option LockState) (readings : List Reading) →
    Told p q (TakesOnly []) → ServesOn rules f (heard [] []) x y (outside q s) (outside r t) → IsNoPiece f
    → ServesTurn rules f x y (outside p s) (outside r t) readings readings
turn_item rules f x y p q r s t readings took on piece =
    turn_rest rules f x y (outside p s) (outside r t) readings
    (serves_then rules f (heard [] []) (heard [] []) x x y (outside p s) (outside q s) (outside r t) (serves_look rules None x [] p q s took (λ l. tt) tt tt) on) piece

-- nothing will come, or the look fails
pub turn_ends : (rules : Rules) (f : Option ServeFault) (x : Journalled) (p q : Option Pieces) (s : Option LockState) (readings : List Reading) →
    Told p q (TakesOnly []) → ((lock : LockState) → HasNoTicket f x lock) → IsNoSend f → IsNoPiece f → ServesTurn rules f x x (outside p s) (outside q s) readings readings
turn_ends rules f x p q s readings took free send piece = turn_rest rules f x x (outside p s) (outside q s) readings (serves_look rules f x [] p q s took free send piece) piece

-- ---- all turns

-- so far nothing went wrong
pub record IsServing (rules : Rules) (x y : Journalled) (a b : Outside) (readings : List Reading) : Type 0 where
  pub heard : Heard
  pub on : ServesOn rules None heard x y a b
  pub read : IsReadSoFar x.core.pnn heard readings

pub serving_first : (rules : Rules) (x : Journalled) (p : Option Pieces) (s : Option LockState) (readings : List Reading) → readings ≡ [] → IsServing rules x x (outside p s) (outside p s) readings
serving_first rules x p s readings none = record {
  heard = heard [] [];
  on = serves_same rules None x p s (λ t. tt) tt tt;
  read = subst (λ (rs : List Reading). IsReadSoFar x.core.pnn (heard [] []) rs) (sym none) (read_first x.core.pnn);
}

-- what is read then
read_on : (rules : Rules) (f : Option ServeFault) (x y z : Journalled) (a b c : Outside) (old new : List Reading) (s : IsServing rules x y a b old) (t : ServesTurn rules f y z b c old new) →
    y.core.pnn ≡ x.core.pnn → IsReadTo f x.core.pnn (heard_then s.heard t.heard) new
read_on rules f x y z a b c old new s t same =
    subst (λ (me : ℕ). IsReadSoFar me s.heard old → IsReadTo f me (heard_then s.heard t.heard) new) same (λ read. t.hears s.heard read) s.read

pub serving_next : (rules : Rules) (x y z : Journalled) (a b c : Outside) (old new : List Reading) → IsServing rules x y a b old → y.core.pnn ≡ x.core.pnn → ServesTurn rules None y z b c old new → IsServing rules x z a c new
serving_next rules x y z a b c old new s same t = record {
  heard = heard_then s.heard t.heard;
  on = serves_then rules None s.heard t.heard x y z a b c s.on t.on;
  read = read_on rules None x y z a b c old new s t same;
}

arrive_by : (f : Option ServeFault) (me : ℕ) (h : Heard) (readings : List Reading) → IsReadTo f me h readings → Arrive f me h × AreForeign f me h.taken
arrive_by None me h readings read = (arrive_last me h readings read, tt)
arrive_by (Some f) me h readings read = read

-- the last turn
pub serving_last : (rules : Rules) (f : Option ServeFault) (x y z : Journalled) (a b c : Outside) (old new : List Reading) → IsServing rules x y a b old → y.core.pnn ≡ x.core.pnn → ServesTurn rules f y z b c old new → Serves rules f x z a c
serving_last rules f x y z a b c old new s same t =
    let both = arrive_by f x.core.pnn (heard_then s.heard t.heard) new (read_on rules f x y z a b c old new s t same) in
    record {
      heard = heard_then s.heard t.heard;
      on = serves_then rules f s.heard t.heard x y z a b c s.on t.on;
      arrive = both.0;
      foreign = both.1;
    }
