-- What follows for the rules of one record.
use Rattle.std.specs.Prelude.{◌≡◌, ℕ, ◌≤◌, true, false, List, ◌++◌, Option, Some, is_none, ◌<◌, ◌^◌}
use Rattle.ct_values.specs.Words.{is_nil}
use Rattle.ct_call.specs.Rules.{Rules}
use Rattle.ct_frame.specs.declared.frame.Msg.{Msg}
use Rattle.ct_frame.specs.declared.frame.Msg.TheVariants as msg
use Rattle.ct_frame.specs.declared.header.RecCopy.{RecCopy}
use Rattle.ct_tracking.specs.Tracked.{Tracked}
use Rattle.ct_tracking.specs.Vacuum.{Vacuuming}
use Rattle.ct_rules.specs.State.{nothing_kept, is_mastered}
use Rattle.ct_rules.specs.Parts.{Moving}
use Rattle.ct_rules.specs.Moves.{arrive, move, moved}
use Rattle.ct_law_rules.specs.Form.{HasCounters, HasLowCalls, CallsLow, IsInForm, MayCome, IsAfter}
use Rattle.ct_rules.specs.declared.event.MoveEvent.{MoveEvent}
use Rattle.ct_rules.specs.declared.event.Place.{Place}
use Rattle.ct_rules.specs.declared.state.RecState.{RecState}

-- a state in which nothing is kept is in form at every place, whatever the numbers of the node are
abbrev pub StartsInForm : Type 0
StartsInForm = (at : Place) (next : ℕ) → HasCounters next at.floor → IsInForm at next nothing_kept

-- a state in form stays in form: whatever may come to it, if no number reaches 2^62, leaves it so, under a next request
-- number and a floor that are not smaller
abbrev pub KeepsForm : Type 0
KeepsForm = (at : Place) (rules : Rules) (e : MoveEvent) (s : RecState) (next : ℕ) (o : Moving) →
    IsInForm at next s → MayCome s e →
    moved at rules e s next ≡ Some o → IsAfter at next o

-- the calls of the lock and of the wish keep numbers below 2^62, whatever comes; and so they begin
abbrev pub KeepsCallsLow : Type 0
KeepsCallsLow = (at : Place) (rules : Rules) (e : MoveEvent) (o : Moving) →
    CallsLow e → HasLowCalls o.state.locked o.state.wish → HasLowCalls (move at rules e o).state.locked (move at rules e o).state.wish

abbrev pub StartsWithLowCalls : Type 0
StartsWithLowCalls = HasLowCalls nothing_kept.locked nothing_kept.wish

-- the first list is a front of the second
unfoldable pub IsFront : {X : Type 0} → List X → List X → Type 0
IsFront {X} before after = (more : List X) × (after ≡ before ++ more)

-- what grows alone: the next request number, the floor, what was spent, and what is done
pub record Grows (o p : Moving) : Type 0 where
  pub next : o.next ≤ p.next
  pub floor : o.floor ≤ p.floor
  pub spent : o.spent ≡ true → p.spent ≡ true
  pub acts : IsFront o.acts p.acts

-- whatever comes, these grow alone
abbrev pub GrowsAlone : Type 0
GrowsAlone = (at : Place) (rules : Rules) (e : MoveEvent) (o : Moving) → Grows o (move at rules e o)

-- nodes are tracked only where the node is holder, and none while a vacuum runs
pub record TracksAsHolder (at : Place) (copy : Option RecCopy) (tracking : Tracked) (vacuum : Option Vacuuming) : Type 0 where
  pub tracked_held : is_nil tracking.tracked ≡ false → is_mastered at.me copy ≡ true
  pub vacuum_untracked : is_none vacuum ≡ false → is_nil tracking.tracked ≡ true

-- whatever comes, this stays so
abbrev pub KeepsTracking : Type 0
KeepsTracking = (at : Place) (rules : Rules) (e : MoveEvent) (o : Moving) →
    TracksAsHolder at o.state.copy o.state.tracking o.state.vacuum →
    TracksAsHolder at (move at rules e o).state.copy (move at rules e o).state.tracking (move at rules e o).state.vacuum

-- the same message, which speaks of another record
unfoldable pub readdressed : ℕ → List ℕ → Msg → Msg
readdressed db key (msg.Call _ _ request k) = msg.Call db key request k
readdressed db key (msg.Recall _ _ least node request k) = msg.Recall db key least node request k
readdressed db key (msg.Give _ _ rsn value) = msg.Give db key rsn value
readdressed db key (msg.Pass _ _ request rsn value) = msg.Pass db key request rsn value
readdressed db key (msg.Refuse _ _ request rsn) = msg.Refuse db key request rsn
readdressed db key (msg.Grant _ _ request rsn value) = msg.Grant db key request rsn value
readdressed db key (msg.Done _ _ node request) = msg.Done db key node request
readdressed db key (msg.Revoke _ _ rsn) = msg.Revoke db key rsn
readdressed db key (msg.RevokeAck _ _ rsn) = msg.RevokeAck db key rsn
readdressed db key (msg.VStore _ _ rsn) = msg.VStore db key rsn
readdressed db key (msg.VStored _ _ rsn) = msg.VStored db key rsn
readdressed db key (msg.VDelete _ _ rsn) = msg.VDelete db key rsn
readdressed db key (msg.VDeleted _ _ rsn) = msg.VDeleted db key rsn
readdressed db key m = m

-- which record a message speaks of is settled before it arrives at one: the rule does not read it
abbrev pub ReadsNoNames : Type 0
ReadsNoNames = (at : Place) (rules : Rules) (sender : ℕ) (m : Msg) (db : ℕ) (key : List ℕ) (o : Moving) →
    arrive at rules sender (readdressed db key m) o ≡ arrive at rules sender m o
