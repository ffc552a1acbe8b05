-- States that can stand at a place, and what keeps them so.
use Rattle.std.specs.Prelude.{◌≡◌, ◌≢◌, ℕ, ◌<◌, ◌≤◌, ◌^◌, Bool, true, false, ◌&&◌, List, Option, None, Some, is_none, is_some}
use Rattle.std.specs.List.{list_all}
use Rattle.std.specs.List.Sorted.{IsStrictlyIncreasing}
use Rattle.ct_values.specs.Words.{is_nil}
use Rattle.ct_values.specs.Client.{is_read, wants_record}
use Rattle.ct_values.specs.declared.client.ClientOp.{ClientOp}
use Rattle.ct_values.specs.declared.client.ClientOp.TheVariants as op
use Rattle.ct_frame.specs.Fields.{is_from_one, is_below_limit, is_message}
use Rattle.ct_frame.specs.declared.frame.Msg.{Msg}
use Rattle.ct_frame.specs.declared.frame.Msg.TheVariants as msg
use Rattle.ct_frame.specs.declared.header.RecCopy.{RecCopy}
use Rattle.ct_tracking.specs.Tracked.{Tracked, Revocation}
use Rattle.ct_tracking.specs.Vacuum.{Vacuuming}
use Rattle.ct_rules.specs.State.{rsn_of, is_mastered, is_quiet}
use Rattle.ct_rules.specs.Parts.{Moving}
use Rattle.ct_rules.specs.declared.event.MoveEvent.{MoveEvent}
use Rattle.ct_rules.specs.declared.event.MoveEvent.TheVariants as event
use Rattle.ct_rules.specs.declared.event.Place.{Place}
use Rattle.ct_rules.specs.declared.state.Entry.{Entry}
use Rattle.ct_rules.specs.declared.state.RecallNote.{RecallNote}
use Rattle.ct_rules.specs.declared.state.RecState.{RecState}
use Rattle.ct_rules.specs.declared.state.Waiter.{Waiter}
use Rattle.ct_rules.specs.declared.state.Wish.{Wish}

-- the numbers of what may be absent, 0 where it is
unfoldable pub least_of : Option Entry → ℕ
least_of None = 0
least_of (Some e) = e.least

-- the number of the request that the entry was sent for, 0 where there is none
unfoldable pub sent_for : Option Entry → ℕ
sent_for None = 0
sent_for (Some e) = e.request

-- the number of the request that the wish was called for under, 0 where there is none
unfoldable pub wished_as : Option Wish → ℕ
wished_as None = 0
wished_as (Some w) = w.request

-- the number of the call that waits, 0 where none does
unfoldable pub wishing_call : Option Wish → ℕ
wishing_call None = 0
wishing_call (Some w) = w.call

-- the number of the call that has the lock, 0 where none has
unfoldable pub locking_call : Option ℕ → ℕ
locking_call None = 0
locking_call (Some call) = call

-- the RSN of the revocation that runs, 0 where none does
unfoldable pub revoked_rsn : Option Revocation → ℕ
revoked_rsn None = 0
revoked_rsn (Some r) = r.rsn

-- the RSN of the vacuum that runs, 0 where none does
unfoldable pub vacuumed_rsn : Option Vacuuming → ℕ
vacuumed_rsn None = 0
vacuumed_rsn (Some v) = v.rsn

-- does the operation of a wish want the record? So it is where there is no wish
unfoldable pub wishes_record : Option Wish → Bool
wishes_record None = true
wishes_record (Some w) = wants_record w.op

-- a request that waits has a number from 1 to below 2^62
unfoldable pub is_asked : Waiter → Bool
is_asked w = is_from_one w.request

-- so has the request of a recall that waits, whose least is below 2^62
unfoldable pub is_recalled : RecallNote → Bool
is_recalled r = is_from_one r.request && is_below_limit r.least

-- what stands beside what
pub record HasShape (at : Place) (copy : Option RecCopy) (entry : Option Entry) (queue : List Waiter) (waiting : List RecallNote) (tracking : Tracked) (vacuum : Option Vacuuming) (locked : Option ℕ) (wish : Option Wish) : Type 0 where
  -- an entry whose request is not 0 has a least of at least 1
  pub sent_on : sent_for entry ≢ 0 → 1 ≤ least_of entry
  -- a queue stands only beside an entry
  pub queue_entry : is_nil queue ≡ false → is_none entry ≡ false
  -- a lock stands only where the node is holder
  pub lock_held : is_none locked ≡ false → is_mastered at.me copy ≡ true
  -- a revocation runs only where the node is holder
  pub revocation_held : is_quiet tracking ≡ false → is_mastered at.me copy ≡ true
  -- never together with a lock
  pub lock_quiet : is_none locked ≡ false → is_quiet tracking ≡ true
  -- and only while a node is tracked
  pub revocation_tracked : is_quiet tracking ≡ false → is_nil tracking.tracked ≡ false
  -- a locked key has no wish
  pub lock_unwished : is_none locked ≡ false → is_none wish ≡ true
  -- a vacuum runs only at the location master
  pub vacuum_home : is_none vacuum ≡ false → at.me ≡ at.lmaster
  -- with an empty queue
  pub vacuum_queue : is_none vacuum ≡ false → is_nil queue ≡ true
  -- with no lock
  pub vacuum_unlocked : is_none vacuum ≡ false → is_none locked ≡ true
  -- with no wish
  pub vacuum_unwished : is_none vacuum ≡ false → is_none wish ≡ true
  -- and with no revocation
  pub vacuum_quiet : is_none vacuum ≡ false → is_quiet tracking ≡ true
  -- the operation of a wish is a lock, a read, a write or a function
  pub wish_wants : wishes_record wish ≡ true
  -- the requests that wait are at least 1 and below 2^62
  pub queue_asked : list_all is_asked queue ≡ true
  -- so are those of the recalls that wait, whose leasts are below 2^62
  pub waiting_recalled : list_all is_recalled waiting ≡ true

-- these numbers are below 2^62: the RSN of the copy, the entry's least and request, the RSNs of the revocation and of the
-- vacuum, and the request of the wish
pub record HasNumbers (copy : Option RecCopy) (entry : Option Entry) (tracking : Tracked) (vacuum : Option Vacuuming) (wish : Option Wish) : Type 0 where
  pub copy_limit : rsn_of copy < 2 ^ 62
  pub least_limit : least_of entry < 2 ^ 62
  pub request_limit : sent_for entry < 2 ^ 62
  pub revocation_limit : revoked_rsn tracking.revoking < 2 ^ 62
  pub vacuum_limit : vacuumed_rsn vacuum < 2 ^ 62
  pub wish_limit : wished_as wish < 2 ^ 62

-- the numbers of the node that the rule reads: the next request number is at least 1, and as the floor below 2^62
pub record HasCounters (next floor : ℕ) : Type 0 where
  pub from_one : 1 ≤ next
  pub next_limit : next < 2 ^ 62
  pub floor_limit : floor < 2 ^ 62

-- a state is in form at a place of a node with this next request number
pub record IsInForm (at : Place) (next : ℕ) (s : RecState) : Type 0 where
  pub shape : HasShape at s.copy s.entry s.queue s.waiting s.tracking s.vacuum s.locked s.wish
  pub numbers : HasNumbers s.copy s.entry s.tracking s.vacuum s.wish
  pub counters : HasCounters next at.floor

-- the calls of the lock and of the wish have numbers below 2^62
pub record HasLowCalls (locked : Option ℕ) (wish : Option Wish) : Type 0 where
  pub lock_limit : locking_call locked < 2 ^ 62
  pub wish_limit : wishing_call wish < 2 ^ 62

-- so has the call that wants the record, where the event is one
unfoldable pub CallsLow : MoveEvent → Type 0
CallsLow (event.Want call asked) = call < 2 ^ 62
CallsLow _ = Unit {0}

-- the messages that speak of one record
unfoldable pub is_of_record : Msg → Bool
is_of_record (msg.Call db key request k) = true
is_of_record (msg.Recall db key least node request k) = true
is_of_record (msg.Give db key rsn value) = true
is_of_record (msg.Pass db key request rsn value) = true
is_of_record (msg.Refuse db key request rsn) = true
is_of_record (msg.Grant db key request rsn value) = true
is_of_record (msg.Done db key node request) = true
is_of_record (msg.Revoke db key rsn) = true
is_of_record (msg.RevokeAck db key rsn) = true
is_of_record (msg.VStore db key rsn) = true
is_of_record (msg.VStored db key rsn) = true
is_of_record (msg.VDelete db key rsn) = true
is_of_record (msg.VDeleted db key rsn) = true
is_of_record _ = false

-- an event may come to a state. A call that wants the record finds no other call that waits, and none but a read comes
-- under the lock; only who has the lock stores and unlocks; a message speaks of a record and keeps the rules of its
-- fields; the nodes that a vacuum asks ascend
abbrev pub MayCome : RecState → MoveEvent → Type 0
MayCome s (event.Want call asked) = (wants_record asked ≡ true) × (s.wish ≡ None) × (is_read asked ≡ false → s.locked ≡ None)
MayCome s (event.Store call v) = is_some s.locked ≡ true
MayCome s (event.Unlock call) = is_some s.locked ≡ true
MayCome s (event.Arrive sender m) = (is_of_record m ≡ true) × (is_message sender m ≡ true)
MayCome s (event.Vacuum others) = IsStrictlyIncreasing others
MayCome s event.Resend = Unit {0}

-- what a whole step leaves: a state in form, a next request number that is not smaller, a floor that is not smaller
pub record IsAfter (at : Place) (next : ℕ) (o : Moving) : Type 0 where
  pub form : IsInForm (record at { floor = o.floor }) o.next o.state
  pub next_rises : next ≤ o.next
  pub floor_rises : at.floor ≤ o.floor
