-- What serving does to a node, and why it ends.
use Rattle.std.specs.Prelude.{◌≡◌, ℕ, ◌+◌, ◌-◌, ◌^◌, ◌≤◌, ◌⊎◌, min, nat_le, Bool, true, false, List, Option, None, Some, Result, Ok, Err, OnOk, MatchBool}
use Rattle.std.specs.Result.{result_err}
use Rattle.ct_actor.specs.Acting.{IsActing}
use Rattle.ct_call.specs.Rules.{Rules}
use Rattle.ct_script.specs.Cues.{next_item}
use Rattle.ct_script.specs.declared.cue.Cue.{Cue}
use Rattle.ct_frame.specs.declared.event.Event.{Event}
use Rattle.ct_frame.specs.declared.event.Event.TheVariants as event
use Rattle.ct_script.specs.declared.plan.PlanItem.{PlanItem}
use Rattle.ct_script.specs.declared.plan.PlanItem.TheVariants.{Call, Round}
use Rattle.ct_journal.specs.declared.journal.JournalEntry.{JournalEntry}
use Rattle.ct_actor.specs.Journalled.{Journalled}
use Rattle.ct_outside.specs.Causes.{Rose}
use Rattle.ct_rules_node.specs.Coming.{may_come}
use Rattle.ct_rules_node.specs.Steps.{stepped}
use Rattle.ct_values.specs.declared.client.ClientOp.{ClientOp}
use Rattle.ct_actor_serving.specs.declared.fault.AtLimit.{AtLimit}
use Rattle.ct_actor_serving.specs.declared.fault.AtLimit.TheVariants as limit
use Rattle.ct_actor_serving.specs.declared.fault.Served.{Served}
use Rattle.ct_actor_serving.specs.declared.fault.Served.TheVariants as served
use Rattle.ct_actor_serving.specs.declared.fault.ServeFault.{ServeFault}
use Rattle.ct_actor_serving.specs.declared.fault.ServeFault.TheVariants as fault
use Rattle.ct_actor_serving.specs.declared.fault.Until.{Until}
use Rattle.ct_actor_serving.specs.declared.fault.Until.TheVariants as until
use Rattle.ct_node_state.specs.declared.turn.CoreFault.{CoreFault}
use Rattle.ct_node_state.specs.declared.turn.CoreFault.TheVariants as core

-- ---- what is counted outside

-- how often a link failed, answered the end and answered a look, and how often a lock failed and refused
pub record Counts : Type 0 where
  pub failed : ℕ
  pub ended : ℕ
  pub looked : ℕ
  pub lock_failed : ℕ
  pub refused : ℕ

-- those of a link alone
abbrev pub of_link : {L : Type 0} → (L → ℕ) → (L → ℕ) → (L → ℕ) → L → Counts
of_link faults endings looks link = record { failed = faults link; ended = endings link; looked = looks link; lock_failed = 0; refused = 0 }

-- those of a lock alone
abbrev pub of_lock : {R : Type 0} → (R → ℕ) → (R → ℕ) → R → Counts
of_lock faults refusals lock = record { failed = 0; ended = 0; looked = 0; lock_failed = faults lock; refused = refusals lock }

-- those of a link, and those of a lock
abbrev pub both : Counts → Counts → Counts
both link lock = record link { lock_failed = lock.lock_failed; refused = lock.refused }

-- none of the counts fell
pub record NoneFell (old new : Counts) : Type 0 where
  pub failed : old.failed ≤ new.failed
  pub ended : old.ended ≤ new.ended
  pub looked : old.looked ≤ new.looked
  pub lock_failed : old.lock_failed ≤ new.lock_failed
  pub refused : old.refused ≤ new.refused

-- ---- what goes on

-- it acts by the rules and the script, whatever entries it began with
abbrev pub Acts : Rules → List PlanItem → Journalled → Cue → Type 0
Acts rules script x c = (before : List JournalEntry) × IsActing rules script before x c

-- Serving: a node goes on in its script. Whatever entries it began with, it still acts by the rules and the script; its
-- number and its configuration stay.
pub record GoesOn (rules : Rules) (script : List PlanItem) (x : Journalled) (c : Cue) (y : Journalled) (d : Cue) : Type 0 where
  pub acting : (before : List JournalEntry) → IsActing rules script before x c → IsActing rules script before y d
  pub pnn : y.core.pnn ≡ x.core.pnn
  pub config : y.core.config ≡ x.core.config

-- an event may come, and the rules give no step of it, since a number would reach 2^62
pub record IsRefused (rules : Rules) (e : Event) (x : Journalled) : Type 0 where
  pub comes : may_come x.core.config x.core.pnn x.core.node e ≡ true
  pub none : stepped x.core.config rules x.core.pnn e x.core.node ≡ None

-- Serving: where a round gets no ticket, it is the next item of the script; so is a call or a round that the rules refuse
abbrev pub IsNextItem : Rules → List PlanItem → Option ServeFault → Journalled → Cue → Type 0
IsNextItem rules script (Some (fault.Held holder)) x c = (members : List ℕ) × (next_item script c ≡ Some (Round members))
IsNextItem rules script (Some (fault.Exhausted limit.Ticket)) x c = (members : List ℕ) × (next_item script c ≡ Some (Round members))
IsNextItem rules script (Some (fault.Exhausted limit.Call)) x c = (o : ClientOp) × (next_item script c ≡ Some (Call o)) × IsRefused rules (event.Client (c.calls + 1) o) x
IsNextItem rules script (Some (fault.Exhausted (limit.Round ticket))) x c = (members : List ℕ) × (next_item script c ≡ Some (Round members)) × IsRefused rules (event.BeginRound ticket members) x
IsNextItem rules script _ x c = Unit {0}

-- Serving: a node acts by the rules and the script since it had these entries; where nothing went wrong, no item of the script
-- can be taken any more, and where an item is refused, it is the next one.
pub record HasActed (rules : Rules) (script : List PlanItem) (before : List JournalEntry) (result : Result Served ServeFault) (x : Journalled) : Type 0 where
  pub cue : Cue
  pub acting : IsActing rules script before x cue
  pub done : OnOk result (next_item script cue ≡ None)
  pub next : IsNextItem rules script (result_err result) x cue

-- ---- how it ends

-- a count rose so often, or stands at its type's end
abbrev pub RoseBy : ℕ → ℕ → ℕ → Type 0
RoseBy times before now = min (before + times) (2 ^ 64 - 1) ≤ now

-- one turn: a look was answered. Where it was told that nothing will come any more, that was counted, and no item of the script
-- could be taken.
abbrev pub Turned : Bool → Counts → Counts → Option PlanItem → Type 0
Turned closed old new next = Rose old.looked new.looked × MatchBool closed (Rose old.ended new.ended × (next ≡ None)) (Unit {0})

-- how many turns there may be
abbrev pub most_turns : Until → ℕ
most_turns (until.Turns turns) = turns
most_turns (until.Entries entries) = 2 ^ 64 - 1

-- has a journal of so many entries all that it is to have?
abbrev pub is_full : Until → ℕ → Bool
is_full (until.Turns turns) count = false
is_full (until.Entries entries) count = nat_le entries count

-- Serving: how it ends where nothing went wrong, with a journal of so many entries. The end was told; or so many looks were
-- answered, or the journal has its entries.
abbrev pub EndsBy : Until → Served → ℕ → Counts → Counts → Type 0
EndsBy u served.Closed count old new = Rose old.ended new.ended
EndsBy (until.Turns turns) served.Budget count old new = RoseBy turns old.looked new.looked
EndsBy (until.Entries entries) served.Budget count old new = (entries ≤ count) ⊎ RoseBy (2 ^ 64 - 1) old.looked new.looked

-- ---- why it ends too early

-- the fault where a step of this is refused
abbrev pub fault_of : AtLimit → CoreFault → ServeFault
fault_of at core.Exhausted = fault.Exhausted at
fault_of at core.NoMemory = fault.NoMemory

-- Serving: why it ends too early, by counts. Want of memory alone needs no cause. What is told of an item is told by the script
-- (IsNextItem), of a message by the pieces that were taken and by the entries that were made (Serves).
unfoldable pub HasCause : ServeFault → Counts → Counts → Type 0
HasCause fault.Link old new = Rose old.failed new.failed ⊎ Rose old.lock_failed new.lock_failed
HasCause (fault.Foreign sender offset) old new = Unit {0}
HasCause (fault.Held holder) old new = Rose old.refused new.refused
HasCause (fault.TooLong size) old new = Unit {0}
HasCause (fault.Exhausted limit.Ticket) old new = Rose old.refused new.refused
HasCause (fault.Exhausted limit.Call) old new = Unit {0}
HasCause (fault.Exhausted (limit.Round ticket)) old new = Unit {0}
HasCause (fault.Exhausted (limit.Message sender)) old new = Unit {0}
HasCause fault.NoMemory old new = Unit {0}

-- the same of an answer, which needs none where it is no fault
abbrev pub IsCaused : {A : Type 0} → Result A ServeFault → Counts → Counts → Type 0
IsCaused (Ok a) old new = Unit {0}
IsCaused (Err e) old new = HasCause e old new

-- ---- of what a fault tells

-- nothing of pieces
abbrev pub IsNoPiece : Option ServeFault → Type 0
IsNoPiece (Some (fault.Foreign sender offset)) = ⊥
IsNoPiece (Some (fault.Exhausted (limit.Message sender))) = ⊥
IsNoPiece _ = Unit {0}

-- nothing of an item of a script
abbrev pub IsNoItem : Option ServeFault → Type 0
IsNoItem (Some (fault.Held holder)) = ⊥
IsNoItem (Some (fault.Exhausted limit.Ticket)) = ⊥
IsNoItem (Some (fault.Exhausted limit.Call)) = ⊥
IsNoItem (Some (fault.Exhausted (limit.Round ticket))) = ⊥
IsNoItem _ = Unit {0}

-- nothing of a message that is sent
abbrev pub IsNoSend : Option ServeFault → Type 0
IsNoSend (Some (fault.TooLong size)) = ⊥
IsNoSend _ = Unit {0}
