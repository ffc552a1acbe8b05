-- The nodes that the state of a record names, and those to which the messages of a step go.
use Rattle.std.specs.Prelude.{◌≡◌, ℕ, Bool, true, List, [], ◌∷◌, ◌++◌, Option, None, Some}
use Rattle.std.specs.List.{list_all}
use Rattle.ct_call.specs.Rules.{Rules}
use Rattle.ct_tracking.specs.Tracked.{Tracked, missing_of}
use Rattle.ct_tracking.specs.Vacuum.{Vacuuming}
use Rattle.ct_rules.specs.Moves.{move, call_again, revoke_again, begins}
use Rattle.ct_rules.specs.Parts.{Moving}
use Rattle.ct_rules.specs.declared.event.Act.{Act}
use Rattle.ct_rules.specs.declared.event.Act.TheVariants as act
use Rattle.ct_rules.specs.declared.event.MoveEvent.{MoveEvent}
use Rattle.ct_rules.specs.declared.event.MoveEvent.TheVariants as event
use Rattle.ct_rules.specs.declared.event.Place.{Place}
use Rattle.ct_rules.specs.declared.state.Entry.{Entry}
use Rattle.ct_rules.specs.declared.state.RecState.{RecState}
use Rattle.ct_rules.specs.declared.state.RecallNote.{RecallNote}
use Rattle.ct_rules.specs.declared.state.Waiter.{Waiter}
use Rattle.ct_rules_node.specs.Admission.{named_in}

-- the holder that an entry names, if there is one
unfoldable pub holders_of : Option Entry → List ℕ
holders_of None = []
holders_of (Some e) = e.holder ∷ []

-- is the node of a request that waits one of these?
unfoldable pub waits_among : (ℕ → Bool) → Waiter → Bool
waits_among is w = is w.node

-- is the node of a recall that waits one of these?
unfoldable pub is_recalled_among : (ℕ → Bool) → RecallNote → Bool
is_recalled_among is r = is r.node

-- the nodes of a vacuum: those that are missing, and all that take part
unfoldable pub vacuumed_by : Option Vacuuming → List ℕ
vacuumed_by None = []
vacuumed_by (Some v) = v.missing ++ v.others

-- all nodes that these parts of a record's state name are such nodes
pub record NamesAmong (is : ℕ → Bool) (entry : Option Entry) (queue : List Waiter) (waiting : List RecallNote) (tracking : Tracked) (vacuum : Option Vacuuming) : Type 0 where
  pub holder_is : list_all is (holders_of entry) ≡ true
  pub queue_are : list_all (waits_among is) queue ≡ true
  pub waiting_are : list_all (is_recalled_among is) waiting ≡ true
  pub tracked_are : list_all is tracking.tracked ≡ true
  pub missing_are : list_all is (missing_of tracking.revoking) ≡ true
  pub vacuumed_are : list_all is (vacuumed_by vacuum) ≡ true

-- so are all that the state names
abbrev pub NamesOnly : (ℕ → Bool) → RecState → Type 0
NamesOnly is s = NamesAmong is s.entry s.queue s.waiting s.tracking s.vacuum

-- who sends what comes, whom it names, and whom a vacuum asks are such nodes
unfoldable pub comes_among : (ℕ → Bool) → MoveEvent → Bool
comes_among is (event.Arrive sender m) = list_all is (sender ∷ named_in m)
comes_among is (event.Vacuum others) = list_all is others
comes_among is _ = true

-- a message goes to such a node
unfoldable pub goes_among : (ℕ → Bool) → Act → Bool
goes_among is (act.Send receiver m) = is receiver
goes_among is (act.Answer call answer) = true
goes_among is (act.Finished floor) = true

-- the state names such nodes alone, and all that was done goes to them
abbrev pub StaysAmong : (ℕ → Bool) → Moving → Type 0
StaysAmong is o = NamesOnly is o.state × (list_all (goes_among is) o.acts ≡ true)

-- a step from a state that names such nodes alone, where L is one, of what comes from them, leaves it so
abbrev pub NamesKept : Type 0
NamesKept = (is : ℕ → Bool) (at : Place) (rules : Rules) (e : MoveEvent) (s : RecState) (next floor : ℕ) →
    is at.lmaster ≡ true → comes_among is e ≡ true → NamesOnly is s → StaysAmong is (move at rules e (begins s next floor))

-- so do the Call and the Revoke of a retry
abbrev pub ResendsNamed : Type 0
ResendsNamed = (is : ℕ → Bool) (at : Place) (s : RecState) (next floor : ℕ) →
    is at.lmaster ≡ true → NamesOnly is s → StaysAmong is (call_again at (begins s next floor)) × StaysAmong is (revoke_again at (begins s next floor))
