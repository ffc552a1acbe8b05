-- The law of one record: what nodes tell by the log of open calls, in which each answer has what its client asked.
use Rattle.std.specs.Prelude.{◌≡◌, ℕ, nat_eq, Bool, true, not, ◌&&◌, if◌then◌else◌, Option, Some, None, is_none, is_some, List, [], ◌∷◌, ◌++◌, slice_get, length}
use Rattle.std.specs.List.{list_all}
use Rattle.ct_values.specs.Client.{wants_record}
use Rattle.ct_values.specs.declared.client.ClientOp.{ClientOp}
use Rattle.ct_values.specs.declared.client.ClientOp.TheVariants as op
use Rattle.ct_frame.specs.Fields.{is_node}
use Rattle.ct_frame.specs.declared.frame.TableRow.{TableRow}
use Rattle.ct_rules.specs.Parts.{Moving}
use Rattle.ct_rules.specs.Messages.{greater}
use Rattle.ct_rules.specs.Moves.{move, release, begins}
use Rattle.ct_rules.specs.declared.event.Act.{Act}
use Rattle.ct_rules.specs.declared.event.Act.TheVariants as act
use Rattle.ct_rules.specs.declared.event.MoveEvent.TheVariants as event
use Rattle.ct_rules.specs.declared.state.Wish.{Wish}
use Rattle.ct_register.specs.Handed.{want_again, is_among}
use Rattle.ct_register.specs.Register.{Register, reading, newborn}
use Rattle.ct_law_record.specs.Labels.{Label, AcceptsAll}
use Rattle.ct_law_record.specs.World as world
use Rattle.ct_law_record.specs.World.{Scene, View, Mail, World, Event, Wants, Stores, Unlocks, Releases, Comes, Vacuums, Resends, Thaws, Ends, Leaves, Joins, Rises, place, starts, peers, may_want, waiting_call, answers, call_of, sent, view_of, Stands, NothingIsLost, Parent, bare, born, AreDrawn, SeesAtMost}

-- ---- open calls

-- at each node, what the open call of each number asks, as its client gave it
abbrev pub Log : Type 0
Log = ℕ → ℕ → Option ClientOp

-- the log with this of one call of node n
unfoldable pub with_call : ℕ → ℕ → Option ClientOp → Log → Log
with_call n call x log k c = if nat_eq k n && nat_eq c call then x else log k c

-- Open calls: after an act of node n; a call that is answered is open no more
unfoldable pub closed_by : ℕ → Act → Log → Log
closed_by n (act.Answer call a) log = with_call n call None log
closed_by n x log = log

-- Open calls: after all acts of a step
unfoldable pub closed_by_all : ℕ → List Act → Log → Log
closed_by_all n [] log = log
closed_by_all n (x ∷ xs) log = closed_by_all n xs (closed_by n x log)

-- the calls that wait at a node are exactly its open ones, each with what its client asked
abbrev pub CallsStand : World → Log → Type 0
CallsStand w log = (n call : ℕ) → log n call ≡ waiting_call (w.nodes n).state.wish call

-- the log of the calls that wait, where a schedule goes on from them
abbrev pub log_of : World → Log
log_of w n call = waiting_call (w.nodes n).state.wish call

-- each call that waits wants the record
abbrev pub AreWanting : (ℕ → Option Wish) → Type 0
AreWanting wish = (n : ℕ) (w : Wish) → wish n ≡ Some w → wants_record w.op ≡ true

-- ---- steps

-- what a step tells, each answer by the log as it stands
unfoldable pub told_by : ℕ → Log → List Act → List Label
told_by n log [] = []
told_by n log (x ∷ xs) = answers n (log n (call_of x)) x ++ told_by n (closed_by n x log) xs

-- a world with its log, and the labels of the step to it
pub record Logged : Type 0 where
  pub world : World
  pub log : Log
  pub labels : List Label

abbrev pub stays : World → Log → Logged
stays w log = record { world = w; log = log; labels = [] }

-- what a rule makes of a node, once these calls are open: who is no member, or has not joined, does nothing, and there is no
-- step in which a number would reach 2^62
abbrev pub put : Scene → World → Log → Log → ℕ → Moving → Logged
put s w log opened n o = if is_among n s.members && w.joined n && not o.spent then record {
  world = record { nodes = λ k. if nat_eq k n then view_of o else w.nodes k; joined = w.joined; mail = w.mail ++ sent n o.acts };
  log = closed_by_all n o.acts opened;
  labels = told_by n opened o.acts;
} else stays w log

-- a client's call comes under a number of which no call of the node is open; it is open before its step
abbrev pub calls : Scene → World → Log → ℕ → ℕ → ClientOp → Bool → Moving → Logged
calls s w log n call asked may o = if is_none (log n call) && may then put s w log (with_call n call (Some asked) log) n o else stays w log

-- a step that answers nothing
abbrev pub aside : Log → world.Stepped → Logged
aside log x = record { world = x.world; log = log; labels = x.labels }

-- a message comes to its receiver
abbrev pub comes_logged : Scene → World → Log → Option Mail → Logged
comes_logged s w log None = stays w log
comes_logged s w log (Some m) = put s w log log m.receiver (move (place s m.receiver (w.nodes m.receiver)) s.rules (event.Arrive m.sender m.msg) (starts (w.nodes m.receiver)))

abbrev pub happens : Scene → World → Log → Event → Logged
happens s w log (Wants n call asked) = calls s w log n call asked (may_want (w.nodes n).state asked) (move (place s n (w.nodes n)) s.rules (event.Want call asked) (starts (w.nodes n)))
happens s w log (Stores n call v) = calls s w log n call (op.Store s.db s.key v) (is_some (w.nodes n).state.locked) (move (place s n (w.nodes n)) s.rules (event.Store call v) (starts (w.nodes n)))
happens s w log (Unlocks n call) = calls s w log n call (op.Unlock s.db s.key) (is_some (w.nodes n).state.locked) (move (place s n (w.nodes n)) s.rules (event.Unlock call) (starts (w.nodes n)))
happens s w log (Releases n call) = calls s w log n call (op.Unlock s.db s.key) (is_some (w.nodes n).state.locked) (release call (starts (w.nodes n)))
happens s w log (Comes which) = comes_logged s w log (slice_get w.mail which)
happens s w log (Vacuums n) = put s w log log n (move (place s n (w.nodes n)) s.rules (event.Vacuum (peers s n)) (starts (w.nodes n)))
happens s w log (Resends n) = put s w log log n (move (place s n (w.nodes n)) s.rules event.Resend (starts (w.nodes n)))
happens s w log (Thaws n) = put s w log log n (want_again s.rules (place s n (w.nodes n)) (starts (w.nodes n)))
happens s w log (Ends n) = aside log (world.happens s w (Ends n))
happens s w log (Leaves n) = aside log (world.happens s w (Leaves n))
happens s w log (Joins n) = aside log (world.happens s w (Joins n))
happens s w log (Rises n next floor) = put s w log log n (begins (w.nodes n).state (greater (w.nodes n).next next) (greater (w.nodes n).floor floor))

-- a whole schedule: its last world and log, and all that it tells
abbrev pub ran : Scene → World → Log → List Event → Logged
ran s w log [] = stays w log
ran s w log (e ∷ es) = let x = happens s w log e in let y = ran s x.world x.log es in record { world = y.world; log = y.log; labels = x.labels ++ y.labels }

-- ---- what a schedule leads to

-- from a world, the log of its open calls and a register
abbrev pub LeadsToLogged : Scene → World → Log → Register → List Event → Type 0
LeadsToLogged s w log r events = let y = ran s w log events in
    (t : Register) × AcceptsAll s.rules r y.labels t × Stands y.world t × CallsStand y.world y.log × NothingIsLost y.world t × Parent y.world t

-- every schedule from the opening, where no call is open, is one register's
abbrev pub OpensAsOneRegister : Type 0
OpensAsOneRegister = (s : Scene) (events : List Event) → list_all is_node s.members ≡ true → LeadsToLogged s world.opening (λ n call. None) (newborn []) events

-- so is every schedule of a generation in which the record has no row, with any calls that wait, and whoever has joined it
abbrev pub BeginsAsOneRegister : Type 0
BeginsAsOneRegister = (s : Scene) (joined : ℕ → Bool) (number : ℕ → ℕ) (wish : ℕ → Option Wish) (events : List Event) → list_all is_node s.members ≡ true → AreDrawn number wish → AreWanting wish →
    let w = bare joined number wish in LeadsToLogged s w (log_of w) (newborn []) events

-- and every schedule of a generation that begins with a row, whose data master is a member as the location master is, with
-- any calls that wait; the register begins with any versions whose reading is the row's value, and with what its nodes have
-- seen of them
abbrev pub IsBornAsOneRegister : Type 0
IsBornAsOneRegister = (s : Scene) (row : TableRow) (master : ℕ) (versions : List (List ℕ)) (seen : ℕ → ℕ) (joined : ℕ → Bool) (number : ℕ → ℕ) (wish : ℕ → Option Wish) (events : List Event) →
    list_all is_node s.members ≡ true → is_among s.lmaster s.members ≡ true → row.master ≡ Some master → is_among master s.members ≡ true → row.value ≡ reading versions →
    SeesAtMost s seen (length versions) → AreDrawn number wish → AreWanting wish →
    let w = born s row joined number wish in LeadsToLogged s w (log_of w) (record (newborn versions) { seen = seen }) events
