-- All nodes of one record in one generation, and every message about it that was ever sent. What a schedule tells is said here
-- by the call that waits at a node; `Calls` says it by the log of open calls, and ct_law_record shows that both are the same.
use Rattle.std.specs.Prelude.{◌≡◌, ◌↔◌, ℕ, ◌≤◌, ◌<◌, nat_eq, Bool, true, not, ◌&&◌, ◌||◌, if◌then◌else◌, Option, Some, None, is_none, is_some, List, [], ◌∷◌, ◌++◌, slice_get, take, length}
use Rattle.ct_values.specs.Words.{others}
use Rattle.ct_values.specs.Client.{is_read, wants_record}
use Rattle.ct_values.specs.declared.client.ClientOp.{ClientOp}
use Rattle.ct_values.specs.declared.client.ClientOp.TheVariants as op
use Rattle.ct_frame.specs.Header.{for_reading}
use Rattle.ct_frame.specs.declared.frame.Msg.{Msg}
use Rattle.ct_frame.specs.declared.header.RecCopy.{RecCopy}
use Rattle.ct_call.specs.Rules.{Rules}
use Rattle.ct_rules.specs.State.{nothing_kept}
use Rattle.ct_rules.specs.Parts.{Moving}
use Rattle.ct_rules.specs.Messages.{greater}
use Rattle.ct_rules.specs.Moves.{move, release, begins}
use Rattle.ct_rules.specs.declared.event.Act.{Act}
use Rattle.ct_rules.specs.declared.event.Act.TheVariants as act
use Rattle.ct_rules.specs.declared.event.MoveEvent.{MoveEvent}
use Rattle.ct_rules.specs.declared.event.MoveEvent.TheVariants as event
use Rattle.ct_rules.specs.declared.event.Place.{Place}
use Rattle.ct_rules.specs.declared.state.RecState.{RecState}
use Rattle.ct_rules.specs.declared.state.Wish.{Wish}
use Rattle.ct_frame.specs.declared.frame.TableRow.{TableRow}
use Rattle.ct_register.specs.Handed.{want_again, installed_state, is_among}
use Rattle.ct_register.specs.Register.{Register, reading}
use Rattle.ct_law_record.specs.Labels.{Label, Told, Unasked, Vacuumed, Ended, Left, Joined, AcceptsAll}

-- a record in a generation: its database and key, its location master, whether its database hands out copies for reading,
-- the members of the generation, and the rules of the functions
pub record Scene : Type 0 where
  pub db : ℕ
  pub key : List ℕ
  pub lmaster : ℕ
  pub readonly : Bool
  pub members : List ℕ
  pub rules : Rules

-- what a node has of the record, and the numbers of the node that its rule reads
pub record View : Type 0 where
  pub state : RecState
  pub next : ℕ
  pub floor : ℕ

-- a message that was sent
pub record Mail : Type 0 where
  pub sender : ℕ
  pub receiver : ℕ
  pub msg : Msg

-- all nodes, which of them have joined the generation, and every message
pub record World : Type 0 where
  pub nodes : ℕ → View
  pub joined : ℕ → Bool
  pub mail : List Mail

pub data Event : Type 0 where
  -- a client of the node wants the record, stores under its lock, or gives the lock back
  Wants : (node call : ℕ) (asked : ClientOp) → Event
  Stores : (node call : ℕ) (value : List ℕ) → Event
  Unlocks : (node call : ℕ) → Event
  -- the same at a node that freezes: the lock ends, and nothing else
  Releases : (node call : ℕ) → Event
  -- any message that was sent comes, as often as it likes
  Comes : (which : ℕ) → Event
  Vacuums : (node : ℕ) → Event
  Resends : (node : ℕ) → Event
  -- Thaw: the call that waits wants the record anew
  Thaws : (node : ℕ) → Event
  -- the lock ends without its client
  Ends : (node : ℕ) → Event
  -- the node stops: its lock is gone, and what it had seen does not count any more
  Leaves : (node : ℕ) → Event
  -- the node joins the generation
  Joins : (node : ℕ) → Event
  -- other records raised the node's next request number, or its floor
  Rises : (node next floor : ℕ) → Event

-- the record, looked at from a node
abbrev pub place : Scene → ℕ → View → Place
place s n v = record { me = n; lmaster = s.lmaster; db = s.db; key = s.key; floor = v.floor; readonly = s.readonly }

-- a step of a node begins
abbrev pub starts : View → Moving
starts v = begins v.state v.next v.floor

-- the members but this one
abbrev pub peers : Scene → ℕ → List ℕ
peers s n = others n s.members

-- may the call come? It wants the record, no other waits, and under the lock it is a read
unfoldable pub may_want : RecState → ClientOp → Bool
may_want s asked = wants_record asked && is_none s.wish && (is_read asked || is_none s.locked)

-- what the call that comes asks
unfoldable pub own_call : ℕ → ClientOp → ℕ → Option ClientOp
own_call call asked c = if nat_eq call c then Some asked else None

-- what the call that waits asks
unfoldable pub waiting_call : Option Wish → ℕ → Option ClientOp
waiting_call None c = None
waiting_call (Some w) c = own_call w.call w.op c

-- what an act tells, where its call asked this: an answer, or that the record was vacuumed
unfoldable pub answers : ℕ → Option ClientOp → Act → List Label
answers n (Some asked) (act.Answer call a) = Told n asked a ∷ []
answers n None (act.Answer call a) = Unasked n a ∷ []
answers n asked (act.Finished floor) = Vacuumed n ∷ []
answers n asked (act.Send receiver m) = []

-- the call of an answer
unfoldable pub call_of : Act → ℕ
call_of (act.Answer call a) = call
call_of _ = 0

-- what a step tells, where the calls ask this
unfoldable pub told : ℕ → (ℕ → Option ClientOp) → List Act → List Label
told n asks [] = []
told n asks (a ∷ as') = answers n (asks (call_of a)) a ++ told n asks as'

unfoldable pub sends : ℕ → Act → List Mail
sends n (act.Send receiver m) = record { sender = n; receiver = receiver; msg = m } ∷ []
sends n _ = []

-- what a step sends
unfoldable pub sent : ℕ → List Act → List Mail
sent n [] = []
sent n (a ∷ as') = sends n a ++ sent n as'

-- a world, and the labels of the step to it
pub record Stepped : Type 0 where
  pub world : World
  pub labels : List Label

abbrev pub stays : World → Stepped
stays w = record { world = w; labels = [] }

abbrev pub view_of : Moving → View
view_of o = record { state = o.state; next = o.next; floor = o.floor }

-- a node comes to this view, tells this and sends this; who is no member, or has not joined, does nothing
abbrev pub steps : Scene → World → ℕ → Bool → List Label → View → List Mail → Stepped
steps s w n may labels v more = if is_among n s.members && w.joined n && may then record {
  world = record { nodes = λ k. if nat_eq k n then v else w.nodes k; joined = w.joined; mail = w.mail ++ more };
  labels = labels;
} else stays w

-- what a rule makes of a node, where the calls ask this; there is no step in which a number would reach 2^62
abbrev pub put : Scene → World → ℕ → (ℕ → Option ClientOp) → Moving → Stepped
put s w n asks o = steps s w n (not o.spent) (told n asks o.acts) (view_of o) (sent n o.acts)

-- a member that has not joined joins
abbrev pub joins : Scene → World → ℕ → Stepped
joins s w n = if is_among n s.members && not (w.joined n) then record {
  world = record { nodes = w.nodes; joined = λ k. if nat_eq k n then true else w.joined k; mail = w.mail };
  labels = Joined n ∷ [];
} else stays w

-- the view without the lock
abbrev pub unlocked : View → View
unlocked v = record v { state = record v.state { locked = None } }

-- what a node does about an event of the record, where the calls ask this
abbrev pub moves : Scene → World → ℕ → (ℕ → Option ClientOp) → MoveEvent → Stepped
moves s w n asks e =
    let v = w.nodes n in
    put s w n asks (move (place s n v) s.rules e (starts v))

-- what the call that waits at a node asks
abbrev pub waiting_at : World → ℕ → ℕ → Option ClientOp
waiting_at w n = waiting_call (w.nodes n).state.wish

-- a message comes to its receiver
abbrev pub comes : Scene → World → Option Mail → Stepped
comes s w None = stays w
comes s w (Some m) = moves s w m.receiver (waiting_at w m.receiver) (event.Arrive m.sender m.msg)

-- a client under the lock, of a node that has the record locked; from another one nothing comes
abbrev pub under_lock : World → ℕ → Stepped → Stepped
under_lock w n done = if is_some (w.nodes n).state.locked then done else stays w

abbrev pub happens : Scene → World → Event → Stepped
happens s w (Wants n call asked) = if may_want (w.nodes n).state asked then moves s w n (own_call call asked) (event.Want call asked) else stays w
happens s w (Stores n call v) = under_lock w n (moves s w n (own_call call (op.Store s.db s.key v)) (event.Store call v))
happens s w (Unlocks n call) = under_lock w n (moves s w n (own_call call (op.Unlock s.db s.key)) (event.Unlock call))
happens s w (Releases n call) = under_lock w n (put s w n (own_call call (op.Unlock s.db s.key)) (release call (starts (w.nodes n))))
happens s w (Comes which) = comes s w (slice_get w.mail which)
happens s w (Vacuums n) = moves s w n (waiting_at w n) (event.Vacuum (peers s n))
happens s w (Resends n) = moves s w n (waiting_at w n) event.Resend
happens s w (Thaws n) =
    let v = w.nodes n in
    put s w n (waiting_at w n) (want_again s.rules (place s n v) (starts v))
happens s w (Ends n) = steps s w n (is_some (w.nodes n).state.locked) (Ended n ∷ []) (unlocked (w.nodes n)) []
happens s w (Leaves n) = steps s w n true (Left n ∷ []) (unlocked (w.nodes n)) []
happens s w (Joins n) = joins s w n
happens s w (Rises n next floor) =
    let v = w.nodes n in
    put s w n (waiting_at w n) (begins v.state (greater v.next next) (greater v.floor floor))

abbrev pub trace : Scene → World → List Event → List Label
trace s w [] = []
trace s w (e ∷ es) = (happens s w e).labels ++ trace s (happens s w e).world es

abbrev pub last : Scene → World → List Event → World
last s w [] = w
last s w (e ∷ es) = last s (happens s w e).world es

-- the node has this copy
abbrev pub HasCopy : World → ℕ → RecCopy → Type 0
HasCopy w n c = (w.nodes n).state.copy ≡ Some c

-- a node has locked the record exactly where it is the owner; who is data master has the reading, and is the only one;
-- a copy for reading has the reading, and then there is no owner
pub record Stands (w : World) (r : Register) : Type 0 where
  pub locks : (n : ℕ) → (is_some (w.nodes n).state.locked ≡ true) ↔ (r.owner ≡ Some n)
  pub newest : (n : ℕ) (c : RecCopy) → HasCopy w n c → c.header.dmaster ≡ n → c.value ≡ reading r.versions
  pub only : (n k : ℕ) (c d : RecCopy) → HasCopy w n c → c.header.dmaster ≡ n → HasCopy w k d → d.header.dmaster ≡ k → n ≡ k
  pub readers : (n : ℕ) (c : RecCopy) → HasCopy w n c → c.header.flags ≡ for_reading → (c.value ≡ reading r.versions) × (r.owner ≡ None)

-- what a copy stands for: an absent one for a deleted prefix, a present one for a place of its RSN
abbrev pub StandsFor : Register → ℕ → (ℕ → ℕ) → ℕ → Option RecCopy → Type 0
StandsFor r deleted places n None = r.seen n ≤ deleted
StandsFor r deleted places n (Some c) = (c.value ≡ reading (take (places c.header.rsn) r.versions)) × (r.seen n ≤ places c.header.rsn) × (deleted ≤ places c.header.rsn)

-- nothing seen is lost: places never fall as the RSN rises, the deleted prefix has an empty reading, and each copy stands for all that
-- its node has seen
abbrev pub NothingIsLost : World → Register → Type 0
NothingIsLost w r = (deleted : ℕ) × (places : ℕ → ℕ) × (reading (take deleted r.versions) ≡ []) × ((a b : ℕ) → a ≤ b → places a ≤ places b) ×
    ((a : ℕ) → places a ≤ length r.versions) × ((n : ℕ) → StandsFor r deleted places n (w.nodes n).state.copy)

-- where the copies of some nodes are gathered, the one of the greatest RSN is the reading of a prefix that has all that
-- these nodes saw; and without any copy there is such a prefix with an empty reading
abbrev pub Parent : World → Register → Type 0
Parent w r = (who : ℕ → Bool) →
    ((n : ℕ) (c : RecCopy) → HasCopy w n c → ((k : ℕ) (d : RecCopy) → who k ≡ true → HasCopy w k d → d.header.rsn ≤ c.header.rsn) →
    (p : ℕ) × (c.value ≡ reading (take p r.versions)) × ((k : ℕ) → who k ≡ true → r.seen k ≤ p)) ×
    (((k : ℕ) → who k ≡ true → (w.nodes k).state.copy ≡ None) → (p : ℕ) × (reading (take p r.versions) ≡ []) × ((k : ℕ) → who k ≡ true → r.seen k ≤ p))

-- what a schedule leads to, from a world and a register
abbrev pub LeadsTo : Scene → World → Register → List Event → Type 0
LeadsTo s w r events = (t : Register) × AcceptsAll s.rules r (trace s w events) t × Stands (last s w events) t × NothingIsLost (last s w events) t × Parent (last s w events) t

-- nothing is kept but calls that wait, under these next request numbers, and nothing was sent
abbrev pub bare : (ℕ → Bool) → (ℕ → ℕ) → (ℕ → Option Wish) → World
bare joined number wish = record { nodes = λ n. record { state = record nothing_kept { wish = wish n }; next = number n; floor = 0 }; joined = joined; mail = [] }

-- nothing is kept, and nothing was sent
abbrev pub opening : World
opening = bare (λ _. true) (λ _. 1) (λ _. None)

-- each next request number is at least 1, and above the request of the call that waits
pub record AreDrawn (number : ℕ → ℕ) (wish : ℕ → Option Wish) : Type 0 where
  pub some : (n : ℕ) → 1 ≤ number n
  pub above : (n : ℕ) (w : Wish) → wish n ≡ Some w → w.request < number n

-- what a node has of the record in a generation that began with this row for it: each member what the installation makes of
-- the call that waits, and nobody else anything but this call
unfoldable pub born_state : Scene → TableRow → ℕ → Option Wish → RecState
born_state s row n wish = if is_among n s.members then installed_state n s.lmaster row (record nothing_kept { wish = wish }) else record nothing_kept { wish = wish }

abbrev pub born : Scene → TableRow → (ℕ → Bool) → (ℕ → ℕ) → (ℕ → Option Wish) → World
born s row joined number wish = record { nodes = λ n. record { state = born_state s row n (wish n); next = number n; floor = 0 }; joined = joined; mail = [] }

-- no node has seen more than what a member begins with
abbrev pub SeesAtMost : Scene → (ℕ → ℕ) → ℕ → Type 0
SeesAtMost s seen count = (n : ℕ) → seen n ≤ (if is_among n s.members then count else 0)
