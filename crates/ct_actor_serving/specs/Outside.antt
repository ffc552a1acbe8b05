-- What a node that serves takes from its lock and its link, and gives to its link, where they tell it.
use Rattle.std.specs.Prelude.{◌≡◌, ◌≢◌, ℕ, ◌+◌, ◌⊎◌, List, [], ◌∷◌, ◌++◌, Option, None, Some, Result, Ok, Err}
use Rattle.ct_call.specs.Rules.{Rules}
use Rattle.ct_frame.specs.declared.event.Event.{Event}
use Rattle.ct_frame.specs.declared.event.Event.TheVariants as event
use Rattle.ct_frame.specs.declared.frame.Frame.{Frame}
use Rattle.ct_journal.specs.declared.journal.JournalEntry.{JournalEntry}
use Rattle.ct_actor.specs.Journalled.{Journalled, last_outs}
use Rattle.ct_outside.specs.Links.{Parcel, Pieces, parcel}
use Rattle.ct_outside.specs.Locks.{LockState, ticket_limit}
use Rattle.ct_outside.specs.Told.{Told}
use Rattle.ct_outside.specs.declared.link.Received.{Received}
use Rattle.ct_outside.specs.declared.link.Received.TheVariants as answer
use Rattle.ct_wire_link.specs.Parcels.{frames_sent, parcels_of}
use Rattle.ct_wire_link.specs.Sending.{first_long}
use Rattle.ct_actor_serving.specs.Serving.{IsRefused}
use Rattle.ct_actor_serving.specs.declared.fault.AtLimit.TheVariants as limit
use Rattle.ct_actor_serving.specs.declared.fault.ServeFault.{ServeFault}
use Rattle.ct_actor_serving.specs.declared.fault.ServeFault.TheVariants as fault

-- the pieces of a link and the state of a lock, where they tell them
pub record Outside : Type 0 where
  pub pieces : Option Pieces
  pub lock : Option LockState

abbrev pub outside : Option Pieces → Option LockState → Outside
outside pieces lock = record { pieces = pieces; lock = lock }

-- ---- tickets

-- the ticket of a round, before these
unfoldable pub with_ticket : Event → List ℕ → List ℕ
with_ticket (event.BeginRound ticket members) tickets = ticket ∷ tickets
with_ticket _ tickets = tickets

-- the tickets of the rounds in these entries, in order
unfoldable pub tickets_in : List JournalEntry → List ℕ
tickets_in [] = []
tickets_in (x ∷ xs) = with_ticket x.event (tickets_in xs)

-- after the ticket `before` these were given, each the number after the one before it, and `now` is the last of all
abbrev pub TicketsFollow : ℕ → List ℕ → ℕ → Type 0
TicketsFollow before [] now = now ≡ before
TicketsFollow before (ticket ∷ tickets) now = (ticket ≡ before + 1) × TicketsFollow ticket tickets now

-- Serving: the lock gave these tickets, and no other; on a fault it may have given one more
abbrev pub GivesTickets : Option ServeFault → List ℕ → LockState → LockState → Type 0
GivesTickets None tickets old new = TicketsFollow old.last tickets new.last
GivesTickets (Some f) tickets old new = (last : ℕ) × TicketsFollow old.last tickets last × ((new.last ≡ last) ⊎ (new.last ≡ last + 1))

-- Serving: a round gets no ticket where another node holds the lock, and where it has none left
abbrev pub HasNoTicket : Option ServeFault → Journalled → LockState → Type 0
HasNoTicket (Some (fault.Held holder)) x lock = (lock.holder ≡ Some holder) × (holder ≢ x.core.pnn)
HasNoTicket (Some (fault.Exhausted limit.Ticket)) x lock = lock.last + 1 ≡ ticket_limit
HasNoTicket _ x lock = Unit {0}

-- one take of the lock for a node: the next ticket, or none, where the last one stays
abbrev pub TakesTicket : Result ℕ ServeFault → ℕ → LockState → LockState → Type 0
TakesTicket (Ok ticket) node old new = TicketsFollow old.last (ticket ∷ []) new.last
TakesTicket (Err f) node old new = (new.last ≡ old.last) × ((x : Journalled) → x.core.pnn ≡ node → HasNoTicket (Some f) x new)

-- ---- pieces and messages

-- the messages that these entries send, in order
unfoldable pub sent_in : List JournalEntry → List Frame
sent_in [] = []
sent_in (x ∷ xs) = frames_sent x.outs ++ sent_in xs

-- Serving: the pieces of these messages were sent, and none else; on a fault the first ones of them
abbrev pub SendsAll : Option ServeFault → List Frame → Pieces → Pieces → Type 0
SendsAll None frames old new = new.sent ≡ old.sent ++ parcels_of frames
SendsAll (Some f) frames old new = (front : List Parcel) × (left : List Parcel) × (parcels_of frames ≡ front ++ left) × (new.sent ≡ old.sent ++ front)

-- Serving: where a message is too long, it is one that the last of these entries sends
abbrev pub SendsLong : Option ServeFault → List JournalEntry → Type 0
SendsLong (Some (fault.TooLong size)) entries = first_long (frames_sent (last_outs entries)) ≡ Some size
SendsLong _ entries = Unit {0}

-- Serving: these pieces were taken, the first ones of those that waited
abbrev pub TakesFirst : List Parcel → Pieces → Pieces → Type 0
TakesFirst taken old new = old.waiting ≡ taken ++ new.waiting

-- nothing was taken, and of these messages that was sent
abbrev pub SendsOnly : Option ServeFault → List Frame → Pieces → Pieces → Type 0
SendsOnly fault frames old new = (new.waiting ≡ old.waiting) × SendsAll fault frames old new

-- these pieces were taken, and nothing was sent
abbrev pub TakesOnly : List Parcel → Pieces → Pieces → Type 0
TakesOnly taken old new = TakesFirst taken old new × (new.sent ≡ old.sent)

-- the piece that a look gives
abbrev pub taken_in : Result Received ServeFault → List Parcel
taken_in (Ok (answer.Piece sender bytes)) = parcel sender bytes.items ∷ []
taken_in (Ok answer.Nothing) = []
taken_in (Ok answer.Closed) = []
taken_in (Err f) = []

-- the message that arrives, before these
unfoldable pub with_arrival : Event → List Frame → List Frame
with_arrival (event.Arrive f) frames = f ∷ frames
with_arrival _ frames = frames

-- the messages that arrive in these entries, in order
unfoldable pub arrivals_in : List JournalEntry → List Frame
arrivals_in [] = []
arrivals_in (x ∷ xs) = with_arrival x.event (arrivals_in xs)

-- the pieces that were taken, the messages that arrived, and the one that came next and was refused, if one was
pub record Heard : Type 0 where
  pub taken : List Parcel
  pub arrived : List Frame
  pub late : List Frame

abbrev pub heard : List Parcel → List Frame → Heard
heard taken arrived = record { taken = taken; arrived = arrived; late = [] }

abbrev pub heard_but : List Parcel → List Frame → List Frame → Heard
heard_but taken arrived late = record { taken = taken; arrived = arrived; late = late }

abbrev pub heard_then : Heard → Heard → Heard
heard_then h k = record { taken = h.taken ++ k.taken; arrived = h.arrived ++ k.arrived; late = k.late }

-- Serving: where the arrival of a message is refused, this is the message, of that sender, and the rules refuse it
abbrev pub IsRefusedMessage : Rules → Option ServeFault → List Frame → Journalled → Type 0
IsRefusedMessage rules (Some (fault.Exhausted (limit.Message sender))) late x = (f : Frame) × (late ≡ f ∷ []) × (f.sender ≡ sender) × IsRefused rules (event.Arrive f) x
IsRefusedMessage rules _ late x = Unit {0}

-- ---- a node

-- Serving: what a node heard and did from x to y. It has these new entries. Where the lock tells, it gave the tickets of their
-- rounds, and what it refused stands there. Where the link tells its pieces, those that were taken were the first that waited,
-- and those of the messages that the new entries send were sent. A message that is too long is one of the last new entry; one
-- whose arrival is refused is refused by the rules.
pub record ServesOn (rules : Rules) (fault : Option ServeFault) (h : Heard) (x y : Journalled) (old new : Outside) : Type 0 where
  pub since : List JournalEntry
  pub all : y.entries ≡ x.entries ++ since
  pub arrivals : arrivals_in since ≡ h.arrived
  pub tickets : Told old.lock new.lock (GivesTickets fault (tickets_in since))
  pub refused : Told old.lock new.lock (λ s t. HasNoTicket fault y t)
  pub long : SendsLong fault since
  pub message : IsRefusedMessage rules fault h.late y
  pub taken : Told old.pieces new.pieces (TakesFirst h.taken)
  pub sent : Told old.pieces new.pieces (SendsAll fault (sent_in since))

-- one entry more, whose messages are still to be sent: its ticket, if it is a round, was given
pub record NotesOne (arrived : List Frame) (x y : Journalled) (old new : Option LockState) : Type 0 where
  pub entry : JournalEntry
  pub all : y.entries ≡ x.entries ++ entry ∷ []
  pub arrivals : arrivals_in (entry ∷ []) ≡ arrived
  pub tickets : Told old new (GivesTickets None (tickets_in (entry ∷ [])))

-- these messages arrive one after the other, on a fault the first ones of them, with the one that was refused behind them
abbrev pub ArriveUpTo : Option ServeFault → List Frame → List Frame → List Frame → Type 0
ArriveUpTo None frames arrived late = (arrived ≡ frames) × (late ≡ [])
ArriveUpTo (Some f) frames arrived late = (left : List Frame) × (frames ≡ (arrived ++ late) ++ left)

-- Serving: of these messages, on a fault the first ones arrive, and all else is as told
abbrev pub ServesFrames : Rules → Option ServeFault → List Frame → Journalled → Journalled → Option Pieces → Option Pieces → Type 0
ServesFrames rules fault frames x y old new =
    (arrived : List Frame) × (late : List Frame) × ArriveUpTo fault frames arrived late × ((lock : Option LockState) → ServesOn rules fault (heard_but [] arrived late) x y (outside old lock) (outside new lock))
