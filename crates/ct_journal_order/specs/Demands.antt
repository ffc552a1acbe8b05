-- What entries wait for before they may stand in the list of all entries, and lists that meet it.
use Rattle.std.specs.Prelude.{◌≡◌, ℕ, ◌+◌, ◌≤◌, ◌<◌, ◌-◌, ◌⊎◌, Bool, true, false, if◌then◌else◌, List, [], ◌∷◌, ◌++◌, length, map, replicate, Option, None, Some, slice_get, slice_set}
use Rattle.ct_frame.specs.declared.event.Event.{Event}
use Rattle.ct_frame.specs.declared.event.Event.TheVariants as event
use Rattle.ct_frame.specs.declared.frame.Frame.{Frame}
use Rattle.ct_rules_node.specs.Node.{is_among}
use Rattle.ct_journal.specs.Order.{Front, entries_of, taken_of}
use Rattle.ct_journal.specs.declared.journal.Journal.{Journal}
use Rattle.ct_journal.specs.declared.journal.JournalEntry.{JournalEntry}
use Rattle.ct_journal_order.specs.Letters.{Despatched, first_from, letters_of, taken_from}
use Rattle.ct_journal_order.specs.declared.demand.Demand.{Demand}
use Rattle.ct_journal_order.specs.declared.demand.Demand.TheVariants.{Free, Entries, Ticket, Never}

-- ---- what an entry waits for

-- the arrival of a message waits for the entry that sends it, where this is the first one of its sender's that had not arrived
abbrev pub WaitsToArrive : Frame → Option Despatched → Demand → Type 0
WaitsToArrive m None d = d ≡ Never
WaitsToArrive m (Some l) d = ((l.frame ≡ m) × (d ≡ Entries m.sender l.count)) ⊎ ((l.frame ≡ m → ⊥) × (d ≡ Never))

-- an entry of node n with this event waits so, where these messages to n had not arrived
abbrev pub Waits : ℕ → Event → List (List Despatched) → Demand → Type 0
Waits n (event.Client call o) all d = d ≡ Free
Waits n (event.Arrive m) all d = WaitsToArrive m (first_from all m.sender) d
Waits n (event.BeginRound ticket members) all d = d ≡ (if is_among n members then Ticket ticket else Never)
Waits n event.Retry all d = d ≡ Never
Waits n (event.Vacuum db) all d = d ≡ Never
Waits n (event.BeginTakeover able) all d = d ≡ Never

-- the messages that had not arrived, once this event has come
abbrev pub letters_after : Event → List (List Despatched) → List (List Despatched)
letters_after (event.Arrive m) all = taken_from all m.sender
letters_after _ all = all

-- these entries of node n wait so, one after the other
abbrev pub AreWaited : ℕ → List JournalEntry → List (List Despatched) → List Demand → Type 0
AreWaited n [] all ds = ds ≡ []
AreWaited n (x ∷ xs) all [] = ⊥
AreWaited n (x ∷ xs) all (d ∷ ds) = Waits n x.event all d × AreWaited n xs (letters_after x.event all) ds

-- the demands of a node, and none where there is no such node
abbrev pub or_free : Option (List Demand) → List Demand
or_free None = []
or_free (Some ds) = ds

abbrev pub demands_at : List (List Demand) → ℕ → List Demand
demands_at all n = or_free (slice_get all n)

-- the entries of all journals wait so
pub record AllWaited (js : List Journal) (all : List (List Demand)) : Type 0 where
  pub count : length all ≡ length js
  pub each : (n : ℕ) → n < length js → AreWaited n (entries_of js n) (map (letters_of n) js) (demands_at all n)

-- ---- fronts that meet demands

-- a front meets a demand
abbrev pub IsMet : Front → Demand → Type 0
IsMet f Free = Unit {0}
IsMet f (Entries node count) = count ≤ taken_of f node
IsMet f (Ticket ticket) = ticket ≡ f.ticket + 1
IsMet f Never = ⊥

-- the last ticket once an entry that waits so stands
abbrev pub ticket_with : Demand → ℕ → ℕ
ticket_with (Ticket ticket) last = ticket
ticket_with _ last = last

-- nothing stands of so many journals
abbrev pub none_stands : ℕ → Front
none_stands nodes = record { taken = replicate nodes 0; ticket = 1 }

-- what the next entry of node n waits for
abbrev pub next_demand : List (List Demand) → Front → ℕ → Option Demand
next_demand all f n = slice_get (demands_at all n) (taken_of f n)

-- the front once an entry of node n that waits so stands
abbrev pub front_with : ℕ → Demand → Front → Front
front_with n d f = record { taken = slice_set f.taken n (taken_of f n + 1); ticket = ticket_with d f.ticket }

-- from one front to another, the demands of entries of these nodes are met, one after the other
unfoldable pub Meets : List (List Demand) → Front → List ℕ → Front → Type 0
Meets all f [] g = f ≡ g
Meets all f (n ∷ ns) g = (d : Demand) × (next_demand all f n ≡ Some d) × (IsMet f d) × (Meets all (front_with n d f) ns g)

-- the same by some list of nodes
pub record Leads (all : List (List Demand)) (f g : Front) : Type 0 where
  pub order : List ℕ
  pub meets : Meets all f order g

-- what the next entry of node n waits for is not met
unfoldable pub IsHeld : List (List Demand) → Front → ℕ → Type 0
IsHeld all f n = (d : Demand) → next_demand all f n ≡ Some d → IsMet f d → ⊥

-- no entry may stand next
abbrev pub AllHeld : List (List Demand) → Front → Type 0
AllHeld all f = (n : ℕ) → IsHeld all f n

-- how many entries do not stand
abbrev pub left : List (List Demand) → List ℕ → ℕ
left [] ts = 0
left (ds ∷ all) [] = 0
left (ds ∷ all) (t ∷ ts) = (length ds - t) + left all ts

-- one node has its next entry put, where that may stand
abbrev pub Advances : List (List Demand) → ℕ → Bool → Front → Front → Type 0
Advances all n true f g = (d : Demand) × (next_demand all f n ≡ Some d) × (IsMet f d) × (g ≡ front_with n d f)
Advances all n false f g = (g ≡ f) × IsHeld all f n

-- each node has its next entry put where that may stand, and is noted behind these; were there any?
pub record Passes (all : List (List Demand)) (some : Bool) (f : Front) (before : List ℕ) (g : Front) (now : List ℕ) : Type 0 where
  pub leads : Leads all f g
  pub noted : now ≡ before ++ leads.order
  pub count : length g.taken ≡ length f.taken
  pub same : some ≡ false → g ≡ f
  pub held : some ≡ false → AllHeld all g
  pub fewer : some ≡ true → left all g.taken < left all f.taken

-- all that may stand is put, and the nodes are noted in this order
pub record Ends (all : List (List Demand)) (g : Front) (order : List ℕ) : Type 0 where
  pub leads : Leads all (none_stands (length all)) g
  pub noted : order ≡ leads.order
  pub count : length g.taken ≡ length all
  pub held : AllHeld all g

-- all entries stand
abbrev pub HasAll : List (List Demand) → Front → Type 0
HasAll all f = (n : ℕ) → taken_of f n ≡ length (demands_at all n)
