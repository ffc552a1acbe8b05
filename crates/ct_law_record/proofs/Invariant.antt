-- What holds of every world, said node by node, over a ghost that all nodes are compared with.
use Rattle.std.proofs.Common.{length, ◌≡◌, ◌≢◌, ◌⊎◌, ℕ, ◌+◌, ◌<◌, ◌≤◌, Bool, true, false, ◌||◌, Option, Some, None, List, [], ◌∷◌, ◌++◌, take}
use Rattle.ct_call.specs.Rules.{Rules}
use Rattle.ct_tracking.specs.Tracked.{Revocation}
use Rattle.ct_tracking.specs.Vacuum.{Vacuuming}
use Rattle.ct_rules.specs.declared.state.Entry.{Entry}
use Rattle.ct_rules.specs.declared.state.RecallNote.{RecallNote}
use Rattle.ct_rules.specs.declared.state.Waiter.{Waiter}
use Rattle.ct_law_record.specs.Handed.{Register, reading}
use Rattle.ct_law_record.specs.Labels.{AcceptsAll}
use Rattle.ct_law_record.specs.Marked.{is_removed}
use Rattle.ct_law_record.proofs.Rule.{is_odd, Body, Call, Copy, Done, Frame, Give, Given, Grant, Node, Out, Pass, Recalls, Refuse, Revoke, RevokeAck, VDelete, VDeleted, VStore, VStored, Wish, has_node, is_here, is_reading, is_storing, rank, reads_op, value_of}

-- the frame was sent
unfoldable pub Sent : Frame → List Frame → Type 0
Sent f [] = ⊥
Sent f (g ∷ gs) = (g ≡ f) ⊎ Sent f gs

-- the request waits
unfoldable pub Asked : Waiter → List Waiter → Type 0
Asked a [] = ⊥
Asked a (b ∷ bs) = (b ≡ a) ⊎ Asked a bs

-- the recall waits
unfoldable pub Waits : RecallNote → List RecallNote → Type 0
Waits r [] = ⊥
Waits r (s ∷ ss) = (s ≡ r) ⊎ Waits r ss

-- who may have a copy for reading: those that a revocation misses, else those that are tracked
unfoldable pub readers_of : List ℕ → Option Revocation → List ℕ
readers_of tracked None = tracked
readers_of tracked (Some v) = v.missing

unfoldable pub is_revoking : Option Revocation → Bool
is_revoking None = false
is_revoking (Some v) = true

-- the master's entry, queue and vacuum, all frames, the register; of the holder the readers, whether it revokes, and a
-- bound of all ranks; how many versions a copy of each rank stands for, an absent one having rank 0; and the marks: each rank
-- above `base` up to the top has one, with the place `mark`, which is that of copies from the rank `joint` on
pub record Ghost : Type 0 where
  pub entry : Entry
  pub queue : List Waiter
  pub frames : List Frame
  pub register : Register
  pub readers : List ℕ
  pub revoking : Bool
  pub top : ℕ
  pub place : ℕ → ℕ
  pub vacuum : Option Vacuuming
  pub base : ℕ
  pub joint : ℕ
  pub mark : ℕ → ℕ

-- the ranks that have marks, and their places; and the entry
pub record Span : Type 0 where
  pub base : ℕ
  pub top : ℕ
  pub mark : ℕ → ℕ
  pub entry : Entry

abbrev pub span_of : Ghost → Span
span_of g = record { base = g.base; top = g.top; mark = g.mark; entry = g.entry }

-- the span goes on: ranks below its top keep their marks, that of the top may rise, and more may follow; the entry stays, or
-- moves on to a least rank above all that had marks
pub record Grows (a c : Span) : Type 0 where
  pub base : c.base ≡ a.base
  pub top : a.top ≤ c.top
  pub same : (x : ℕ) → x < a.top → c.mark x ≡ a.mark x
  pub raised : a.mark a.top ≤ c.mark a.top
  pub moved : (c.entry ≡ a.entry) ⊎ (a.top ≤ c.entry.least)

-- or nothing is left of it
pub record Empties (a c : Span) : Type 0 where
  pub none : c.top ≤ c.base
  pub top : a.top ≤ c.top

unfoldable pub Goes : (is_removed : Bool) → Span → Span → Type 0
Goes true a c = Empties a c
Goes false a c = Grows a c

-- what a step begins with
pub record Start : Type 0 where
  pub register : Register
  pub span : Span

pub record PassAt (e : Entry) (n next : ℕ) (wish : Option Wish) (q rsn : ℕ) (value : List ℕ) : Type 0 where
  pub low : q < next
  pub asked : q ≢ 0
  pub below : rsn + 1 ≤ e.least
  pub current : (w : Wish) → wish ≡ Some w → w.request ≡ q → reads_op w.op ≡ false → (e.holder ≡ n) × (e.least ≡ rsn + 1) × (e.request ≡ q) × (e.value ≡ value)

-- it is old, or the record is returning
pub record GiveAt (e : Entry) (top n : ℕ) (copy : Option Copy) (rsn : ℕ) (value : List ℕ) : Type 0 where
  pub below : rsn + 1 ≤ top
  pub held : n ≡ e.holder → e.least ≤ rsn → copy ≡ Some (record { rsn = rsn; kind = Given; value = value })

pub record RefuseAt (e : Entry) (n next : ℕ) (wish : Option Wish) (rank : ℕ) (q rsn : ℕ) : Type 0 where
  pub low : q < next
  pub asked : q ≢ 0
  pub below : rsn + 1 ≤ e.least
  pub gone : (w : Wish) → wish ≡ Some w → reads_op w.op ≡ false → w.request ≢ q
  pub stale : e.holder ≡ n → e.least ≡ rsn + 1 → e.request ≡ q → rank ≤ e.least

pub record GrantAt (from top : ℕ) (readers : List ℕ) (newest : List ℕ) (n next : ℕ) (wish : Option Wish) (q rsn : ℕ) (value : List ℕ) : Type 0 where
  pub low : q < next
  pub apart : from ≢ n
  pub below : rsn + 1 ≤ top
  pub current : (w : Wish) → wish ≡ Some w → w.request ≡ q → reads_op w.op ≡ true → (has_node n readers ≡ true) × (value ≡ newest) × (rsn + 1 ≡ top)

-- no grant that was sent to the node meets its wish
unfoldable pub Ungranted : List Frame → ℕ → Option Wish → Type 0
Ungranted frames n wish = (f : Frame) → Sent f frames → f.to ≡ n → (q rsn : ℕ) (value : List ℕ) → f.body ≡ Grant q rsn value → (w : Wish) → wish ≡ Some w → reads_op w.op ≡ true → w.request ≢ q

pub record RevokeAt (top : ℕ) (revoking : Bool) (rsn : ℕ) : Type 0 where
  pub below : rsn + 1 ≤ top
  pub running : rsn + 1 ≡ top → revoking ≡ true

pub record AckAt (top : ℕ) (revoking : Bool) (frames : List Frame) (n : ℕ) (copy : Option Copy) (wish : Option Wish) (rsn : ℕ) : Type 0 where
  pub below : rsn + 1 ≤ top
  pub running : rsn + 1 ≡ top → revoking ≡ true
  pub none : rsn + 1 ≡ top → is_reading copy ≡ false
  pub ungranted : rsn + 1 ≡ top → Ungranted frames n wish

-- the copy is absent, or of at least this rank
unfoldable pub Past : ℕ → Option Copy → Type 0
Past low copy = 1 ≤ rank copy → low ≤ rank copy

-- what a copy of this rank stands for has an empty reading
unfoldable pub Emptied : (ℕ → ℕ) → List (List ℕ) → ℕ → Type 0
Emptied place versions a = reading (take (place a) versions) ≡ []

-- and it is no more than what absent copies stand for
unfoldable pub Joined : (ℕ → ℕ) → ℕ → Type 0
Joined place a = place a ≤ place 0

pub record VStoreAt (from to top : ℕ) (place : ℕ → ℕ) (versions : List (List ℕ)) (rsn : ℕ) : Type 0 where
  pub apart : from ≢ to
  pub below : rsn + 2 ≤ top
  pub empty : Emptied place versions (rsn + 1)

pub record VStoredAt (top : ℕ) (copy : Option Copy) (rsn : ℕ) : Type 0 where
  pub below : rsn + 2 ≤ top
  pub past : Past (rsn + 1) copy

pub record VDeleteAt (top : ℕ) (place : ℕ → ℕ) (rsn : ℕ) : Type 0 where
  pub below : rsn + 2 ≤ top
  pub joined : Joined place (rsn + 1)

pub record VDeletedAt (top : ℕ) (copy : Option Copy) (rsn : ℕ) : Type 0 where
  pub below : rsn + 2 ≤ top
  pub past : Past (rsn + 2) copy

-- what a sent frame says of a node
unfoldable pub Says : Ghost → ℕ → Option Copy → ℕ → Option Wish → ℕ → ℕ → Body → Type 0
Says g n copy next wish from to (Call q asks) = from ≡ n → (q < next) × (q ≢ 0)
Says g n copy next wish from to (Recalls r) = r.node ≡ n → (r.request < next) × (r.request ≢ 0)
Says g n copy next wish from to (Give rsn value) = from ≡ n → GiveAt g.entry g.top n copy rsn value
Says g n copy next wish from to (Pass q rsn value) = to ≡ n → PassAt g.entry n next wish q rsn value
Says g n copy next wish from to (Refuse q rsn) = from ≡ n → RefuseAt g.entry n next wish (rank copy) q rsn
Says g n copy next wish from to (Grant q rsn value) = to ≡ n → GrantAt from g.top g.readers (reading g.register.versions) n next wish q rsn value
Says g n copy next wish from to (Done node q) = Unit {0}
Says g n copy next wish from to (Revoke rsn) = RevokeAt g.top g.revoking rsn
Says g n copy next wish from to (RevokeAck rsn) = from ≡ n → AckAt g.top g.revoking g.frames n copy wish rsn
Says g n copy next wish from to (VStore rsn) = VStoreAt from to g.top g.place g.register.versions rsn
Says g n copy next wish from to (VStored rsn) = from ≡ n → VStoredAt g.top copy rsn
Says g n copy next wish from to (VDelete rsn) = VDeleteAt g.top g.place rsn
Says g n copy next wish from to (VDeleted rsn) = from ≡ n → VDeletedAt g.top copy rsn

abbrev pub BodyAt : Ghost → ℕ → Node → ℕ → ℕ → Body → Type 0
BodyAt g n node from to b = Says g n node.copy node.next node.wish from to b

-- a recall like this was sent
unfoldable pub Recalled : RecallNote → List Frame → Type 0
Recalled r frames = (f : Frame) × Sent f frames × (f.body ≡ Recalls r)

-- what the vacuum that runs knows of a node
pub record VacuumAt (v : Vacuuming) (n : ℕ) (copy : Option Copy) : Type 0 where
  pub storing : is_storing v.phase ≡ true → has_node n v.missing ≡ false → Past (v.rsn + 1) copy
  pub deleted : is_storing v.phase ≡ false → has_node n v.missing ≡ false → Past (v.rsn + 2) copy

-- what holds of one node
pub record Facts (g : Ghost) (n : ℕ) (copy : Option Copy) (now : Option Wish) (number : ℕ) (lock : Bool) (recalls_now : List RecallNote) (tracked : List ℕ) (revoking : Option Revocation) (fresh : Bool) : Type 0 where
  pub under : rank copy ≤ g.top
  pub even : is_odd copy ≡ false
  pub here : is_here copy ≡ true → (n ≡ g.entry.holder) × (g.entry.least < rank copy)
  pub holds : n ≡ g.entry.holder → g.entry.least < rank copy → (rank copy ≡ g.top) × (value_of copy ≡ reading g.register.versions)
  pub passing : n ≡ g.entry.holder → rank copy ≤ g.entry.least → (g.top ≤ g.entry.least) × (g.entry.value ≡ reading g.register.versions)
  pub locked : lock ≡ true → (is_here copy ≡ true) × (g.register.owner ≡ Some n) × (tracked ≡ []) × (revoking ≡ None) × (g.vacuum ≡ None)
  pub owner : g.register.owner ≡ Some n → lock ≡ true
  pub unwished : lock ≡ true → now ≡ None
  pub wish : (w : Wish) → now ≡ Some w → w.request < number
  pub own : (w : Wish) → now ≡ Some w → n ≡ g.entry.holder → w.request ≢ 0 → w.request ≡ g.entry.request → reads_op w.op ≡ false → rank copy ≤ g.entry.least
  pub request : n ≡ g.entry.holder → g.entry.request ≢ 0 → (1 ≤ g.entry.least) × (g.entry.request < number)
  pub next : 1 ≤ number
  pub reader : is_reading copy ≡ true → (has_node n g.readers ≡ true) × (value_of copy ≡ reading g.register.versions) × (rank copy ≡ g.top)
  pub mirror : is_here copy ≡ true → (g.readers ≡ readers_of tracked revoking) × (g.revoking ≡ is_revoking revoking)
  pub nobody : n ≡ g.entry.holder → is_here copy ≡ false → (g.readers ≡ []) × (g.revoking ≡ false) × (g.vacuum ≡ None)
  pub runs : (v : Revocation) → revoking ≡ Some v → (is_here copy ≡ true) × (v.rsn + 1 ≡ rank copy) × (g.vacuum ≡ None)
  -- who is no holder tracks nobody, and who tracks nobody revokes nothing
  pub away : is_here copy ≡ false → tracked ≡ []
  pub quiet : tracked ≡ [] → revoking ≡ None
  -- a copy of the greatest rank elsewhere is at a node that the holder tracks
  pub other : n ≢ g.entry.holder → g.entry.least < g.top → rank copy ≡ g.top → (has_node n g.readers || g.revoking) ≡ true
  -- the copy stands for its place; an absent one too
  pub value : value_of copy ≡ reading (take (g.place (rank copy)) g.register.versions)
  pub seen : g.register.seen n ≤ g.place (rank copy)
  -- a node that has not joined has done nothing yet: its copy stands for all that the generation began with
  pub unjoined : fresh ≡ true → (length g.register.birth ≤ g.place (rank copy)) × (1 ≤ length g.register.birth → 1 ≤ rank copy)
  pub vacuum : (v : Vacuuming) → g.vacuum ≡ Some v → VacuumAt v n copy
  pub asked : (a : Waiter) → Asked a g.queue → a.node ≡ n → (a.request < number) × (a.request ≢ 0)
  pub waits : (r : RecallNote) → Waits r recalls_now → Recalled r g.frames
  pub frames : (f : Frame) → Sent f g.frames → Says g n copy number now f.from f.to f.body
  pub marked : Past g.joint copy

abbrev pub NodeInv : Ghost → ℕ → Node → Type 0
NodeInv g n node = Facts g n node.copy node.wish node.next node.locked node.recalls node.tracked node.revoking node.fresh

-- the entry that OPEN makes
abbrev pub default_entry : ℕ → ℕ → Entry
default_entry m floor = record { holder = m; least = floor; request = 0; value = [] }

-- the master's own part of the ghost; with an entry there are marks; without one the next OPEN is on its way, and there are none
pub record MasterFacts (m : ℕ) (e : Entry) (all_asks : List Waiter) (running : Option Vacuuming) (base top : ℕ) (entry_now : Option Entry) (asks : List Waiter) (copy : Option Copy) (vacuum_now : Option Vacuuming) (floor : ℕ) : Type 0 where
  pub entry : ((entry_now ≡ Some e) × (base < top)) ⊎ ((entry_now ≡ None) × (e ≡ default_entry m floor) × (copy ≡ None) × (top ≤ base))
  pub queue : asks ≡ all_asks
  pub vacuum : vacuum_now ≡ running

abbrev pub MasterInv : ℕ → Ghost → Node → Type 0
MasterInv m g node = MasterFacts m g.entry g.queue g.vacuum g.base g.top node.entry node.queue node.copy node.vacuum node.floor

-- what holds while a vacuum runs
pub record Emptying (ps : List ℕ) (m holder top : ℕ) (versions : List (List ℕ)) (place : ℕ → ℕ) (readers : List ℕ) (revoking : Bool) (v : Vacuuming) : Type 0 where
  pub at : holder ≡ m
  pub others : v.others ≡ ps
  pub peers : has_node m ps ≡ false
  pub home : has_node m v.missing ≡ false
  pub above : top ≡ v.rsn + 2
  pub empty : reading versions ≡ []
  pub past : Emptied place versions (v.rsn + 1)
  pub joined : is_storing v.phase ≡ false → Joined place (v.rsn + 1)
  pub nobody : readers ≡ []
  pub idle : revoking ≡ false

-- of the marks: they rise with the rank, and from the top on they are the whole list; and of the entry: its value is that of its least's place
pub record Marking (base joint top least : ℕ) (mark place : ℕ → ℕ) (versions : List (List ℕ)) (value : List ℕ) : Type 0 where
  pub rises : (a b : ℕ) → a ≤ b → mark a ≤ mark b
  pub whole : (a : ℕ) → top ≤ a → mark a ≡ length versions
  pub agrees : (a : ℕ) → joint ≤ a → place a ≡ mark a
  pub low : base < joint
  pub near : joint ≤ top + 1
  pub fits : base < top → joint ≤ top
  pub under : base ≤ top
  pub first : base ≤ least
  pub entry : value ≡ reading (take (mark least) versions)
  pub none : top ≤ base → length versions ≡ 0

-- of the places: they rise with the rank, from the top on they are the whole list, and absent copies stand for an empty reading
pub record Global (ps : List ℕ) (m holder least joint : ℕ) (span : Span) (versions : List (List ℕ)) (value : List ℕ) (place : ℕ → ℕ) (readers : List ℕ) (revoking : Bool) (running : Option Vacuuming) : Type 0 where
  pub rises : (a b : ℕ) → a ≤ b → place a ≤ place b
  pub whole : (a : ℕ) → span.top ≤ a → place a ≡ length versions
  pub within : (a : ℕ) → place a ≤ length versions
  pub absent : Emptied place versions 0
  pub vacuum : (v : Vacuuming) → running ≡ Some v → Emptying ps m holder span.top versions place readers revoking v
  pub marks : Marking span.base joint span.top least span.mark place versions value

abbrev pub GlobalInv : List ℕ → ℕ → Ghost → Type 0
GlobalInv ps m g = Global ps m g.entry.holder g.entry.least g.joint (span_of g) g.register.versions g.entry.value g.place g.readers g.revoking g.vacuum

-- a node is in the middle of a step, the others as they were
pub record Good (ps : List ℕ) (m me : ℕ) (nodes : ℕ → Node) (g : Ghost) (node : Node) : Type 0 where
  pub all : GlobalInv ps m g
  pub joined : node.fresh ≡ false
  pub mine : NodeInv g me node
  pub others : (n : ℕ) → n ≢ me → NodeInv g n (nodes n)
  pub master : me ≡ m → MasterInv m g node
  pub master_other : me ≢ m → MasterInv m g (nodes m)

-- the state in the middle of a step: what was sent and told so far leads to the ghost
pub record Holds (rules : Rules) (ps : List ℕ) (m me : ℕ) (nodes : ℕ → Node) (frames : List Frame) (r : Start) (g : Ghost) (o : Out) : Type 0 where
  pub sent : g.frames ≡ frames ++ o.frames
  pub told : AcceptsAll rules r.register o.labels g.register
  pub went : Goes (is_removed o.labels) r.span (span_of g)
  pub good : Good ps m me nodes g o.node

abbrev pub Kept : Rules → List ℕ → ℕ → ℕ → (ℕ → Node) → List Frame → Start → Out → Type 0
Kept rules ps m me nodes frames r o = (g : Ghost) × Holds rules ps m me nodes frames r g o
