-- Small runs that are legal, and what the registers show then.
use Rattle.std.specs.Prelude.{◌≡◌, ℕ, true, false, List, [], ◌∷◌, length, replicate, Option, None, Some}
use Rattle.ct_values.specs.declared.address.Address.{Address}
use Rattle.ct_values.specs.declared.address.Address.TheVariants.{V4}
use Rattle.ct_values.specs.Config.{lock_db}
use Rattle.ct_values.specs.declared.client.Answer.TheVariants as answer
use Rattle.ct_values.specs.declared.client.ClientOp.{ClientOp}
use Rattle.ct_values.specs.declared.client.ClientOp.TheVariants as op
use Rattle.ct_values.specs.declared.client.Pair.{Pair}
use Rattle.ct_values.specs.declared.client.Why.{Why}
use Rattle.ct_values.specs.declared.client.Why.TheVariants as why
use Rattle.ct_values.specs.declared.config.Config.{Config}
use Rattle.ct_values.specs.declared.config.DbKind.TheVariants.{Volatile, Persistent}
use Rattle.ct_frame.specs.declared.event.Note.TheVariants as note
use Rattle.ct_frame.specs.declared.frame.Assigned.{Assigned}
use Rattle.ct_call.specs.Rules.{Rules, Old, Arg, Join}
use Rattle.ct_rules_cluster.specs.Labels.{Label, Answered, Begun, Noted, Ticket, Yielded, Stopped, Pushed, Takeover, Taken}
use Rattle.ct_rules_cluster.specs.Traces.{OpenCall, line_labels}
use Rattle.ct_rules_cluster.specs.declared.step.Line.{Line}
use Rattle.ct_rules_cluster.specs.declared.step.Step.TheVariants as step
use Rattle.ct_register.specs.Register.{Register}
use Rattle.ct_register.specs.Database.{Database, contents_after}
use Rattle.ct_register.specs.Lines.{Lines}
use Rattle.ct_register.specs.Legal.{Legal}

-- ---- the cluster of the runs, and their labels

-- two nodes; the database of locks, the volatile one `t` and the persistent one `p`; two addresses
abbrev pub config : Config
config = record {
  nodes = 2;
  dbs = lock_db ∷ record { name = 116 ∷ []; kind = Volatile } ∷ record { name = 112 ∷ []; kind = Persistent } ∷ [];
  addresses = V4 1 ∷ V4 2 ∷ [];
}

-- function 1 appends its argument to the value, and function 2 answers it twice
abbrev pub functions : Rules
functions = (1, Join Old Arg) ∷ (2, Join Arg Arg) ∷ []

-- a key, and two values
abbrev pub a : List ℕ
a = 97 ∷ []

abbrev pub x : List ℕ
x = 120 ∷ []

abbrev pub y : List ℕ
y = 121 ∷ []

-- both nodes
abbrev pub both : List ℕ
both = 0 ∷ 1 ∷ []

abbrev pub locks : ℕ → List ℕ → Label
locks n v = Answered n (op.Lock 1 a) (answer.Locked v)

abbrev pub reads : ℕ → List ℕ → Label
reads n v = Answered n (op.Read 1 a) (answer.Read v)

abbrev pub writes : ℕ → List ℕ → Label
writes n v = Answered n (op.Write 1 a v) answer.Written

abbrev pub stores : ℕ → List ℕ → Label
stores n v = Answered n (op.Store 1 a v) answer.Stored

abbrev pub unlocks : ℕ → Label
unlocks n = Answered n (op.Unlock 1 a) answer.Unlocked

abbrev pub appends : ℕ → List ℕ → List ℕ → Label
appends n arg v = Answered n (op.Apply 1 a 1 arg) (answer.Applied v)

-- a function whose value would have 1,200 bytes is refused with this length
abbrev pub is_too_long : ℕ → ℕ → Label
is_too_long n length = Answered n (op.Apply 1 a 2 (replicate 600 0)) (answer.Refused (why.TooLong length))

abbrev pub vacuums : ℕ → Label
vacuums n = Noted n (note.Vacuumed 1 a)

-- the lock of the record ends without the client
abbrev pub ends : ℕ → Label
ends n = Noted n (note.Ended 1 a)

-- the lock that a commit needs, and its end, by the client or without it
abbrev pub locks_database : ℕ → Label
locks_database n = Answered n (op.Lock 0 (112 ∷ [])) (answer.Locked [])

abbrev pub unlocks_database : ℕ → Label
unlocks_database n = Answered n (op.Unlock 0 (112 ∷ [])) answer.Unlocked

abbrev pub ends_database : ℕ → Label
ends_database n = Noted n (note.Ended 0 (112 ∷ []))

-- the commit of the runs: x at the key
abbrev pub one_write : List Pair
one_write = record { key = a; value = x } ∷ []

abbrev pub begins : ℕ → Label
begins n = Begun n 2 one_write

abbrev pub commits : ℕ → ℕ → Label
commits n number = Answered n (op.Commit 2 one_write) (answer.Committed number)

abbrev pub is_unsure : ℕ → ℕ → List ℕ → Label
is_unsure n number missing = Answered n (op.Commit 2 one_write) (answer.Unsure number missing)

abbrev pub refuses : ℕ → Why → Label
refuses n reason = Answered n (op.Commit 2 one_write) (answer.Refused reason)

abbrev pub reads_database : ℕ → List ℕ → Label
reads_database n v = Answered n (op.Read 2 a) (answer.Read v)

-- the round of generation 2, which node h leads, from line 1
abbrev pub round : ℕ → List ℕ → Label
round h members = Noted h (note.Round 2 members 1 1)

abbrev pub installs : ℕ → Label
installs n = Noted n (note.Installed 2)

abbrev pub thaws : ℕ → Label
thaws n = Noted n (note.Thawed 2)

-- the first address is assigned to node 0, and the second to none
abbrev pub first_at_zero : List Assigned
first_at_zero = record { address = V4 1; node = Some 0 } ∷ []

-- each node has one
abbrev pub one_each : List Assigned
one_each = record { address = V4 1; node = Some 0 } ∷ record { address = V4 2; node = Some 1 } ∷ []

-- node 1 has both
abbrev pub both_at_one : List Assigned
both_at_one = record { address = V4 1; node = Some 1 } ∷ record { address = V4 2; node = Some 1 } ∷ []

abbrev pub takes : ℕ → Address → Label
takes n address = Noted n (note.Took address)

abbrev pub releases : ℕ → Address → Label
releases n address = Noted n (note.Released address)

-- a call that is open: its number, its node, and what its client asked
abbrev pub asks : ℕ → ℕ → ClientOp → OpenCall
asks call n asked = record { call = call; node = n; asked = asked }

-- what nodes tell that print these lines, while these calls are open at first
abbrev pub printed : List OpenCall → List Line → List Label
printed log lines = line_labels (step.Retry 0) log lines

-- ---- what is said of runs

-- the labels are legal, and may lead to registers of which this holds
abbrev pub Reaches : List Label → (Lines → Type 0) → Type 0
Reaches labels P = (s : Lines) × Legal config functions labels s × P s

-- a record has these versions and this owner, and nodes 0 and 1 have seen so many
abbrev pub Shows : List (List ℕ) → Option ℕ → ℕ → ℕ → Register → Type 0
Shows versions owner zero_saw one_saw r = (r.versions ≡ versions) × (r.owner ≡ owner) × (r.seen 0 ≡ zero_saw) × (r.seen 1 ≡ one_saw)

-- a database has so many commits and acknowledged ones, and nodes 0 and 1 have seen so many
abbrev pub Counts : ℕ → ℕ → ℕ → ℕ → Database → Type 0
Counts all acked zero_saw one_saw d = (length d.commits ≡ all) × (d.acked ≡ acked) × (d.seen 0 ≡ zero_saw) × (d.seen 1 ≡ one_saw)

-- ---- the runs

-- the lock moves with what was stored under it
abbrev pub LockMoves : Type 0
LockMoves = Reaches (locks 0 [] ∷ stores 0 x ∷ unlocks 0 ∷ locks 1 x ∷ []) (λ s. Shows (x ∷ []) (Some 1) 1 1 (s.records 1 1 a))

-- a read sees all versions, and an owner may read
abbrev pub ReadersSee : Type 0
ReadersSee = Reaches (writes 0 x ∷ reads 1 x ∷ writes 0 y ∷ locks 0 y ∷ reads 0 y ∷ []) (λ s. Shows (x ∷ y ∷ []) (Some 0) 2 1 (s.records 1 1 a))

-- a function answers its rule's value, and changes nothing where that is too long
abbrev pub FunctionsAnswer : Type 0
FunctionsAnswer = Reaches (writes 0 x ∷ appends 1 y (120 ∷ 121 ∷ []) ∷ is_too_long 0 1200 ∷ []) (λ s. Shows (x ∷ (120 ∷ 121 ∷ []) ∷ []) None 1 2 (s.records 1 1 a))

-- a vacuum forgets the versions and what was seen of them
abbrev pub VacuumForgets : Type 0
VacuumForgets = Reaches (writes 0 x ∷ reads 1 x ∷ writes 0 [] ∷ vacuums 1 ∷ reads 1 [] ∷ []) (λ s. Shows [] None 0 0 (s.records 1 1 a))

-- a stop ends the lock of the node that stops, and keeps what it stored
abbrev pub StopEndsLocks : Type 0
StopEndsLocks = Reaches (locks 0 [] ∷ stores 0 x ∷ Stopped 0 ∷ locks 1 x ∷ []) (λ s. Shows (x ∷ []) (Some 1) 0 1 (s.records 1 1 a))

-- a node in no line refuses, and nothing changes
abbrev pub RefusalsChangeNothing : Type 0
RefusalsChangeNothing =
    Reaches (Stopped 0 ∷ Answered 0 (op.Lock 1 a) (answer.Refused why.NotServing) ∷ locks 1 [] ∷ []) (λ s. Shows [] (Some 1) 0 0 (s.records 1 1 a))

-- tickets are counted, and a stop frees the recovery lock
abbrev pub TicketsCount : Type 0
TicketsCount =
    Reaches (Ticket 2 0 both ∷ Ticket 3 0 both ∷ Yielded 0 ∷ Ticket 4 1 both ∷ Stopped 1 ∷ Ticket 5 0 both ∷ []) (λ s. (s.last ≡ 5) × (s.holder ≡ Some 0))

-- a round may take over what was written; its members have seen that then
abbrev pub RoundKeeps : Type 0
RoundKeeps = Reaches (writes 0 x ∷ Ticket 2 1 both ∷ round 1 both ∷ installs 0 ∷ installs 1 ∷ thaws 0 ∷ thaws 1 ∷ locks 0 x ∷ []) (λ s.
    Shows (x ∷ []) (Some 0) 1 1 (s.records 2 1 a))

-- a round may take over nothing of a record whose reading is empty
abbrev pub RoundEmpties : Type 0
RoundEmpties = Reaches (writes 0 [] ∷ Ticket 2 1 both ∷ round 1 both ∷ []) (λ s. Shows [] None 0 0 (s.records 2 1 a))

-- what a node wrote that is gone, and nobody else saw, may be lost in a round
abbrev pub RoundMayLose : Type 0
RoundMayLose = Reaches (writes 1 x ∷ Stopped 1 ∷ Ticket 2 0 (0 ∷ []) ∷ round 0 (0 ∷ []) ∷ installs 0 ∷ thaws 0 ∷ reads 0 [] ∷ []) (λ s. Shows [] None 0 0 (s.records 2 1 a))

-- a commit may be read before it is acknowledged, or not yet, and is read after that
abbrev pub CommitIsRead : Type 0
CommitIsRead =
    Reaches (locks_database 0 ∷ begins 0 ∷ reads_database 1 [] ∷ reads_database 0 x ∷ commits 0 1 ∷ reads_database 1 x ∷ []) (λ s. Counts 1 1 1 1 (s.databases 1 2))

-- who keeps the lock is answered, whatever another node has read meanwhile
abbrev pub AnsweredUnderLock : Type 0
AnsweredUnderLock = Reaches (locks_database 0 ∷ begins 0 ∷ reads_database 1 [] ∷ commits 0 1 ∷ reads_database 0 x ∷ []) (λ s. Counts 1 1 1 1 (s.databases 1 2))

-- the lock moves once the commit is answered, and who has it then reads the commit
abbrev pub LockMovesAfterAnswer : Type 0
LockMovesAfterAnswer =
    Reaches (locks_database 0 ∷ begins 0 ∷ commits 0 1 ∷ unlocks_database 0 ∷ locks_database 1 ∷ reads_database 1 x ∷ []) (λ s. Counts 1 1 1 1 (s.databases 1 2))

-- while a commit waits, another is refused for it, and that changes nothing
abbrev pub AnotherIsRefused : Type 0
AnotherIsRefused = Reaches (locks_database 0 ∷ begins 0 ∷ refuses 0 why.CommitPending ∷ reads_database 0 x ∷ []) (λ s. Counts 1 0 1 0 (s.databases 1 2))

-- a commit that is unsure is seen by all members but the missing ones, and is not acknowledged
abbrev pub UnsureIsOpen : Type 0
UnsureIsOpen = Reaches (locks_database 0 ∷ begins 0 ∷ is_unsure 0 1 (1 ∷ []) ∷ ends_database 0 ∷ reads_database 1 [] ∷ []) (λ s. Counts 1 0 1 0 (s.databases 1 2))

-- a round of those who have not seen a commit that is unsure may lose it
abbrev pub UnsureMayBeLost : Type 0
UnsureMayBeLost = Reaches (locks_database 0 ∷ begins 0 ∷ is_unsure 0 1 (1 ∷ []) ∷ ends_database 0 ∷ Stopped 0 ∷ Ticket 2 1 (1 ∷ []) ∷ round 1 (1 ∷ []) ∷ installs 1 ∷ []) (λ s.
    (Counts 0 0 0 0 (s.databases 2 2)) × ((s.databases 2 2).seq ≡ 0) × (contents_after 0 (s.databases 2 2) ≡ []))

-- or keep it: then it is in what the databases begin with, under its number
abbrev pub UnsureMayBeKept : Type 0
UnsureMayBeKept = Reaches (locks_database 0 ∷ begins 0 ∷ is_unsure 0 1 (1 ∷ []) ∷ ends_database 0 ∷ Ticket 2 1 both ∷ round 1 both ∷ installs 1 ∷ []) (λ s.
    (Counts 0 0 0 0 (s.databases 2 2)) × ((s.databases 2 2).seq ≡ 1) × (contents_after 0 (s.databases 2 2) ≡ (a, x) ∷ []))

-- a commit is acknowledged once every member of its line has installed it
abbrev pub AcknowledgedOnceInstalled : Type 0
AcknowledgedOnceInstalled = Reaches (Ticket 2 0 both ∷ round 0 both ∷ installs 0 ∷ installs 1 ∷ locks_database 0 ∷ begins 0 ∷ commits 0 1 ∷ []) (λ s.
    Counts 1 1 1 1 (s.databases 2 2))

-- while one has not, it is missing
abbrev pub UnsureBeforeInstalled : Type 0
UnsureBeforeInstalled = Reaches (Ticket 2 0 both ∷ round 0 both ∷ installs 0 ∷ locks_database 0 ∷ begins 0 ∷ is_unsure 0 1 (1 ∷ []) ∷ []) (λ s.
    Counts 1 0 1 0 (s.databases 2 2))

-- and so is one that left for a line that took over nothing of the commit
abbrev pub UnsureWithoutMember : Type 0
UnsureWithoutMember = Reaches (Ticket 2 1 (1 ∷ []) ∷ round 1 (1 ∷ []) ∷ installs 1 ∷ locks_database 0 ∷ begins 0 ∷ is_unsure 0 1 (1 ∷ []) ∷ []) (λ s.
    (Counts 1 0 1 0 (s.databases 1 2)) × (Counts 0 0 0 0 (s.databases 2 2)))

-- a member that left for a line that took the commit over has it
abbrev pub AcknowledgedAsTakenOver : Type 0
AcknowledgedAsTakenOver = Reaches (Ticket 2 1 (1 ∷ []) ∷ locks_database 0 ∷ begins 0 ∷ round 1 (1 ∷ []) ∷ installs 1 ∷ commits 0 1 ∷ []) (λ s.
    (Counts 1 1 1 1 (s.databases 1 2)) × (Counts 0 0 0 0 (s.databases 2 2)) × (contents_after 0 (s.databases 2 2) ≡ (a, x) ∷ []))

-- a push assigns the first address to node 0; a run places the second one, where it is farthest from the first; and each
-- node takes what is assigned to it
abbrev pub AddressesArePlaced : Type 0
AddressesArePlaced = Reaches (Ticket 2 0 both ∷ round 0 both ∷ Pushed 2 first_at_zero ∷ installs 0 ∷ installs 1 ∷ Takeover 0 both ∷ Taken 0 2 1 one_each ∷ takes 0 (V4 1) ∷ takes 1 (V4 2) ∷ []) (λ s.
    (s.held 0 (V4 1) ≡ true) × (s.held 1 (V4 1) ≡ false) × (s.held 0 (V4 2) ≡ false) × (s.held 1 (V4 2) ≡ true))
