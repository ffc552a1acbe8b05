-- Small runs that are not legal.
use Rattle.std.specs.Prelude.{List, [], ◌∷◌}
use Rattle.ct_values.specs.declared.address.Address.TheVariants.{V4}
use Rattle.ct_frame.specs.declared.event.Note.TheVariants as note
use Rattle.ct_values.specs.declared.client.Answer.TheVariants as answer
use Rattle.ct_values.specs.declared.client.ClientOp.TheVariants as op
use Rattle.ct_values.specs.declared.client.Why.TheVariants as why
use Rattle.ct_rules_cluster.specs.Labels.{Label, Noted, Ticket, Yielded, Stopped, Pushed, Takeover, Taken}
use Rattle.ct_rules_cluster.specs.declared.step.Line.TheVariants as line
use Rattle.ct_register.specs.Lines.{Lines}
use Rattle.ct_register.specs.Legal.{Legal}
use Rattle.ct_register_worked.specs.Runs.{config, functions, a, x, y, both, locks, reads, writes, stores, unlocks, appends, is_too_long, vacuums, ends, asks, printed, locks_database, unlocks_database, begins, commits, is_unsure, refuses, reads_database, round, installs, thaws, first_at_zero, one_each, both_at_one, takes}

-- whatever is taken over and seen, the registers do not accept these labels
abbrev pub IsIllegal : List Label → Type 0
IsIllegal labels = (s : Lines) → ¬ (Legal config functions labels s)

-- ---- records

abbrev pub SecondLock : Type 0
SecondLock = IsIllegal (locks 0 [] ∷ locks 1 [] ∷ [])

abbrev pub OldRead : Type 0
OldRead = IsIllegal (writes 0 x ∷ reads 1 [] ∷ [])

abbrev pub ReadUnderLock : Type 0
ReadUnderLock = IsIllegal (locks 0 [] ∷ reads 1 [] ∷ [])

abbrev pub WriteUnderLock : Type 0
WriteUnderLock = IsIllegal (locks 0 [] ∷ writes 1 x ∷ [])

abbrev pub StoreOfNoOwner : Type 0
StoreOfNoOwner = IsIllegal (locks 0 [] ∷ stores 1 x ∷ [])

abbrev pub UnlockOfNoOwner : Type 0
UnlockOfNoOwner = IsIllegal (locks 0 [] ∷ unlocks 0 ∷ unlocks 0 ∷ [])

-- a function's answer that is not its rule's value
abbrev pub WrongAnswer : Type 0
WrongAnswer = IsIllegal (writes 0 x ∷ appends 1 y y ∷ [])

abbrev pub VacuumOfValue : Type 0
VacuumOfValue = IsIllegal (writes 0 x ∷ vacuums 1 ∷ [])

abbrev pub ReadAfterStop : Type 0
ReadAfterStop = IsIllegal (Stopped 0 ∷ reads 0 [] ∷ [])

abbrev pub VacuumedUnderLock : Type 0
VacuumedUnderLock = IsIllegal (locks 0 [] ∷ vacuums 1 ∷ [])

-- the end of a lock that is not held
abbrev pub EndedUnlocked : Type 0
EndedUnlocked = IsIllegal (locks 0 [] ∷ unlocks 0 ∷ ends 0 ∷ [])

-- a function's value is refused as too long, with a wrong length
abbrev pub WrongLength : Type 0
WrongLength = IsIllegal (is_too_long 0 1199 ∷ [])

abbrev pub TooLongUnderLock : Type 0
TooLongUnderLock = IsIllegal (locks 0 [] ∷ is_too_long 1 1200 ∷ [])

-- ---- calls

-- a write that waited is answered, but its node kept the empty value of it, and that is read next
abbrev pub WriteKeptEmpty : Type 0
WriteKeptEmpty = IsIllegal (printed (asks 1 1 (op.Write 1 a x) ∷ asks 2 0 (op.Read 1 a) ∷ []) (line.Answered 1 answer.Written ∷ line.Answered 2 (answer.Read []) ∷ []))

-- an unlock answers the lock call once more, with what was stored meanwhile
abbrev pub LockAnsweredAgain : Type 0
LockAnsweredAgain = IsIllegal (printed (asks 1 0 (op.Lock 1 a) ∷ asks 2 0 (op.Store 1 a x) ∷ asks 3 0 (op.Unlock 1 a) ∷ [])
    (line.Answered 1 (answer.Locked []) ∷ line.Answered 2 answer.Stored ∷ line.Answered 3 answer.Unlocked ∷ line.Answered 1 (answer.Locked x) ∷ []))

-- a refusal is an answer, too, and none comes after it
abbrev pub AnsweredAfterRefusal : Type 0
AnsweredAfterRefusal = IsIllegal (printed (asks 1 0 (op.Lock 1 a) ∷ []) (line.Answered 1 (answer.Refused why.NotServing) ∷ line.Answered 1 (answer.Locked []) ∷ []))

-- a call that ended with its node is answered
abbrev pub AnsweredAfterStop : Type 0
AnsweredAfterStop = IsIllegal (printed (asks 1 0 (op.Lock 1 a) ∷ []) (line.Stopped 0 ∷ line.Gone 1 ∷ line.Answered 1 (answer.Refused why.NotServing) ∷ []))

-- ---- persistent databases

abbrev pub CommitUnlocked : Type 0
CommitUnlocked = IsIllegal (begins 0 ∷ [])

abbrev pub CommitBesideAnother : Type 0
CommitBesideAnother = IsIllegal (locks_database 0 ∷ begins 0 ∷ begins 0 ∷ [])

abbrev pub WrongNumber : Type 0
WrongNumber = IsIllegal (locks_database 0 ∷ begins 0 ∷ commits 0 2 ∷ [])

abbrev pub AcknowledgedTwice : Type 0
AcknowledgedTwice = IsIllegal (locks_database 0 ∷ begins 0 ∷ commits 0 1 ∷ commits 0 1 ∷ [])

abbrev pub CommitOfAnother : Type 0
CommitOfAnother = IsIllegal (locks_database 0 ∷ begins 0 ∷ commits 1 1 ∷ [])

abbrev pub UnsureOfNobody : Type 0
UnsureOfNobody = IsIllegal (locks_database 0 ∷ begins 0 ∷ is_unsure 0 1 [] ∷ [])

-- the node of the commit is missing itself
abbrev pub UnsureOfOwn : Type 0
UnsureOfOwn = IsIllegal (locks_database 0 ∷ begins 0 ∷ is_unsure 0 1 (0 ∷ []) ∷ [])

abbrev pub UnsureOfNoMember : Type 0
UnsureOfNoMember = IsIllegal (locks_database 0 ∷ begins 0 ∷ is_unsure 0 1 (99 ∷ []) ∷ [])

abbrev pub UnsureTwice : Type 0
UnsureTwice = IsIllegal (locks_database 0 ∷ begins 0 ∷ is_unsure 0 1 (1 ∷ 1 ∷ []) ∷ [])

-- a commit that was answered is answered once more
abbrev pub UnsureAnew : Type 0
UnsureAnew = IsIllegal (locks_database 0 ∷ begins 0 ∷ is_unsure 0 1 (1 ∷ []) ∷ is_unsure 0 1 (1 ∷ []) ∷ [])

-- a commit that began is refused, and is read then
abbrev pub RefusedAfterBegin : Type 0
RefusedAfterBegin = IsIllegal (locks_database 0 ∷ begins 0 ∷ refuses 0 why.NotServing ∷ reads_database 0 x ∷ [])

-- node 1, a member of line 1, left it for a line that took over nothing of the commit
abbrev pub AcknowledgedWithoutMember : Type 0
AcknowledgedWithoutMember = IsIllegal (Ticket 2 1 (1 ∷ []) ∷ round 1 (1 ∷ []) ∷ installs 1 ∷ locks_database 0 ∷ begins 0 ∷ commits 0 1 ∷ [])

-- node 1, a member of line 2, has not installed it
abbrev pub AcknowledgedBeforeInstalled : Type 0
AcknowledgedBeforeInstalled = IsIllegal (Ticket 2 0 both ∷ round 0 both ∷ installs 0 ∷ locks_database 0 ∷ begins 0 ∷ commits 0 1 ∷ [])

-- the lock was given up under the commit, and another node has it
abbrev pub AnsweredWithoutLock : Type 0
AnsweredWithoutLock = IsIllegal (locks_database 0 ∷ begins 0 ∷ unlocks_database 0 ∷ locks_database 1 ∷ commits 0 1 ∷ [])

-- the same, and that node reads the old pair meanwhile, and the other one the new pair after its answer
abbrev pub AnsweredAfterOldRead : Type 0
AnsweredAfterOldRead =
    IsIllegal (locks_database 0 ∷ begins 0 ∷ unlocks_database 0 ∷ locks_database 1 ∷ reads_database 1 [] ∷ commits 0 1 ∷ reads_database 0 x ∷ [])

abbrev pub OldReadAfterCommit : Type 0
OldReadAfterCommit = IsIllegal (locks_database 0 ∷ begins 0 ∷ commits 0 1 ∷ reads_database 1 [] ∷ [])

-- who began a commit reads it
abbrev pub OldReadOfOwn : Type 0
OldReadOfOwn = IsIllegal (locks_database 0 ∷ begins 0 ∷ reads_database 0 [] ∷ [])

-- a node reads what it has read before
abbrev pub OldReadAfterRead : Type 0
OldReadAfterRead = IsIllegal (locks_database 0 ∷ begins 0 ∷ reads_database 1 x ∷ reads_database 1 [] ∷ [])

-- ---- rounds

-- a round forgets what a member has read
abbrev pub RoundForgets : Type 0
RoundForgets = IsIllegal (writes 0 x ∷ reads 1 x ∷ Stopped 0 ∷ Ticket 2 1 (1 ∷ []) ∷ round 1 (1 ∷ []) ∷ installs 1 ∷ thaws 1 ∷ reads 1 [] ∷ [])

-- a round forgets a commit that was acknowledged
abbrev pub RoundForgetsCommit : Type 0
RoundForgetsCommit =
    IsIllegal (locks_database 0 ∷ begins 0 ∷ commits 0 1 ∷ Stopped 0 ∷ Ticket 2 1 (1 ∷ []) ∷ round 1 (1 ∷ []) ∷ installs 1 ∷ reads_database 1 [] ∷ [])

abbrev pub RoundOfAnother : Type 0
RoundOfAnother = IsIllegal (Ticket 2 0 both ∷ round 1 both ∷ [])

abbrev pub RoundOfOtherMembers : Type 0
RoundOfOtherMembers = IsIllegal (Ticket 2 0 both ∷ round 0 (0 ∷ []) ∷ [])

-- a round from a line that no member had
abbrev pub RoundFromNowhere : Type 0
RoundFromNowhere = IsIllegal (Ticket 2 0 both ∷ Ticket 3 0 both ∷ Noted 0 (note.Round 3 both 2 1) ∷ [])

-- a round from no line, though a member is in one
abbrev pub RoundFromNothing : Type 0
RoundFromNothing = IsIllegal (Ticket 2 0 both ∷ Stopped 1 ∷ Noted 0 (note.Round 2 both 0 1) ∷ [])

-- a round from a persistent line older than that of a member, which stopped in its newer line
abbrev pub PersistentParentTooOld : Type 0
PersistentParentTooOld = IsIllegal (Ticket 2 0 both ∷ round 0 both ∷ installs 0 ∷ Stopped 0 ∷ Ticket 3 1 both ∷ Noted 1 (note.Round 3 both 1 1) ∷ [])

abbrev pub SecondRound : Type 0
SecondRound = IsIllegal (Ticket 2 0 both ∷ round 0 both ∷ round 0 both ∷ [])

abbrev pub InstalledByAnother : Type 0
InstalledByAnother = IsIllegal (Ticket 2 0 (0 ∷ []) ∷ round 0 (0 ∷ []) ∷ installs 1 ∷ [])

abbrev pub InstalledUnborn : Type 0
InstalledUnborn = IsIllegal (Ticket 2 0 both ∷ installs 0 ∷ [])

abbrev pub InstalledTwice : Type 0
InstalledTwice = IsIllegal (Ticket 2 0 both ∷ round 0 both ∷ installs 0 ∷ Stopped 0 ∷ installs 0 ∷ [])

abbrev pub InstalledUnderLock : Type 0
InstalledUnderLock = IsIllegal (Ticket 2 0 both ∷ round 0 both ∷ locks 1 [] ∷ installs 1 ∷ [])

abbrev pub ThawedTooEarly : Type 0
ThawedTooEarly = IsIllegal (Ticket 2 0 both ∷ round 0 both ∷ installs 0 ∷ thaws 0 ∷ [])

-- ---- the recovery lock

abbrev pub TicketWhileHeld : Type 0
TicketWhileHeld = IsIllegal (Ticket 2 0 both ∷ Ticket 3 1 both ∷ [])

abbrev pub TicketLeftOut : Type 0
TicketLeftOut = IsIllegal (Ticket 3 0 both ∷ [])

abbrev pub YieldedByAnother : Type 0
YieldedByAnother = IsIllegal (Ticket 2 0 both ∷ Yielded 1 ∷ [])

-- ---- addresses

abbrev pub TookUnassigned : Type 0
TookUnassigned = IsIllegal (Ticket 2 0 both ∷ round 0 both ∷ Pushed 2 first_at_zero ∷ installs 0 ∷ takes 0 (V4 1) ∷ [])

-- the second run moves the address, and it was not released
abbrev pub TookWhileHeld : Type 0
TookWhileHeld = IsIllegal (Ticket 2 0 both ∷ round 0 both ∷ Pushed 2 first_at_zero ∷ installs 0 ∷ installs 1 ∷ Takeover 0 both ∷ Taken 0 2 1 one_each ∷ takes 0 (V4 1) ∷ Takeover 0 (1 ∷ []) ∷ Taken 0 2 2 both_at_one ∷ takes 1 (V4 1) ∷ [])

-- a take that is not what LCP2 answers
abbrev pub WrongTake : Type 0
WrongTake = IsIllegal (Ticket 2 0 both ∷ round 0 both ∷ Pushed 2 first_at_zero ∷ installs 0 ∷ Takeover 0 both ∷ Taken 0 2 1 first_at_zero ∷ [])

-- a take of a run that did not begin
abbrev pub TakeOfNoRun : Type 0
TakeOfNoRun = IsIllegal (Ticket 2 0 both ∷ round 0 both ∷ Pushed 2 first_at_zero ∷ installs 0 ∷ Taken 0 2 1 first_at_zero ∷ [])

abbrev pub PushedAnew : Type 0
PushedAnew = IsIllegal (Ticket 2 0 both ∷ round 0 both ∷ Pushed 2 first_at_zero ∷ Pushed 2 one_each ∷ [])

abbrev pub PushedUnborn : Type 0
PushedUnborn = IsIllegal (Ticket 2 0 both ∷ Pushed 2 first_at_zero ∷ [])
