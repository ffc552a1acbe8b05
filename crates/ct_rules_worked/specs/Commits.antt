-- Persistent databases.
use Rattle.std.specs.Prelude.{[], ◌∷◌, codes, Some}
use Rattle.ct_values.specs.Config.{lock_db}
use Rattle.ct_values.specs.declared.config.DbKind.TheVariants.{Persistent}
use Rattle.ct_values.specs.declared.client.Answer.TheVariants as answer
use Rattle.ct_values.specs.declared.client.ClientOp.TheVariants as op
use Rattle.ct_values.specs.declared.client.Why.TheVariants as why
use Rattle.ct_frame.specs.declared.event.Note.TheVariants as note
use Rattle.ct_frame.specs.declared.frame.Msg.TheVariants as msg
use Rattle.ct_rules_worked.specs.Examples.{Prints, a_db, sent}
use Rattle.ct_rules_cluster.specs.declared.step.Line.TheVariants as line
use Rattle.ct_rules_cluster.specs.declared.step.Step.TheVariants as step

-- a commit is made under the lock of its database
abbrev pub CommitUnderLock : Type 0
CommitUnderLock = Prints (record { nodes = 1; dbs = lock_db ∷ a_db (codes "b") Persistent ∷ []; addresses = [] }) (
    step.Client 0 (op.Commit 1 (record { key = codes "k"; value = codes "v" } ∷ [])) ∷
    step.Client 0 (op.Lock 1 (codes "k")) ∷
    step.Client 0 (op.Lock 0 (codes "b")) ∷
    step.Client 0 (op.Commit 1 (record { key = codes "k"; value = codes "v" } ∷ record { key = codes "k"; value = [] } ∷ [])) ∷
    step.Client 0 (op.Read 1 (codes "k")) ∷
    []
    ) (
    line.Answered 1 (answer.Refused why.NotLocked) ∷
    line.Answered 2 (answer.Refused why.WrongKind) ∷
    line.Answered 3 (answer.Locked []) ∷
    line.Answered 4 (answer.Committed 1) ∷
    line.Answered 5 (answer.Read []) ∷
    []
    )

-- of databases that two disjoint rounds changed, the one of the newer generation is taken
abbrev pub DisjointRounds : Type 0
DisjointRounds = Prints (record { nodes = 2; dbs = lock_db ∷ a_db (codes "b") Persistent ∷ []; addresses = [] }) (
    step.Recover 0 (0 ∷ []) ∷
    step.Deliver 1 ∷
    step.Deliver 2 ∷
    step.Deliver 3 ∷
    step.Deliver 4 ∷
    step.Deliver 5 ∷
    step.Deliver 6 ∷
    step.Deliver 7 ∷
    step.Yield 0 ∷
    step.Recover 1 (1 ∷ []) ∷
    step.Deliver 8 ∷
    step.Deliver 9 ∷
    step.Deliver 10 ∷
    step.Deliver 11 ∷
    step.Deliver 12 ∷
    step.Deliver 13 ∷
    step.Deliver 14 ∷
    step.Client 0 (op.Lock 0 (codes "b")) ∷
    step.Client 0 (op.Commit 1 (record { key = codes "k"; value = codes "1" } ∷ [])) ∷
    step.Client 0 (op.Commit 1 (record { key = codes "k"; value = codes "5" } ∷ [])) ∷
    step.Client 0 (op.Unlock 0 (codes "b")) ∷
    step.Client 1 (op.Lock 0 (codes "b")) ∷
    step.Client 1 (op.Commit 1 (record { key = codes "k"; value = codes "2" } ∷ [])) ∷
    step.Client 1 (op.Unlock 0 (codes "b")) ∷
    step.Recover 1 (0 ∷ 1 ∷ []) ∷
    step.Deliver 15 ∷
    step.Deliver 16 ∷
    step.Deliver 17 ∷
    step.Deliver 18 ∷
    step.Deliver 19 ∷
    step.Deliver 20 ∷
    step.Deliver 21 ∷
    step.Deliver 22 ∷
    step.Deliver 23 ∷
    step.Deliver 24 ∷
    step.Deliver 25 ∷
    step.Deliver 26 ∷
    step.Deliver 27 ∷
    step.Deliver 28 ∷
    step.Client 0 (op.Read 1 (codes "k")) ∷
    []
    ) (
    line.Ticket 2 0 ∷
    sent 1 0 0 2 (msg.Freeze (0 ∷ [])) ∷
    sent 2 0 0 2 msg.FreezeAck ∷
    sent 3 0 0 2 msg.Pull ∷
    sent 4 0 0 2 (msg.PullReply 1 1 [] (record { db = 1; seq = 0; pairs = [] } ∷ []) []) ∷
    line.Noted 0 (note.Round 2 (0 ∷ []) 1 1) ∷
    sent 5 0 0 2 (msg.Push (0 ∷ []) [] (record { db = 1; seq = 0; pairs = [] } ∷ []) []) ∷
    line.Noted 0 (note.Installed 2) ∷
    sent 6 0 0 2 msg.PushAck ∷
    sent 7 0 0 2 msg.Thaw ∷
    line.Noted 0 (note.Thawed 2) ∷
    line.Yielded 0 ∷
    line.Ticket 3 1 ∷
    sent 8 1 1 3 (msg.Freeze (1 ∷ [])) ∷
    sent 9 1 1 3 msg.FreezeAck ∷
    sent 10 1 1 3 msg.Pull ∷
    sent 11 1 1 3 (msg.PullReply 1 1 [] (record { db = 1; seq = 0; pairs = [] } ∷ []) []) ∷
    line.Noted 1 (note.Round 3 (1 ∷ []) 1 1) ∷
    sent 12 1 1 3 (msg.Push (1 ∷ []) [] (record { db = 1; seq = 0; pairs = [] } ∷ []) []) ∷
    line.Noted 1 (note.Installed 3) ∷
    sent 13 1 1 3 msg.PushAck ∷
    sent 14 1 1 3 msg.Thaw ∷
    line.Noted 1 (note.Thawed 3) ∷
    line.Answered 1 (answer.Locked []) ∷
    line.Answered 2 (answer.Committed 1) ∷
    line.Answered 3 (answer.Committed 2) ∷
    line.Answered 4 (answer.Unlocked) ∷
    line.Answered 5 (answer.Locked []) ∷
    line.Answered 6 (answer.Committed 1) ∷
    line.Answered 7 (answer.Unlocked) ∷
    line.Ticket 4 1 ∷
    sent 15 1 0 4 (msg.Freeze (0 ∷ 1 ∷ [])) ∷
    sent 16 1 1 4 (msg.Freeze (0 ∷ 1 ∷ [])) ∷
    sent 17 0 1 4 msg.FreezeAck ∷
    sent 18 1 1 4 msg.FreezeAck ∷
    sent 19 1 0 4 msg.Pull ∷
    sent 20 1 1 4 msg.Pull ∷
    sent 21 0 1 4 (msg.PullReply 2 2 (record { db = 0; key = codes "b"; rsn = 0; value = []; master = Some 0 } ∷ []) (record { db = 1; seq = 2; pairs = record { key = codes "k"; value = codes "5" } ∷ [] } ∷ []) []) ∷
    sent 22 1 1 4 (msg.PullReply 3 3 (record { db = 0; key = codes "b"; rsn = 0; value = []; master = Some 1 } ∷ []) (record { db = 1; seq = 1; pairs = record { key = codes "k"; value = codes "2" } ∷ [] } ∷ []) []) ∷
    line.Noted 1 (note.Round 4 (0 ∷ 1 ∷ []) 3 3) ∷
    sent 23 1 0 4 (msg.Push (0 ∷ 1 ∷ []) (record { db = 0; key = codes "b"; rsn = 0; value = []; master = Some 1 } ∷ []) (record { db = 1; seq = 1; pairs = record { key = codes "k"; value = codes "2" } ∷ [] } ∷ []) []) ∷
    sent 24 1 1 4 (msg.Push (0 ∷ 1 ∷ []) (record { db = 0; key = codes "b"; rsn = 0; value = []; master = Some 1 } ∷ []) (record { db = 1; seq = 1; pairs = record { key = codes "k"; value = codes "2" } ∷ [] } ∷ []) []) ∷
    line.Noted 0 (note.Installed 4) ∷
    sent 25 0 1 4 msg.PushAck ∷
    line.Noted 1 (note.Installed 4) ∷
    sent 26 1 1 4 msg.PushAck ∷
    sent 27 1 0 4 msg.Thaw ∷
    sent 28 1 1 4 msg.Thaw ∷
    line.Noted 0 (note.Thawed 4) ∷
    line.Noted 1 (note.Thawed 4) ∷
    line.Answered 8 (answer.Read (codes "2")) ∷
    []
    )

-- a commit that a freeze meets is unsure, and its lock ends
abbrev pub FreezeDuringCommit : Type 0
FreezeDuringCommit = Prints (record { nodes = 2; dbs = lock_db ∷ a_db (codes "b") Persistent ∷ []; addresses = [] }) (
    step.Client 0 (op.Lock 0 (codes "b")) ∷
    step.Client 0 (op.Commit 1 (record { key = codes "k"; value = codes "v" } ∷ [])) ∷
    step.Drop 1 ∷
    step.Recover 1 (0 ∷ 1 ∷ []) ∷
    step.Deliver 2 ∷
    step.Deliver 3 ∷
    step.Deliver 4 ∷
    step.Deliver 5 ∷
    step.Deliver 6 ∷
    step.Deliver 7 ∷
    step.Deliver 8 ∷
    step.Deliver 9 ∷
    step.Deliver 10 ∷
    step.Deliver 11 ∷
    step.Deliver 12 ∷
    step.Deliver 13 ∷
    step.Deliver 14 ∷
    step.Deliver 15 ∷
    step.Client 1 (op.Read 1 (codes "k")) ∷
    []
    ) (
    line.Answered 1 (answer.Locked []) ∷
    sent 1 0 1 1 (msg.PUpdate 1 1 (record { key = codes "k"; value = codes "v" } ∷ [])) ∷
    line.Ticket 2 1 ∷
    sent 2 1 0 2 (msg.Freeze (0 ∷ 1 ∷ [])) ∷
    sent 3 1 1 2 (msg.Freeze (0 ∷ 1 ∷ [])) ∷
    line.Answered 2 (answer.Unsure 1 (1 ∷ [])) ∷
    line.Noted 0 (note.Ended 0 (codes "b")) ∷
    sent 4 0 1 2 msg.FreezeAck ∷
    sent 5 1 1 2 msg.FreezeAck ∷
    sent 6 1 0 2 msg.Pull ∷
    sent 7 1 1 2 msg.Pull ∷
    sent 8 0 1 2 (msg.PullReply 1 1 (record { db = 0; key = codes "b"; rsn = 0; value = []; master = Some 0 } ∷ []) (record { db = 1; seq = 1; pairs = record { key = codes "k"; value = codes "v" } ∷ [] } ∷ []) []) ∷
    sent 9 1 1 2 (msg.PullReply 1 1 [] (record { db = 1; seq = 0; pairs = [] } ∷ []) []) ∷
    line.Noted 1 (note.Round 2 (0 ∷ 1 ∷ []) 1 1) ∷
    sent 10 1 0 2 (msg.Push (0 ∷ 1 ∷ []) (record { db = 0; key = codes "b"; rsn = 0; value = []; master = Some 0 } ∷ []) (record { db = 1; seq = 1; pairs = record { key = codes "k"; value = codes "v" } ∷ [] } ∷ []) []) ∷
    sent 11 1 1 2 (msg.Push (0 ∷ 1 ∷ []) (record { db = 0; key = codes "b"; rsn = 0; value = []; master = Some 0 } ∷ []) (record { db = 1; seq = 1; pairs = record { key = codes "k"; value = codes "v" } ∷ [] } ∷ []) []) ∷
    line.Noted 0 (note.Installed 2) ∷
    sent 12 0 1 2 msg.PushAck ∷
    line.Noted 1 (note.Installed 2) ∷
    sent 13 1 1 2 msg.PushAck ∷
    sent 14 1 0 2 msg.Thaw ∷
    sent 15 1 1 2 msg.Thaw ∷
    line.Noted 0 (note.Thawed 2) ∷
    line.Noted 1 (note.Thawed 2) ∷
    line.Answered 3 (answer.Read (codes "v")) ∷
    []
    )
