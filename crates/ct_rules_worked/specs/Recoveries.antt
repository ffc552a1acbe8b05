-- Rounds of recovery.
use Rattle.std.specs.Prelude.{[], ◌∷◌, codes, None, Some}
use Rattle.ct_values.specs.Config.{lock_db}
use Rattle.ct_values.specs.declared.config.DbKind.TheVariants.{Volatile, ReadOnly}
use Rattle.ct_values.specs.declared.client.Answer.TheVariants as answer
use Rattle.ct_values.specs.declared.client.ClientOp.TheVariants as op
use Rattle.ct_values.specs.declared.client.Why.TheVariants as why
use Rattle.ct_frame.specs.declared.event.Note.TheVariants as note
use Rattle.ct_frame.specs.declared.frame.CallKind.TheVariants as kind
use Rattle.ct_frame.specs.declared.frame.Msg.TheVariants as msg
use Rattle.ct_rules_worked.specs.Examples.{Prints, a_db, sent}
use Rattle.ct_rules_cluster.specs.declared.step.Line.TheVariants as line
use Rattle.ct_rules_cluster.specs.declared.step.Step.TheVariants as step

-- a stop and a round break a vacuum off, and nothing that was deleted returns
abbrev pub RoundEndsVacuum : Type 0
RoundEndsVacuum = Prints (record { nodes = 3; dbs = lock_db ∷ a_db (codes "t") Volatile ∷ []; addresses = [] }) (
    step.Client 0 (op.Lock 1 (codes "a")) ∷
    step.Deliver 1 ∷
    step.Deliver 2 ∷
    step.Deliver 3 ∷
    step.Deliver 4 ∷
    step.Client 0 (op.Store 1 (codes "a") (codes "x")) ∷
    step.Client 0 (op.Store 1 (codes "a") []) ∷
    step.Client 0 (op.Unlock 1 (codes "a")) ∷
    step.Vacuum 0 1 ∷
    step.Deliver 5 ∷
    step.Vacuum 1 1 ∷
    step.Deliver 6 ∷
    step.Deliver 7 ∷
    step.Stop 1 ∷
    step.Drop 8 ∷
    step.Drop 9 ∷
    step.Recover 0 (0 ∷ 2 ∷ []) ∷
    step.Deliver 10 ∷
    step.Deliver 11 ∷
    step.Deliver 12 ∷
    step.Deliver 13 ∷
    step.Deliver 14 ∷
    step.Deliver 15 ∷
    step.Deliver 16 ∷
    step.Deliver 17 ∷
    step.Deliver 18 ∷
    step.Deliver 19 ∷
    step.Deliver 20 ∷
    step.Deliver 21 ∷
    step.Deliver 22 ∷
    step.Deliver 23 ∷
    step.Client 2 (op.Read 1 (codes "a")) ∷
    step.Deliver 24 ∷
    step.Deliver 25 ∷
    step.Deliver 26 ∷
    step.Deliver 27 ∷
    []
    ) (
    sent 1 0 1 1 (msg.Call 1 (codes "a") 1 kind.Lock) ∷
    sent 2 1 1 1 (msg.Recall 1 (codes "a") 0 0 1 kind.Lock) ∷
    sent 3 1 1 1 (msg.Give 1 (codes "a") 0 []) ∷
    sent 4 1 0 1 (msg.Pass 1 (codes "a") 1 0 []) ∷
    line.Answered 1 (answer.Locked []) ∷
    line.Answered 2 (answer.Stored) ∷
    line.Answered 3 (answer.Stored) ∷
    line.Answered 4 (answer.Unlocked) ∷
    sent 5 0 1 1 (msg.Give 1 (codes "a") 1 []) ∷
    sent 6 1 0 1 (msg.VStore 1 (codes "a") 2) ∷
    sent 7 1 2 1 (msg.VStore 1 (codes "a") 2) ∷
    sent 8 0 1 1 (msg.VStored 1 (codes "a") 2) ∷
    sent 9 2 1 1 (msg.VStored 1 (codes "a") 2) ∷
    line.Stopped 1 ∷
    line.Ticket 2 0 ∷
    sent 10 0 0 2 (msg.Freeze (0 ∷ 2 ∷ [])) ∷
    sent 11 0 2 2 (msg.Freeze (0 ∷ 2 ∷ [])) ∷
    sent 12 0 0 2 msg.FreezeAck ∷
    sent 13 2 0 2 msg.FreezeAck ∷
    sent 14 0 0 2 msg.Pull ∷
    sent 15 0 2 2 msg.Pull ∷
    sent 16 0 0 2 (msg.PullReply 1 1 (record { db = 1; key = codes "a"; rsn = 2; value = []; master = None } ∷ []) [] []) ∷
    sent 17 2 0 2 (msg.PullReply 1 1 [] [] []) ∷
    line.Noted 0 (note.Round 2 (0 ∷ 2 ∷ []) 1 1) ∷
    sent 18 0 0 2 (msg.Push (0 ∷ 2 ∷ []) (record { db = 1; key = codes "a"; rsn = 2; value = []; master = Some 0 } ∷ []) [] []) ∷
    sent 19 0 2 2 (msg.Push (0 ∷ 2 ∷ []) (record { db = 1; key = codes "a"; rsn = 2; value = []; master = Some 0 } ∷ []) [] []) ∷
    line.Noted 0 (note.Installed 2) ∷
    sent 20 0 0 2 msg.PushAck ∷
    line.Noted 2 (note.Installed 2) ∷
    sent 21 2 0 2 msg.PushAck ∷
    sent 22 0 0 2 msg.Thaw ∷
    sent 23 0 2 2 msg.Thaw ∷
    line.Noted 0 (note.Thawed 2) ∷
    line.Noted 2 (note.Thawed 2) ∷
    sent 24 2 2 2 (msg.Call 1 (codes "a") 1 kind.Lock) ∷
    sent 25 2 0 2 (msg.Recall 1 (codes "a") 3 2 1 kind.Lock) ∷
    sent 26 0 2 2 (msg.Give 1 (codes "a") 3 []) ∷
    sent 27 2 2 2 (msg.Pass 1 (codes "a") 1 3 []) ∷
    line.Answered 5 (answer.Read []) ∷
    []
    )

-- a round of members of different generations takes the records of the newest one
abbrev pub DifferentBases : Type 0
DifferentBases = Prints (record { nodes = 2; dbs = lock_db ∷ a_db (codes "t") Volatile ∷ []; addresses = [] }) (
    step.Client 1 (op.Lock 1 (codes "b")) ∷
    step.Deliver 1 ∷
    step.Deliver 2 ∷
    step.Deliver 3 ∷
    step.Deliver 4 ∷
    step.Client 1 (op.Store 1 (codes "b") (codes "x")) ∷
    step.Recover 0 (0 ∷ []) ∷
    step.Deliver 5 ∷
    step.Deliver 6 ∷
    step.Deliver 7 ∷
    step.Deliver 8 ∷
    step.Deliver 9 ∷
    step.Deliver 10 ∷
    step.Deliver 11 ∷
    step.Client 1 (op.Store 1 (codes "b") (codes "y")) ∷
    step.Client 0 (op.Read 1 (codes "b")) ∷
    step.Client 0 (op.Lock 1 (codes "b")) ∷
    step.Client 0 (op.Store 1 (codes "b") (codes "z")) ∷
    step.Client 0 (op.Unlock 1 (codes "b")) ∷
    step.Client 1 (op.Unlock 1 (codes "b")) ∷
    step.Recover 0 (0 ∷ 1 ∷ []) ∷
    step.Deliver 12 ∷
    step.Deliver 13 ∷
    step.Deliver 14 ∷
    step.Deliver 15 ∷
    step.Deliver 16 ∷
    step.Deliver 17 ∷
    step.Deliver 18 ∷
    step.Deliver 19 ∷
    step.Deliver 20 ∷
    step.Deliver 21 ∷
    step.Deliver 22 ∷
    step.Deliver 23 ∷
    step.Deliver 24 ∷
    step.Deliver 25 ∷
    step.Client 1 (op.Read 1 (codes "b")) ∷
    step.Deliver 26 ∷
    step.Deliver 27 ∷
    step.Deliver 28 ∷
    step.Deliver 29 ∷
    []
    ) (
    sent 1 1 0 1 (msg.Call 1 (codes "b") 1 kind.Lock) ∷
    sent 2 0 0 1 (msg.Recall 1 (codes "b") 0 1 1 kind.Lock) ∷
    sent 3 0 0 1 (msg.Give 1 (codes "b") 0 []) ∷
    sent 4 0 1 1 (msg.Pass 1 (codes "b") 1 0 []) ∷
    line.Answered 1 (answer.Locked []) ∷
    line.Answered 2 (answer.Stored) ∷
    line.Ticket 2 0 ∷
    sent 5 0 0 2 (msg.Freeze (0 ∷ [])) ∷
    sent 6 0 0 2 msg.FreezeAck ∷
    sent 7 0 0 2 msg.Pull ∷
    sent 8 0 0 2 (msg.PullReply 1 1 (record { db = 1; key = codes "b"; rsn = 0; value = []; master = None } ∷ []) [] []) ∷
    line.Noted 0 (note.Round 2 (0 ∷ []) 1 1) ∷
    sent 9 0 0 2 (msg.Push (0 ∷ []) (record { db = 1; key = codes "b"; rsn = 0; value = []; master = Some 0 } ∷ []) [] []) ∷
    line.Noted 0 (note.Installed 2) ∷
    sent 10 0 0 2 msg.PushAck ∷
    sent 11 0 0 2 msg.Thaw ∷
    line.Noted 0 (note.Thawed 2) ∷
    line.Answered 3 (answer.Stored) ∷
    line.Answered 4 (answer.Read []) ∷
    line.Answered 5 (answer.Locked []) ∷
    line.Answered 6 (answer.Stored) ∷
    line.Answered 7 (answer.Unlocked) ∷
    line.Answered 8 (answer.Unlocked) ∷
    line.Ticket 3 0 ∷
    sent 12 0 0 3 (msg.Freeze (0 ∷ 1 ∷ [])) ∷
    sent 13 0 1 3 (msg.Freeze (0 ∷ 1 ∷ [])) ∷
    sent 14 0 0 3 msg.FreezeAck ∷
    sent 15 1 0 3 msg.FreezeAck ∷
    sent 16 0 0 3 msg.Pull ∷
    sent 17 0 1 3 msg.Pull ∷
    sent 18 0 0 3 (msg.PullReply 2 2 (record { db = 1; key = codes "b"; rsn = 1; value = codes "z"; master = Some 0 } ∷ []) [] []) ∷
    sent 19 1 0 3 (msg.PullReply 1 1 (record { db = 1; key = codes "b"; rsn = 1; value = codes "y"; master = Some 1 } ∷ []) [] []) ∷
    line.Noted 0 (note.Round 3 (0 ∷ 1 ∷ []) 2 2) ∷
    sent 20 0 0 3 (msg.Push (0 ∷ 1 ∷ []) (record { db = 1; key = codes "b"; rsn = 1; value = codes "z"; master = Some 0 } ∷ []) [] []) ∷
    sent 21 0 1 3 (msg.Push (0 ∷ 1 ∷ []) (record { db = 1; key = codes "b"; rsn = 1; value = codes "z"; master = Some 0 } ∷ []) [] []) ∷
    line.Noted 0 (note.Installed 3) ∷
    sent 22 0 0 3 msg.PushAck ∷
    line.Noted 1 (note.Installed 3) ∷
    sent 23 1 0 3 msg.PushAck ∷
    sent 24 0 0 3 msg.Thaw ∷
    sent 25 0 1 3 msg.Thaw ∷
    line.Noted 0 (note.Thawed 3) ∷
    line.Noted 1 (note.Thawed 3) ∷
    sent 26 1 0 3 (msg.Call 1 (codes "b") 2 kind.Lock) ∷
    sent 27 0 0 3 (msg.Recall 1 (codes "b") 2 1 2 kind.Lock) ∷
    sent 28 0 0 3 (msg.Give 1 (codes "b") 2 (codes "z")) ∷
    sent 29 0 1 3 (msg.Pass 1 (codes "b") 2 2 (codes "z")) ∷
    line.Answered 9 (answer.Read (codes "z")) ∷
    []
    )

-- a round that is broken off by the stop of its leader is followed by another one
abbrev pub BrokenOffRound : Type 0
BrokenOffRound = Prints (record { nodes = 3; dbs = lock_db ∷ a_db (codes "t") Volatile ∷ []; addresses = [] }) (
    step.Client 1 (op.Lock 1 (codes "a")) ∷
    step.Client 1 (op.Store 1 (codes "a") (codes "x")) ∷
    step.Client 1 (op.Unlock 1 (codes "a")) ∷
    step.Recover 0 (0 ∷ 1 ∷ 2 ∷ []) ∷
    step.Deliver 1 ∷
    step.Deliver 2 ∷
    step.Deliver 3 ∷
    step.Deliver 4 ∷
    step.Deliver 5 ∷
    step.Deliver 6 ∷
    step.Deliver 7 ∷
    step.Deliver 8 ∷
    step.Deliver 9 ∷
    step.Deliver 10 ∷
    step.Deliver 11 ∷
    step.Deliver 12 ∷
    step.Deliver 14 ∷
    step.Stop 0 ∷
    step.Drop 15 ∷
    step.Recover 1 (1 ∷ 2 ∷ []) ∷
    step.Deliver 13 ∷
    step.Deliver 16 ∷
    step.Deliver 17 ∷
    step.Deliver 18 ∷
    step.Deliver 19 ∷
    step.Deliver 20 ∷
    step.Deliver 21 ∷
    step.Deliver 22 ∷
    step.Deliver 23 ∷
    step.Deliver 24 ∷
    step.Deliver 25 ∷
    step.Deliver 26 ∷
    step.Deliver 27 ∷
    step.Deliver 28 ∷
    step.Deliver 29 ∷
    step.Deliver 30 ∷
    step.Client 2 (op.Read 1 (codes "a")) ∷
    step.Deliver 31 ∷
    step.Deliver 32 ∷
    step.Deliver 33 ∷
    step.Deliver 34 ∷
    []
    ) (
    line.Answered 1 (answer.Locked []) ∷
    line.Answered 2 (answer.Stored) ∷
    line.Answered 3 (answer.Unlocked) ∷
    line.Ticket 2 0 ∷
    sent 1 0 0 2 (msg.Freeze (0 ∷ 1 ∷ 2 ∷ [])) ∷
    sent 2 0 1 2 (msg.Freeze (0 ∷ 1 ∷ 2 ∷ [])) ∷
    sent 3 0 2 2 (msg.Freeze (0 ∷ 1 ∷ 2 ∷ [])) ∷
    sent 4 0 0 2 msg.FreezeAck ∷
    sent 5 1 0 2 msg.FreezeAck ∷
    sent 6 2 0 2 msg.FreezeAck ∷
    sent 7 0 0 2 msg.Pull ∷
    sent 8 0 1 2 msg.Pull ∷
    sent 9 0 2 2 msg.Pull ∷
    sent 10 0 0 2 (msg.PullReply 1 1 [] [] []) ∷
    sent 11 1 0 2 (msg.PullReply 1 1 (record { db = 1; key = codes "a"; rsn = 0; value = codes "x"; master = Some 1 } ∷ []) [] []) ∷
    sent 12 2 0 2 (msg.PullReply 1 1 [] [] []) ∷
    line.Noted 0 (note.Round 2 (0 ∷ 1 ∷ 2 ∷ []) 1 1) ∷
    sent 13 0 0 2 (msg.Push (0 ∷ 1 ∷ 2 ∷ []) (record { db = 1; key = codes "a"; rsn = 0; value = codes "x"; master = Some 1 } ∷ []) [] []) ∷
    sent 14 0 1 2 (msg.Push (0 ∷ 1 ∷ 2 ∷ []) (record { db = 1; key = codes "a"; rsn = 0; value = codes "x"; master = Some 1 } ∷ []) [] []) ∷
    sent 15 0 2 2 (msg.Push (0 ∷ 1 ∷ 2 ∷ []) (record { db = 1; key = codes "a"; rsn = 0; value = codes "x"; master = Some 1 } ∷ []) [] []) ∷
    line.Noted 1 (note.Installed 2) ∷
    sent 16 1 0 2 msg.PushAck ∷
    line.Stopped 0 ∷
    line.Ticket 3 1 ∷
    sent 17 1 1 3 (msg.Freeze (1 ∷ 2 ∷ [])) ∷
    sent 18 1 2 3 (msg.Freeze (1 ∷ 2 ∷ [])) ∷
    line.Lost 13 ∷
    line.Lost 16 ∷
    sent 19 1 1 3 msg.FreezeAck ∷
    sent 20 2 1 3 msg.FreezeAck ∷
    sent 21 1 1 3 msg.Pull ∷
    sent 22 1 2 3 msg.Pull ∷
    sent 23 1 1 3 (msg.PullReply 2 2 (record { db = 1; key = codes "a"; rsn = 1; value = codes "x"; master = Some 1 } ∷ []) [] []) ∷
    sent 24 2 1 3 (msg.PullReply 1 1 [] [] []) ∷
    line.Noted 1 (note.Round 3 (1 ∷ 2 ∷ []) 2 2) ∷
    sent 25 1 1 3 (msg.Push (1 ∷ 2 ∷ []) (record { db = 1; key = codes "a"; rsn = 1; value = codes "x"; master = Some 1 } ∷ []) [] []) ∷
    sent 26 1 2 3 (msg.Push (1 ∷ 2 ∷ []) (record { db = 1; key = codes "a"; rsn = 1; value = codes "x"; master = Some 1 } ∷ []) [] []) ∷
    line.Noted 1 (note.Installed 3) ∷
    sent 27 1 1 3 msg.PushAck ∷
    line.Noted 2 (note.Installed 3) ∷
    sent 28 2 1 3 msg.PushAck ∷
    sent 29 1 1 3 msg.Thaw ∷
    sent 30 1 2 3 msg.Thaw ∷
    line.Noted 1 (note.Thawed 3) ∷
    line.Noted 2 (note.Thawed 3) ∷
    sent 31 2 2 3 (msg.Call 1 (codes "a") 1 kind.Lock) ∷
    sent 32 2 1 3 (msg.Recall 1 (codes "a") 2 2 1 kind.Lock) ∷
    sent 33 1 2 3 (msg.Give 1 (codes "a") 2 (codes "x")) ∷
    sent 34 2 2 3 (msg.Pass 1 (codes "a") 1 2 (codes "x")) ∷
    line.Answered 4 (answer.Read (codes "x")) ∷
    []
    )

-- a node that stopped and started takes no part in the round that it promised
abbrev pub RestartedNode : Type 0
RestartedNode = Prints (record { nodes = 1; dbs = lock_db ∷ a_db (codes "t") Volatile ∷ []; addresses = [] }) (
    step.Client 0 (op.Lock 1 (codes "k")) ∷
    step.Client 0 (op.Store 1 (codes "k") (codes "x")) ∷
    step.Client 0 (op.Unlock 1 (codes "k")) ∷
    step.Recover 0 (0 ∷ []) ∷
    step.Deliver 1 ∷
    step.Deliver 2 ∷
    step.Deliver 3 ∷
    step.Deliver 4 ∷
    step.Deliver 5 ∷
    step.Deliver 6 ∷
    step.Deliver 7 ∷
    step.Stop 0 ∷
    step.Start 0 ∷
    step.Repeat 1 ∷
    step.Repeat 5 ∷
    step.Repeat 7 ∷
    step.Client 0 (op.Lock 1 (codes "k")) ∷
    []
    ) (
    line.Answered 1 (answer.Locked []) ∷
    line.Answered 2 (answer.Stored) ∷
    line.Answered 3 (answer.Unlocked) ∷
    line.Ticket 2 0 ∷
    sent 1 0 0 2 (msg.Freeze (0 ∷ [])) ∷
    sent 2 0 0 2 msg.FreezeAck ∷
    sent 3 0 0 2 msg.Pull ∷
    sent 4 0 0 2 (msg.PullReply 1 1 (record { db = 1; key = codes "k"; rsn = 0; value = codes "x"; master = Some 0 } ∷ []) [] []) ∷
    line.Noted 0 (note.Round 2 (0 ∷ []) 1 1) ∷
    sent 5 0 0 2 (msg.Push (0 ∷ []) (record { db = 1; key = codes "k"; rsn = 0; value = codes "x"; master = Some 0 } ∷ []) [] []) ∷
    line.Noted 0 (note.Installed 2) ∷
    sent 6 0 0 2 msg.PushAck ∷
    sent 7 0 0 2 msg.Thaw ∷
    line.Noted 0 (note.Thawed 2) ∷
    line.Stopped 0 ∷
    line.Started 0 ∷
    line.Answered 4 (answer.Refused why.NotServing) ∷
    []
    )

-- a member that was data master stays so after a round
abbrev pub SurvivingMaster : Type 0
SurvivingMaster = Prints (record { nodes = 2; dbs = lock_db ∷ a_db (codes "t") Volatile ∷ []; addresses = [] }) (
    step.Client 1 (op.Lock 1 (codes "b")) ∷
    step.Deliver 1 ∷
    step.Deliver 2 ∷
    step.Deliver 3 ∷
    step.Deliver 4 ∷
    step.Client 1 (op.Store 1 (codes "b") (codes "x")) ∷
    step.Client 1 (op.Unlock 1 (codes "b")) ∷
    step.Recover 0 (0 ∷ 1 ∷ []) ∷
    step.Deliver 5 ∷
    step.Deliver 6 ∷
    step.Deliver 7 ∷
    step.Deliver 8 ∷
    step.Deliver 9 ∷
    step.Deliver 10 ∷
    step.Deliver 11 ∷
    step.Deliver 12 ∷
    step.Deliver 13 ∷
    step.Deliver 14 ∷
    step.Deliver 15 ∷
    step.Deliver 16 ∷
    step.Deliver 17 ∷
    step.Deliver 18 ∷
    step.Client 1 (op.Lock 1 (codes "b")) ∷
    []
    ) (
    sent 1 1 0 1 (msg.Call 1 (codes "b") 1 kind.Lock) ∷
    sent 2 0 0 1 (msg.Recall 1 (codes "b") 0 1 1 kind.Lock) ∷
    sent 3 0 0 1 (msg.Give 1 (codes "b") 0 []) ∷
    sent 4 0 1 1 (msg.Pass 1 (codes "b") 1 0 []) ∷
    line.Answered 1 (answer.Locked []) ∷
    line.Answered 2 (answer.Stored) ∷
    line.Answered 3 (answer.Unlocked) ∷
    line.Ticket 2 0 ∷
    sent 5 0 0 2 (msg.Freeze (0 ∷ 1 ∷ [])) ∷
    sent 6 0 1 2 (msg.Freeze (0 ∷ 1 ∷ [])) ∷
    sent 7 0 0 2 msg.FreezeAck ∷
    sent 8 1 0 2 msg.FreezeAck ∷
    sent 9 0 0 2 msg.Pull ∷
    sent 10 0 1 2 msg.Pull ∷
    sent 11 0 0 2 (msg.PullReply 1 1 (record { db = 1; key = codes "b"; rsn = 0; value = []; master = None } ∷ []) [] []) ∷
    sent 12 1 0 2 (msg.PullReply 1 1 (record { db = 1; key = codes "b"; rsn = 1; value = codes "x"; master = Some 1 } ∷ []) [] []) ∷
    line.Noted 0 (note.Round 2 (0 ∷ 1 ∷ []) 1 1) ∷
    sent 13 0 0 2 (msg.Push (0 ∷ 1 ∷ []) (record { db = 1; key = codes "b"; rsn = 1; value = codes "x"; master = Some 1 } ∷ []) [] []) ∷
    sent 14 0 1 2 (msg.Push (0 ∷ 1 ∷ []) (record { db = 1; key = codes "b"; rsn = 1; value = codes "x"; master = Some 1 } ∷ []) [] []) ∷
    line.Noted 0 (note.Installed 2) ∷
    sent 15 0 0 2 msg.PushAck ∷
    line.Noted 1 (note.Installed 2) ∷
    sent 16 1 0 2 msg.PushAck ∷
    sent 17 0 0 2 msg.Thaw ∷
    sent 18 0 1 2 msg.Thaw ∷
    line.Noted 0 (note.Thawed 2) ∷
    line.Noted 1 (note.Thawed 2) ∷
    line.Answered 4 (answer.Locked (codes "x")) ∷
    []
    )

-- a copy at its own data master is taken before a copy for reading of the same RSN
abbrev pub MasterBeforeReader : Type 0
MasterBeforeReader = Prints (record { nodes = 2; dbs = lock_db ∷ a_db (codes "r") ReadOnly ∷ []; addresses = [] }) (
    step.Client 1 (op.Lock 1 (codes "a")) ∷
    step.Client 1 (op.Store 1 (codes "a") (codes "x")) ∷
    step.Client 1 (op.Unlock 1 (codes "a")) ∷
    step.Client 0 (op.Read 1 (codes "a")) ∷
    step.Deliver 1 ∷
    step.Deliver 2 ∷
    step.Deliver 3 ∷
    step.Deliver 4 ∷
    step.Recover 0 (0 ∷ 1 ∷ []) ∷
    step.Deliver 5 ∷
    step.Deliver 6 ∷
    step.Deliver 7 ∷
    step.Deliver 8 ∷
    step.Deliver 9 ∷
    step.Deliver 10 ∷
    step.Deliver 11 ∷
    step.Deliver 12 ∷
    step.Deliver 13 ∷
    step.Deliver 14 ∷
    step.Deliver 15 ∷
    step.Deliver 16 ∷
    step.Deliver 17 ∷
    step.Deliver 18 ∷
    []
    ) (
    line.Answered 1 (answer.Locked []) ∷
    line.Answered 2 (answer.Stored) ∷
    line.Answered 3 (answer.Unlocked) ∷
    sent 1 0 1 1 (msg.Call 1 (codes "a") 1 kind.Read) ∷
    sent 2 1 1 1 (msg.Recall 1 (codes "a") 0 0 1 kind.Read) ∷
    sent 3 1 0 1 (msg.Grant 1 (codes "a") 1 0 (codes "x")) ∷
    sent 4 1 1 1 (msg.Done 1 (codes "a") 0 1) ∷
    line.Answered 4 (answer.Read (codes "x")) ∷
    line.Ticket 2 0 ∷
    sent 5 0 0 2 (msg.Freeze (0 ∷ 1 ∷ [])) ∷
    sent 6 0 1 2 (msg.Freeze (0 ∷ 1 ∷ [])) ∷
    sent 7 0 0 2 msg.FreezeAck ∷
    sent 8 1 0 2 msg.FreezeAck ∷
    sent 9 0 0 2 msg.Pull ∷
    sent 10 0 1 2 msg.Pull ∷
    sent 11 0 0 2 (msg.PullReply 1 1 (record { db = 1; key = codes "a"; rsn = 0; value = codes "x"; master = None } ∷ []) [] []) ∷
    sent 12 1 0 2 (msg.PullReply 1 1 (record { db = 1; key = codes "a"; rsn = 0; value = codes "x"; master = Some 1 } ∷ []) [] []) ∷
    line.Noted 0 (note.Round 2 (0 ∷ 1 ∷ []) 1 1) ∷
    sent 13 0 0 2 (msg.Push (0 ∷ 1 ∷ []) (record { db = 1; key = codes "a"; rsn = 0; value = codes "x"; master = Some 1 } ∷ []) [] []) ∷
    sent 14 0 1 2 (msg.Push (0 ∷ 1 ∷ []) (record { db = 1; key = codes "a"; rsn = 0; value = codes "x"; master = Some 1 } ∷ []) [] []) ∷
    line.Noted 0 (note.Installed 2) ∷
    sent 15 0 0 2 msg.PushAck ∷
    line.Noted 1 (note.Installed 2) ∷
    sent 16 1 0 2 msg.PushAck ∷
    sent 17 0 0 2 msg.Thaw ∷
    sent 18 0 1 2 msg.Thaw ∷
    line.Noted 0 (note.Thawed 2) ∷
    line.Noted 1 (note.Thawed 2) ∷
    []
    )
