-- What a round leaves of a record, and what it takes away.
use Rattle.std.specs.Prelude.{[], ◌∷◌, codes, Some}
use Rattle.ct_values.specs.Config.{lock_db}
use Rattle.ct_values.specs.declared.config.DbKind.TheVariants.{Volatile}
use Rattle.ct_values.specs.declared.client.Answer.TheVariants as answer
use Rattle.ct_values.specs.declared.client.ClientOp.TheVariants as op
use Rattle.ct_frame.specs.Header.{plain}
use Rattle.ct_frame.specs.declared.event.Note.TheVariants as note
use Rattle.ct_frame.specs.declared.frame.CallKind.TheVariants as kind
use Rattle.ct_frame.specs.declared.frame.Msg.TheVariants as msg
use Rattle.ct_rules.specs.State.{nothing_kept, a_copy}
use Rattle.ct_rules_worked.specs.Examples.{Prints, Keeps, a_db, sent}
use Rattle.ct_rules_cluster.specs.declared.step.Line.TheVariants as line
use Rattle.ct_rules_cluster.specs.declared.step.Step.TheVariants as step

-- a call that waits when a round begins, in the queue of a location master that has an entry, is answered after it
abbrev pub CallWaitsAcrossARound : Type 0
CallWaitsAcrossARound = Prints (record { nodes = 2; dbs = lock_db ∷ a_db (codes "t") Volatile ∷ []; addresses = [] }) (
    step.Client 1 (op.Lock 1 (codes "b")) ∷
    step.Deliver 1 ∷
    step.Recover 0 (0 ∷ 1 ∷ []) ∷
    step.Drop 2 ∷
    step.Deliver 3 ∷
    step.Deliver 4 ∷
    step.Deliver 5 ∷
    step.Deliver 6 ∷
    step.Deliver 7 ∷
    step.Deliver 8 ∷
    step.Deliver 9 ∷
    step.Deliver 10 ∷
    step.Deliver 11 ∷
    step.Deliver 12 ∷
    step.Deliver 13 ∷
    step.Deliver 14 ∷
    step.Deliver 15 ∷
    step.Deliver 16 ∷
    step.Deliver 17 ∷
    step.Deliver 18 ∷
    step.Deliver 19 ∷
    step.Deliver 20 ∷
    step.Client 1 (op.Unlock 1 (codes "b")) ∷
    []
    ) (
    sent 1 1 0 1 (msg.Call 1 (codes "b") 1 kind.Lock) ∷
    sent 2 0 0 1 (msg.Recall 1 (codes "b") 0 1 1 kind.Lock) ∷
    line.Ticket 2 0 ∷
    sent 3 0 0 2 (msg.Freeze (0 ∷ 1 ∷ [])) ∷
    sent 4 0 1 2 (msg.Freeze (0 ∷ 1 ∷ [])) ∷
    sent 5 0 0 2 msg.FreezeAck ∷
    sent 6 1 0 2 msg.FreezeAck ∷
    sent 7 0 0 2 msg.Pull ∷
    sent 8 0 1 2 msg.Pull ∷
    sent 9 0 0 2 (msg.PullReply 1 1 (record { db = 1; key = codes "b"; rsn = 0; value = []; master = Some 0 } ∷ []) [] []) ∷
    sent 10 1 0 2 (msg.PullReply 1 1 [] [] []) ∷
    line.Noted 0 (note.Round 2 (0 ∷ 1 ∷ []) 1 1) ∷
    sent 11 0 0 2 (msg.Push (0 ∷ 1 ∷ []) (record { db = 1; key = codes "b"; rsn = 0; value = []; master = Some 0 } ∷ []) [] []) ∷
    sent 12 0 1 2 (msg.Push (0 ∷ 1 ∷ []) (record { db = 1; key = codes "b"; rsn = 0; value = []; master = Some 0 } ∷ []) [] []) ∷
    line.Noted 0 (note.Installed 2) ∷
    sent 13 0 0 2 msg.PushAck ∷
    line.Noted 1 (note.Installed 2) ∷
    sent 14 1 0 2 msg.PushAck ∷
    sent 15 0 0 2 msg.Thaw ∷
    sent 16 0 1 2 msg.Thaw ∷
    line.Noted 0 (note.Thawed 2) ∷
    line.Noted 1 (note.Thawed 2) ∷
    sent 17 1 0 2 (msg.Call 1 (codes "b") 2 kind.Lock) ∷
    sent 18 0 0 2 (msg.Recall 1 (codes "b") 1 1 2 kind.Lock) ∷
    sent 19 0 0 2 (msg.Give 1 (codes "b") 1 []) ∷
    sent 20 0 1 2 (msg.Pass 1 (codes "b") 2 1 []) ∷
    line.Answered 1 (answer.Locked []) ∷
    line.Answered 2 answer.Unlocked ∷
    []
    )

-- a freeze leaves the copy of a record, and neither its entry nor its queue
abbrev pub FreezeClearsAKey : Type 0
FreezeClearsAKey = Keeps (record { nodes = 2; dbs = lock_db ∷ a_db (codes "t") Volatile ∷ []; addresses = [] }) (
    step.Client 1 (op.Lock 1 (codes "b")) ∷
    step.Deliver 1 ∷
    step.Recover 0 (0 ∷ 1 ∷ []) ∷
    step.Drop 2 ∷
    step.Deliver 3 ∷
    []
    ) 0 1 (codes "b") (record nothing_kept { copy = Some (a_copy 0 0 plain []) })

-- a vacuum raises the floor, and a round lowers it again: the record is made anew under the RSN 0
abbrev pub RoundLowersTheFloor : Type 0
RoundLowersTheFloor = Prints (record { nodes = 2; dbs = lock_db ∷ a_db (codes "t") Volatile ∷ []; addresses = [] }) (
    step.Client 0 (op.Lock 1 (codes "b")) ∷
    step.Client 0 (op.Unlock 1 (codes "b")) ∷
    step.Vacuum 0 1 ∷
    step.Deliver 1 ∷
    step.Deliver 2 ∷
    step.Deliver 3 ∷
    step.Deliver 4 ∷
    step.Recover 0 (0 ∷ 1 ∷ []) ∷
    step.Deliver 5 ∷
    step.Deliver 6 ∷
    step.Deliver 7 ∷
    step.Deliver 8 ∷
    step.Deliver 9 ∷
    step.Deliver 10 ∷
    step.Deliver 11 ∷
    step.Deliver 12 ∷
    step.Deliver 13 ∷
    step.Deliver 14 ∷
    step.Deliver 15 ∷
    step.Deliver 16 ∷
    step.Deliver 17 ∷
    step.Deliver 18 ∷
    step.Client 1 (op.Lock 1 (codes "b")) ∷
    step.Deliver 19 ∷
    step.Deliver 20 ∷
    step.Deliver 21 ∷
    step.Deliver 22 ∷
    []
    ) (
    line.Answered 1 (answer.Locked []) ∷
    line.Answered 2 answer.Unlocked ∷
    sent 1 0 1 1 (msg.VStore 1 (codes "b") 0) ∷
    sent 2 1 0 1 (msg.VStored 1 (codes "b") 0) ∷
    sent 3 0 1 1 (msg.VDelete 1 (codes "b") 0) ∷
    sent 4 1 0 1 (msg.VDeleted 1 (codes "b") 0) ∷
    line.Noted 0 (note.Vacuumed 1 (codes "b")) ∷
    line.Ticket 2 0 ∷
    sent 5 0 0 2 (msg.Freeze (0 ∷ 1 ∷ [])) ∷
    sent 6 0 1 2 (msg.Freeze (0 ∷ 1 ∷ [])) ∷
    sent 7 0 0 2 msg.FreezeAck ∷
    sent 8 1 0 2 msg.FreezeAck ∷
    sent 9 0 0 2 msg.Pull ∷
    sent 10 0 1 2 msg.Pull ∷
    sent 11 0 0 2 (msg.PullReply 1 1 [] [] []) ∷
    sent 12 1 0 2 (msg.PullReply 1 1 [] [] []) ∷
    line.Noted 0 (note.Round 2 (0 ∷ 1 ∷ []) 1 1) ∷
    sent 13 0 0 2 (msg.Push (0 ∷ 1 ∷ []) [] [] []) ∷
    sent 14 0 1 2 (msg.Push (0 ∷ 1 ∷ []) [] [] []) ∷
    line.Noted 0 (note.Installed 2) ∷
    sent 15 0 0 2 msg.PushAck ∷
    line.Noted 1 (note.Installed 2) ∷
    sent 16 1 0 2 msg.PushAck ∷
    sent 17 0 0 2 msg.Thaw ∷
    sent 18 0 1 2 msg.Thaw ∷
    line.Noted 0 (note.Thawed 2) ∷
    line.Noted 1 (note.Thawed 2) ∷
    sent 19 1 0 2 (msg.Call 1 (codes "b") 1 kind.Lock) ∷
    sent 20 0 0 2 (msg.Recall 1 (codes "b") 0 1 1 kind.Lock) ∷
    sent 21 0 0 2 (msg.Give 1 (codes "b") 0 []) ∷
    sent 22 0 1 2 (msg.Pass 1 (codes "b") 1 0 []) ∷
    line.Answered 3 (answer.Locked []) ∷
    []
    )
