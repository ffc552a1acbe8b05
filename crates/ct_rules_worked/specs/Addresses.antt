-- Public addresses.
use Rattle.std.specs.Prelude.{true, false, [], ◌∷◌, codes, Some}
use Rattle.ct_values.specs.declared.address.Address.TheVariants.{V4}
use Rattle.ct_values.specs.Config.{lock_db}
use Rattle.ct_values.specs.declared.config.DbKind.TheVariants.{Volatile, Persistent}
use Rattle.ct_values.specs.declared.client.Answer.TheVariants as answer
use Rattle.ct_values.specs.declared.client.ClientOp.TheVariants as op
use Rattle.ct_frame.specs.declared.event.Note.TheVariants as note
use Rattle.ct_frame.specs.declared.frame.CallKind.TheVariants as kind
use Rattle.ct_frame.specs.declared.frame.Msg.TheVariants as msg
use Rattle.ct_rules_worked.specs.Examples.{Prints, a_db, sent}
use Rattle.ct_rules_cluster.specs.declared.step.Line.TheVariants as line
use Rattle.ct_rules_cluster.specs.declared.step.Step.TheVariants as step

-- addresses are placed and taken after a round
abbrev pub Takeover : Type 0
Takeover = Prints (record { nodes = 2; dbs = lock_db ∷ []; addresses = V4 167772161 ∷ V4 167772162 ∷ [] }) (
    step.Recover 0 (0 ∷ 1 ∷ []) ∷
    step.Deliver 1 ∷
    step.Deliver 2 ∷
    step.Deliver 3 ∷
    step.Deliver 4 ∷
    step.Deliver 5 ∷
    step.Deliver 6 ∷
    step.Deliver 7 ∷
    step.Deliver 8 ∷
    step.Deliver 9 ∷
    step.Deliver 10 ∷
    step.Deliver 11 ∷
    step.Deliver 12 ∷
    step.Deliver 13 ∷
    step.Deliver 14 ∷
    step.Takeover 0 ∷
    step.Deliver 15 ∷
    step.Deliver 16 ∷
    step.Deliver 17 ∷
    step.Deliver 18 ∷
    step.Deliver 19 ∷
    step.Deliver 20 ∷
    []
    ) (
    line.Ticket 2 0 ∷
    sent 1 0 0 2 (msg.Freeze (0 ∷ 1 ∷ [])) ∷
    sent 2 0 1 2 (msg.Freeze (0 ∷ 1 ∷ [])) ∷
    sent 3 0 0 2 msg.FreezeAck ∷
    sent 4 1 0 2 msg.FreezeAck ∷
    sent 5 0 0 2 msg.Pull ∷
    sent 6 0 1 2 msg.Pull ∷
    sent 7 0 0 2 (msg.PullReply 1 1 [] [] []) ∷
    sent 8 1 0 2 (msg.PullReply 1 1 [] [] []) ∷
    line.Noted 0 (note.Round 2 (0 ∷ 1 ∷ []) 1 1) ∷
    sent 9 0 0 2 (msg.Push (0 ∷ 1 ∷ []) [] [] []) ∷
    sent 10 0 1 2 (msg.Push (0 ∷ 1 ∷ []) [] [] []) ∷
    line.Noted 0 (note.Installed 2) ∷
    sent 11 0 0 2 msg.PushAck ∷
    line.Noted 1 (note.Installed 2) ∷
    sent 12 1 0 2 msg.PushAck ∷
    sent 13 0 0 2 msg.Thaw ∷
    sent 14 0 1 2 msg.Thaw ∷
    line.Noted 0 (note.Thawed 2) ∷
    line.Noted 1 (note.Thawed 2) ∷
    sent 15 0 0 2 (msg.Release 1 (V4 167772161 ∷ [])) ∷
    sent 16 0 1 2 (msg.Release 1 (V4 167772162 ∷ [])) ∷
    sent 17 0 0 2 (msg.ReleaseAck 1) ∷
    sent 18 1 0 2 (msg.ReleaseAck 1) ∷
    sent 19 0 0 2 (msg.Take 1 (record { address = V4 167772161; node = Some 0 } ∷ record { address = V4 167772162; node = Some 1 } ∷ [])) ∷
    sent 20 0 1 2 (msg.Take 1 (record { address = V4 167772161; node = Some 0 } ∷ record { address = V4 167772162; node = Some 1 } ∷ [])) ∷
    line.Noted 0 (note.Took (V4 167772161)) ∷
    line.Noted 1 (note.Took (V4 167772162)) ∷
    []
    )

-- an address leaves a node that is not able; once that is able again, another one moves to it
abbrev pub Failback : Type 0
Failback = Prints (record { nodes = 2; dbs = lock_db ∷ []; addresses = V4 167772161 ∷ V4 167772162 ∷ [] }) (
    step.Recover 0 (0 ∷ 1 ∷ []) ∷
    step.Deliver 1 ∷
    step.Deliver 2 ∷
    step.Deliver 3 ∷
    step.Deliver 4 ∷
    step.Deliver 5 ∷
    step.Deliver 6 ∷
    step.Deliver 7 ∷
    step.Deliver 8 ∷
    step.Deliver 9 ∷
    step.Deliver 10 ∷
    step.Deliver 11 ∷
    step.Deliver 12 ∷
    step.Deliver 13 ∷
    step.Deliver 14 ∷
    step.Takeover 0 ∷
    step.Deliver 15 ∷
    step.Deliver 16 ∷
    step.Deliver 17 ∷
    step.Deliver 18 ∷
    step.Deliver 19 ∷
    step.Deliver 20 ∷
    step.Able 1 false ∷
    step.Takeover 0 ∷
    step.Deliver 21 ∷
    step.Deliver 22 ∷
    step.Deliver 23 ∷
    step.Deliver 24 ∷
    step.Deliver 25 ∷
    step.Deliver 26 ∷
    step.Able 1 true ∷
    step.Takeover 0 ∷
    step.Deliver 27 ∷
    step.Deliver 28 ∷
    step.Deliver 29 ∷
    step.Deliver 30 ∷
    step.Deliver 31 ∷
    step.Deliver 32 ∷
    []
    ) (
    line.Ticket 2 0 ∷
    sent 1 0 0 2 (msg.Freeze (0 ∷ 1 ∷ [])) ∷
    sent 2 0 1 2 (msg.Freeze (0 ∷ 1 ∷ [])) ∷
    sent 3 0 0 2 msg.FreezeAck ∷
    sent 4 1 0 2 msg.FreezeAck ∷
    sent 5 0 0 2 msg.Pull ∷
    sent 6 0 1 2 msg.Pull ∷
    sent 7 0 0 2 (msg.PullReply 1 1 [] [] []) ∷
    sent 8 1 0 2 (msg.PullReply 1 1 [] [] []) ∷
    line.Noted 0 (note.Round 2 (0 ∷ 1 ∷ []) 1 1) ∷
    sent 9 0 0 2 (msg.Push (0 ∷ 1 ∷ []) [] [] []) ∷
    sent 10 0 1 2 (msg.Push (0 ∷ 1 ∷ []) [] [] []) ∷
    line.Noted 0 (note.Installed 2) ∷
    sent 11 0 0 2 msg.PushAck ∷
    line.Noted 1 (note.Installed 2) ∷
    sent 12 1 0 2 msg.PushAck ∷
    sent 13 0 0 2 msg.Thaw ∷
    sent 14 0 1 2 msg.Thaw ∷
    line.Noted 0 (note.Thawed 2) ∷
    line.Noted 1 (note.Thawed 2) ∷
    sent 15 0 0 2 (msg.Release 1 (V4 167772161 ∷ [])) ∷
    sent 16 0 1 2 (msg.Release 1 (V4 167772162 ∷ [])) ∷
    sent 17 0 0 2 (msg.ReleaseAck 1) ∷
    sent 18 1 0 2 (msg.ReleaseAck 1) ∷
    sent 19 0 0 2 (msg.Take 1 (record { address = V4 167772161; node = Some 0 } ∷ record { address = V4 167772162; node = Some 1 } ∷ [])) ∷
    sent 20 0 1 2 (msg.Take 1 (record { address = V4 167772161; node = Some 0 } ∷ record { address = V4 167772162; node = Some 1 } ∷ [])) ∷
    line.Noted 0 (note.Took (V4 167772161)) ∷
    line.Noted 1 (note.Took (V4 167772162)) ∷
    sent 21 0 0 2 (msg.Release 2 (V4 167772161 ∷ V4 167772162 ∷ [])) ∷
    sent 22 0 1 2 (msg.Release 2 []) ∷
    sent 23 0 0 2 (msg.ReleaseAck 2) ∷
    line.Noted 1 (note.Released (V4 167772162)) ∷
    sent 24 1 0 2 (msg.ReleaseAck 2) ∷
    sent 25 0 0 2 (msg.Take 2 (record { address = V4 167772161; node = Some 0 } ∷ record { address = V4 167772162; node = Some 0 } ∷ [])) ∷
    sent 26 0 1 2 (msg.Take 2 (record { address = V4 167772161; node = Some 0 } ∷ record { address = V4 167772162; node = Some 0 } ∷ [])) ∷
    line.Noted 0 (note.Took (V4 167772162)) ∷
    sent 27 0 0 2 (msg.Release 3 (V4 167772162 ∷ [])) ∷
    sent 28 0 1 2 (msg.Release 3 (V4 167772161 ∷ [])) ∷
    line.Noted 0 (note.Released (V4 167772161)) ∷
    sent 29 0 0 2 (msg.ReleaseAck 3) ∷
    sent 30 1 0 2 (msg.ReleaseAck 3) ∷
    sent 31 0 0 2 (msg.Take 3 (record { address = V4 167772161; node = Some 1 } ∷ record { address = V4 167772162; node = Some 0 } ∷ [])) ∷
    sent 32 0 1 2 (msg.Take 3 (record { address = V4 167772161; node = Some 1 } ∷ record { address = V4 167772162; node = Some 0 } ∷ [])) ∷
    line.Noted 1 (note.Took (V4 167772161)) ∷
    []
    )

-- a session with a round, a takeover, a commit, a write and reads
abbrev pub Session : Type 0
Session = Prints (record { nodes = 3; dbs = lock_db ∷ a_db (codes "locking.tdb") Volatile ∷ a_db (codes "secrets.tdb") Persistent ∷ []; addresses = V4 167772161 ∷ V4 167772162 ∷ V4 167772163 ∷ [] }) (
    step.Recover 0 (0 ∷ 1 ∷ 2 ∷ []) ∷
    step.Deliver 1 ∷
    step.Deliver 2 ∷
    step.Deliver 3 ∷
    step.Deliver 4 ∷
    step.Deliver 5 ∷
    step.Deliver 6 ∷
    step.Deliver 7 ∷
    step.Deliver 8 ∷
    step.Deliver 9 ∷
    step.Deliver 10 ∷
    step.Deliver 11 ∷
    step.Deliver 12 ∷
    step.Deliver 13 ∷
    step.Deliver 14 ∷
    step.Deliver 15 ∷
    step.Deliver 16 ∷
    step.Deliver 17 ∷
    step.Deliver 18 ∷
    step.Deliver 19 ∷
    step.Deliver 20 ∷
    step.Deliver 21 ∷
    step.Takeover 0 ∷
    step.Deliver 22 ∷
    step.Deliver 23 ∷
    step.Deliver 24 ∷
    step.Deliver 25 ∷
    step.Deliver 26 ∷
    step.Deliver 27 ∷
    step.Deliver 28 ∷
    step.Deliver 29 ∷
    step.Deliver 30 ∷
    step.Client 2 (op.Lock 0 (codes "secrets.tdb")) ∷
    step.Client 2 (op.Commit 2 (record { key = codes "SID"; value = codes "S-1-5" } ∷ [])) ∷
    step.Deliver 31 ∷
    step.Deliver 32 ∷
    step.Deliver 33 ∷
    step.Deliver 34 ∷
    step.Client 2 (op.Unlock 0 (codes "secrets.tdb")) ∷
    step.Client 1 (op.Write 1 (codes "file1") (codes "open")) ∷
    step.Deliver 35 ∷
    step.Deliver 36 ∷
    step.Deliver 37 ∷
    step.Deliver 38 ∷
    step.Client 0 (op.Read 1 (codes "file1")) ∷
    step.Deliver 39 ∷
    step.Deliver 40 ∷
    step.Deliver 41 ∷
    step.Deliver 42 ∷
    step.Client 0 (op.Read 2 (codes "SID")) ∷
    []
    ) (
    line.Ticket 2 0 ∷
    sent 1 0 0 2 (msg.Freeze (0 ∷ 1 ∷ 2 ∷ [])) ∷
    sent 2 0 1 2 (msg.Freeze (0 ∷ 1 ∷ 2 ∷ [])) ∷
    sent 3 0 2 2 (msg.Freeze (0 ∷ 1 ∷ 2 ∷ [])) ∷
    sent 4 0 0 2 msg.FreezeAck ∷
    sent 5 1 0 2 msg.FreezeAck ∷
    sent 6 2 0 2 msg.FreezeAck ∷
    sent 7 0 0 2 msg.Pull ∷
    sent 8 0 1 2 msg.Pull ∷
    sent 9 0 2 2 msg.Pull ∷
    sent 10 0 0 2 (msg.PullReply 1 1 [] (record { db = 2; seq = 0; pairs = [] } ∷ []) []) ∷
    sent 11 1 0 2 (msg.PullReply 1 1 [] (record { db = 2; seq = 0; pairs = [] } ∷ []) []) ∷
    sent 12 2 0 2 (msg.PullReply 1 1 [] (record { db = 2; seq = 0; pairs = [] } ∷ []) []) ∷
    line.Noted 0 (note.Round 2 (0 ∷ 1 ∷ 2 ∷ []) 1 1) ∷
    sent 13 0 0 2 (msg.Push (0 ∷ 1 ∷ 2 ∷ []) [] (record { db = 2; seq = 0; pairs = [] } ∷ []) []) ∷
    sent 14 0 1 2 (msg.Push (0 ∷ 1 ∷ 2 ∷ []) [] (record { db = 2; seq = 0; pairs = [] } ∷ []) []) ∷
    sent 15 0 2 2 (msg.Push (0 ∷ 1 ∷ 2 ∷ []) [] (record { db = 2; seq = 0; pairs = [] } ∷ []) []) ∷
    line.Noted 0 (note.Installed 2) ∷
    sent 16 0 0 2 msg.PushAck ∷
    line.Noted 1 (note.Installed 2) ∷
    sent 17 1 0 2 msg.PushAck ∷
    line.Noted 2 (note.Installed 2) ∷
    sent 18 2 0 2 msg.PushAck ∷
    sent 19 0 0 2 msg.Thaw ∷
    sent 20 0 1 2 msg.Thaw ∷
    sent 21 0 2 2 msg.Thaw ∷
    line.Noted 0 (note.Thawed 2) ∷
    line.Noted 1 (note.Thawed 2) ∷
    line.Noted 2 (note.Thawed 2) ∷
    sent 22 0 0 2 (msg.Release 1 (V4 167772161 ∷ [])) ∷
    sent 23 0 1 2 (msg.Release 1 (V4 167772162 ∷ [])) ∷
    sent 24 0 2 2 (msg.Release 1 (V4 167772163 ∷ [])) ∷
    sent 25 0 0 2 (msg.ReleaseAck 1) ∷
    sent 26 1 0 2 (msg.ReleaseAck 1) ∷
    sent 27 2 0 2 (msg.ReleaseAck 1) ∷
    sent 28 0 0 2 (msg.Take 1 (record { address = V4 167772161; node = Some 0 } ∷ record { address = V4 167772162; node = Some 1 } ∷ record { address = V4 167772163; node = Some 2 } ∷ [])) ∷
    sent 29 0 1 2 (msg.Take 1 (record { address = V4 167772161; node = Some 0 } ∷ record { address = V4 167772162; node = Some 1 } ∷ record { address = V4 167772163; node = Some 2 } ∷ [])) ∷
    sent 30 0 2 2 (msg.Take 1 (record { address = V4 167772161; node = Some 0 } ∷ record { address = V4 167772162; node = Some 1 } ∷ record { address = V4 167772163; node = Some 2 } ∷ [])) ∷
    line.Noted 0 (note.Took (V4 167772161)) ∷
    line.Noted 1 (note.Took (V4 167772162)) ∷
    line.Noted 2 (note.Took (V4 167772163)) ∷
    line.Answered 1 (answer.Locked []) ∷
    sent 31 2 0 2 (msg.PUpdate 2 1 (record { key = codes "SID"; value = codes "S-1-5" } ∷ [])) ∷
    sent 32 2 1 2 (msg.PUpdate 2 1 (record { key = codes "SID"; value = codes "S-1-5" } ∷ [])) ∷
    sent 33 0 2 2 (msg.PAck 2 1) ∷
    sent 34 1 2 2 (msg.PAck 2 1) ∷
    line.Answered 2 (answer.Committed 1) ∷
    line.Answered 3 (answer.Unlocked) ∷
    sent 35 1 2 2 (msg.Call 1 (codes "file1") 1 kind.Lock) ∷
    sent 36 2 2 2 (msg.Recall 1 (codes "file1") 0 1 1 kind.Lock) ∷
    sent 37 2 2 2 (msg.Give 1 (codes "file1") 0 []) ∷
    sent 38 2 1 2 (msg.Pass 1 (codes "file1") 1 0 []) ∷
    line.Answered 4 (answer.Written) ∷
    sent 39 0 2 2 (msg.Call 1 (codes "file1") 1 kind.Lock) ∷
    sent 40 2 1 2 (msg.Recall 1 (codes "file1") 1 0 1 kind.Lock) ∷
    sent 41 1 2 2 (msg.Give 1 (codes "file1") 1 (codes "open")) ∷
    sent 42 2 0 2 (msg.Pass 1 (codes "file1") 1 1 (codes "open")) ∷
    line.Answered 5 (answer.Read (codes "open")) ∷
    line.Answered 6 (answer.Read (codes "S-1-5")) ∷
    []
    )
