-- Copies for reading, and how they are called in.
use Rattle.std.specs.Prelude.{[], ◌∷◌, codes}
use Rattle.ct_values.specs.Config.{lock_db}
use Rattle.ct_values.specs.declared.config.DbKind.TheVariants.{ReadOnly}
use Rattle.ct_values.specs.declared.client.Answer.TheVariants as answer
use Rattle.ct_values.specs.declared.client.ClientOp.TheVariants as op
use Rattle.ct_frame.specs.declared.frame.CallKind.TheVariants as kind
use Rattle.ct_frame.specs.declared.frame.Msg.TheVariants as msg
use Rattle.ct_rules_worked.specs.Examples.{Prints, a_db, sent}
use Rattle.ct_rules_cluster.specs.declared.step.Line.TheVariants as line
use Rattle.ct_rules_cluster.specs.declared.step.Step.TheVariants as step

-- a read is answered by a copy, and the next one at once
abbrev pub CopyForReading : Type 0
CopyForReading = Prints (record { nodes = 2; dbs = lock_db ∷ a_db (codes "r") ReadOnly ∷ []; addresses = [] }) (
    step.Client 1 (op.Lock 1 (codes "a")) ∷
    step.Client 1 (op.Store 1 (codes "a") (codes "x")) ∷
    step.Client 1 (op.Unlock 1 (codes "a")) ∷
    step.Client 0 (op.Read 1 (codes "a")) ∷
    step.Deliver 1 ∷
    step.Deliver 2 ∷
    step.Deliver 3 ∷
    step.Deliver 4 ∷
    step.Client 0 (op.Read 1 (codes "a")) ∷
    []
    ) (
    line.Answered 1 (answer.Locked []) ∷
    line.Answered 2 (answer.Stored) ∷
    line.Answered 3 (answer.Unlocked) ∷
    sent 1 0 1 1 (msg.Call 1 (codes "a") 1 kind.Read) ∷
    sent 2 1 1 1 (msg.Recall 1 (codes "a") 0 0 1 kind.Read) ∷
    sent 3 1 0 1 (msg.Grant 1 (codes "a") 1 0 (codes "x")) ∷
    sent 4 1 1 1 (msg.Done 1 (codes "a") 0 1) ∷
    line.Answered 4 (answer.Read (codes "x")) ∷
    line.Answered 5 (answer.Read (codes "x")) ∷
    []
    )

-- a lock waits until every copy for reading is called in; a reader then asks anew
abbrev pub CopiesAreCalledIn : Type 0
CopiesAreCalledIn = Prints (record { nodes = 3; dbs = lock_db ∷ a_db (codes "r") ReadOnly ∷ []; addresses = [] }) (
    step.Client 1 (op.Lock 1 (codes "a")) ∷
    step.Client 1 (op.Store 1 (codes "a") (codes "x")) ∷
    step.Client 1 (op.Unlock 1 (codes "a")) ∷
    step.Client 0 (op.Read 1 (codes "a")) ∷
    step.Client 2 (op.Read 1 (codes "a")) ∷
    step.Deliver 1 ∷
    step.Deliver 2 ∷
    step.Deliver 3 ∷
    step.Deliver 4 ∷
    step.Deliver 5 ∷
    step.Deliver 6 ∷
    step.Deliver 7 ∷
    step.Deliver 8 ∷
    step.Client 1 (op.Lock 1 (codes "a")) ∷
    step.Deliver 9 ∷
    step.Client 0 (op.Read 1 (codes "a")) ∷
    step.Deliver 10 ∷
    step.Deliver 11 ∷
    step.Deliver 13 ∷
    step.Client 1 (op.Store 1 (codes "a") (codes "y")) ∷
    step.Client 1 (op.Unlock 1 (codes "a")) ∷
    step.Deliver 12 ∷
    step.Deliver 14 ∷
    step.Deliver 15 ∷
    step.Deliver 16 ∷
    []
    ) (
    line.Answered 1 (answer.Locked []) ∷
    line.Answered 2 (answer.Stored) ∷
    line.Answered 3 (answer.Unlocked) ∷
    sent 1 0 1 1 (msg.Call 1 (codes "a") 1 kind.Read) ∷
    sent 2 2 1 1 (msg.Call 1 (codes "a") 1 kind.Read) ∷
    sent 3 1 1 1 (msg.Recall 1 (codes "a") 0 0 1 kind.Read) ∷
    sent 4 1 0 1 (msg.Grant 1 (codes "a") 1 0 (codes "x")) ∷
    sent 5 1 1 1 (msg.Done 1 (codes "a") 0 1) ∷
    line.Answered 4 (answer.Read (codes "x")) ∷
    sent 6 1 1 1 (msg.Recall 1 (codes "a") 0 2 1 kind.Read) ∷
    sent 7 1 2 1 (msg.Grant 1 (codes "a") 1 0 (codes "x")) ∷
    sent 8 1 1 1 (msg.Done 1 (codes "a") 2 1) ∷
    line.Answered 5 (answer.Read (codes "x")) ∷
    sent 9 1 0 1 (msg.Revoke 1 (codes "a") 0) ∷
    sent 10 1 2 1 (msg.Revoke 1 (codes "a") 0) ∷
    sent 11 0 1 1 (msg.RevokeAck 1 (codes "a") 0) ∷
    sent 12 0 1 1 (msg.Call 1 (codes "a") 2 kind.Read) ∷
    sent 13 2 1 1 (msg.RevokeAck 1 (codes "a") 0) ∷
    line.Answered 6 (answer.Locked (codes "x")) ∷
    line.Answered 8 (answer.Stored) ∷
    line.Answered 9 (answer.Unlocked) ∷
    sent 14 1 1 1 (msg.Recall 1 (codes "a") 0 0 2 kind.Read) ∷
    sent 15 1 0 1 (msg.Grant 1 (codes "a") 2 1 (codes "y")) ∷
    sent 16 1 1 1 (msg.Done 1 (codes "a") 0 2) ∷
    line.Answered 7 (answer.Read (codes "y")) ∷
    []
    )

-- a grant that comes after the revocation it raced with is ignored
abbrev pub LateGrant : Type 0
LateGrant = Prints (record { nodes = 3; dbs = lock_db ∷ a_db (codes "r") ReadOnly ∷ []; addresses = [] }) (
    step.Client 1 (op.Lock 1 (codes "a")) ∷
    step.Client 1 (op.Store 1 (codes "a") (codes "x")) ∷
    step.Client 1 (op.Unlock 1 (codes "a")) ∷
    step.Client 0 (op.Read 1 (codes "a")) ∷
    step.Deliver 1 ∷
    step.Deliver 2 ∷
    step.Client 1 (op.Lock 1 (codes "a")) ∷
    step.Deliver 5 ∷
    step.Deliver 3 ∷
    step.Deliver 6 ∷
    []
    ) (
    line.Answered 1 (answer.Locked []) ∷
    line.Answered 2 (answer.Stored) ∷
    line.Answered 3 (answer.Unlocked) ∷
    sent 1 0 1 1 (msg.Call 1 (codes "a") 1 kind.Read) ∷
    sent 2 1 1 1 (msg.Recall 1 (codes "a") 0 0 1 kind.Read) ∷
    sent 3 1 0 1 (msg.Grant 1 (codes "a") 1 0 (codes "x")) ∷
    sent 4 1 1 1 (msg.Done 1 (codes "a") 0 1) ∷
    sent 5 1 0 1 (msg.Revoke 1 (codes "a") 0) ∷
    sent 6 0 1 1 (msg.RevokeAck 1 (codes "a") 0) ∷
    sent 7 0 1 1 (msg.Call 1 (codes "a") 2 kind.Read) ∷
    line.Answered 5 (answer.Locked (codes "x")) ∷
    []
    )

-- a write beside a copy for reading is made once that is called in, and who reads afterwards reads it
abbrev pub WriteCallsCopiesIn : Type 0
WriteCallsCopiesIn = Prints (record { nodes = 2; dbs = lock_db ∷ a_db (codes "t") ReadOnly ∷ []; addresses = [] }) (
    step.Client 0 (op.Write 1 (codes "b") (codes "x")) ∷
    step.Client 1 (op.Read 1 (codes "b")) ∷
    step.Deliver 1 ∷
    step.Deliver 2 ∷
    step.Deliver 3 ∷
    step.Deliver 4 ∷
    step.Client 0 (op.Write 1 (codes "b") (codes "y")) ∷
    step.Client 1 (op.Read 1 (codes "b")) ∷
    step.Deliver 5 ∷
    step.Deliver 6 ∷
    step.Client 1 (op.Read 1 (codes "b")) ∷
    step.Deliver 7 ∷
    step.Deliver 8 ∷
    step.Deliver 9 ∷
    step.Deliver 10 ∷
    []
    ) (
    line.Answered 1 answer.Written ∷
    sent 1 1 0 1 (msg.Call 1 (codes "b") 1 kind.Read) ∷
    sent 2 0 0 1 (msg.Recall 1 (codes "b") 0 1 1 kind.Read) ∷
    sent 3 0 1 1 (msg.Grant 1 (codes "b") 1 0 (codes "x")) ∷
    sent 4 0 0 1 (msg.Done 1 (codes "b") 1 1) ∷
    line.Answered 2 (answer.Read (codes "x")) ∷
    sent 5 0 1 1 (msg.Revoke 1 (codes "b") 0) ∷
    line.Answered 4 (answer.Read (codes "x")) ∷
    sent 6 1 0 1 (msg.RevokeAck 1 (codes "b") 0) ∷
    line.Answered 3 answer.Written ∷
    sent 7 1 0 1 (msg.Call 1 (codes "b") 2 kind.Read) ∷
    sent 8 0 0 1 (msg.Recall 1 (codes "b") 0 1 2 kind.Read) ∷
    sent 9 0 1 1 (msg.Grant 1 (codes "b") 2 1 (codes "y")) ∷
    sent 10 0 0 1 (msg.Done 1 (codes "b") 1 2) ∷
    line.Answered 5 (answer.Read (codes "y")) ∷
    []
    )
