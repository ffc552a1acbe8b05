-- Deleted records are removed everywhere.
use Rattle.std.specs.Prelude.{[], ◌∷◌, codes}
use Rattle.ct_values.specs.Config.{lock_db}
use Rattle.ct_values.specs.declared.config.DbKind.TheVariants.{Volatile}
use Rattle.ct_values.specs.declared.client.Answer.TheVariants as answer
use Rattle.ct_values.specs.declared.client.ClientOp.TheVariants as op
use Rattle.ct_frame.specs.declared.event.Note.TheVariants as note
use Rattle.ct_frame.specs.declared.frame.CallKind.TheVariants as kind
use Rattle.ct_frame.specs.declared.frame.Msg.TheVariants as msg
use Rattle.ct_rules_worked.specs.Examples.{Prints, a_db, sent}
use Rattle.ct_rules_cluster.specs.declared.step.Line.TheVariants as line
use Rattle.ct_rules_cluster.specs.declared.step.Step.TheVariants as step

-- a deleted record is vacuumed in two phases, and can be locked anew
abbrev pub VacuumThenRecreate : Type 0
VacuumThenRecreate = Prints (record { nodes = 3; dbs = lock_db ∷ a_db (codes "t") Volatile ∷ []; addresses = [] }) (
    step.Client 0 (op.Lock 1 (codes "a")) ∷
    step.Deliver 1 ∷
    step.Deliver 2 ∷
    step.Deliver 3 ∷
    step.Deliver 4 ∷
    step.Client 0 (op.Store 1 (codes "a") (codes "x")) ∷
    step.Client 0 (op.Store 1 (codes "a") []) ∷
    step.Client 0 (op.Unlock 1 (codes "a")) ∷
    step.Vacuum 0 1 ∷
    step.Deliver 5 ∷
    step.Vacuum 1 1 ∷
    step.Deliver 6 ∷
    step.Deliver 7 ∷
    step.Deliver 8 ∷
    step.Deliver 9 ∷
    step.Deliver 10 ∷
    step.Deliver 11 ∷
    step.Deliver 12 ∷
    step.Deliver 13 ∷
    step.Client 1 (op.Lock 1 (codes "a")) ∷
    []
    ) (
    sent 1 0 1 1 (msg.Call 1 (codes "a") 1 kind.Lock) ∷
    sent 2 1 1 1 (msg.Recall 1 (codes "a") 0 0 1 kind.Lock) ∷
    sent 3 1 1 1 (msg.Give 1 (codes "a") 0 []) ∷
    sent 4 1 0 1 (msg.Pass 1 (codes "a") 1 0 []) ∷
    line.Answered 1 (answer.Locked []) ∷
    line.Answered 2 (answer.Stored) ∷
    line.Answered 3 (answer.Stored) ∷
    line.Answered 4 (answer.Unlocked) ∷
    sent 5 0 1 1 (msg.Give 1 (codes "a") 1 []) ∷
    sent 6 1 0 1 (msg.VStore 1 (codes "a") 2) ∷
    sent 7 1 2 1 (msg.VStore 1 (codes "a") 2) ∷
    sent 8 0 1 1 (msg.VStored 1 (codes "a") 2) ∷
    sent 9 2 1 1 (msg.VStored 1 (codes "a") 2) ∷
    sent 10 1 0 1 (msg.VDelete 1 (codes "a") 2) ∷
    sent 11 1 2 1 (msg.VDelete 1 (codes "a") 2) ∷
    sent 12 0 1 1 (msg.VDeleted 1 (codes "a") 2) ∷
    sent 13 2 1 1 (msg.VDeleted 1 (codes "a") 2) ∷
    line.Noted 1 (note.Vacuumed 1 (codes "a")) ∷
    line.Answered 5 (answer.Locked []) ∷
    []
    )

-- messages of before a vacuum that come again do not bring the old record back
abbrev pub GiveAfterVacuum : Type 0
GiveAfterVacuum = Prints (record { nodes = 3; dbs = lock_db ∷ a_db (codes "t") Volatile ∷ []; addresses = [] }) (
    step.Client 0 (op.Lock 1 (codes "a")) ∷
    step.Deliver 1 ∷
    step.Deliver 2 ∷
    step.Deliver 3 ∷
    step.Deliver 4 ∷
    step.Client 0 (op.Store 1 (codes "a") (codes "x")) ∷
    step.Client 0 (op.Store 1 (codes "a") []) ∷
    step.Client 0 (op.Unlock 1 (codes "a")) ∷
    step.Vacuum 0 1 ∷
    step.Deliver 5 ∷
    step.Vacuum 1 1 ∷
    step.Deliver 6 ∷
    step.Deliver 7 ∷
    step.Deliver 8 ∷
    step.Deliver 9 ∷
    step.Deliver 10 ∷
    step.Deliver 11 ∷
    step.Deliver 12 ∷
    step.Deliver 13 ∷
    step.Client 1 (op.Lock 1 (codes "a")) ∷
    step.Client 1 (op.Store 1 (codes "a") (codes "y")) ∷
    step.Repeat 3 ∷
    step.Repeat 5 ∷
    step.Client 1 (op.Unlock 1 (codes "a")) ∷
    step.Client 1 (op.Read 1 (codes "a")) ∷
    []
    ) (
    sent 1 0 1 1 (msg.Call 1 (codes "a") 1 kind.Lock) ∷
    sent 2 1 1 1 (msg.Recall 1 (codes "a") 0 0 1 kind.Lock) ∷
    sent 3 1 1 1 (msg.Give 1 (codes "a") 0 []) ∷
    sent 4 1 0 1 (msg.Pass 1 (codes "a") 1 0 []) ∷
    line.Answered 1 (answer.Locked []) ∷
    line.Answered 2 (answer.Stored) ∷
    line.Answered 3 (answer.Stored) ∷
    line.Answered 4 (answer.Unlocked) ∷
    sent 5 0 1 1 (msg.Give 1 (codes "a") 1 []) ∷
    sent 6 1 0 1 (msg.VStore 1 (codes "a") 2) ∷
    sent 7 1 2 1 (msg.VStore 1 (codes "a") 2) ∷
    sent 8 0 1 1 (msg.VStored 1 (codes "a") 2) ∷
    sent 9 2 1 1 (msg.VStored 1 (codes "a") 2) ∷
    sent 10 1 0 1 (msg.VDelete 1 (codes "a") 2) ∷
    sent 11 1 2 1 (msg.VDelete 1 (codes "a") 2) ∷
    sent 12 0 1 1 (msg.VDeleted 1 (codes "a") 2) ∷
    sent 13 2 1 1 (msg.VDeleted 1 (codes "a") 2) ∷
    line.Noted 1 (note.Vacuumed 1 (codes "a")) ∷
    line.Answered 5 (answer.Locked []) ∷
    line.Answered 6 (answer.Stored) ∷
    line.Answered 7 (answer.Unlocked) ∷
    line.Answered 8 (answer.Read (codes "y")) ∷
    []
    )

-- a vacuum that runs asks those again that are missing, and ends once
abbrev pub VacuumAsksAgain : Type 0
VacuumAsksAgain = Prints (record { nodes = 3; dbs = lock_db ∷ a_db (codes "t") Volatile ∷ []; addresses = [] }) (
    step.Client 0 (op.Lock 1 (codes "a")) ∷
    step.Deliver 1 ∷
    step.Deliver 2 ∷
    step.Deliver 3 ∷
    step.Deliver 4 ∷
    step.Client 0 (op.Store 1 (codes "a") (codes "x")) ∷
    step.Client 0 (op.Store 1 (codes "a") []) ∷
    step.Client 0 (op.Unlock 1 (codes "a")) ∷
    step.Vacuum 0 1 ∷
    step.Deliver 5 ∷
    step.Vacuum 1 1 ∷
    step.Drop 6 ∷
    step.Vacuum 1 1 ∷
    step.Deliver 7 ∷
    step.Deliver 8 ∷
    step.Deliver 9 ∷
    step.Deliver 10 ∷
    step.Deliver 11 ∷
    step.Deliver 12 ∷
    step.Deliver 13 ∷
    step.Deliver 14 ∷
    step.Deliver 15 ∷
    step.Deliver 16 ∷
    []
    ) (
    sent 1 0 1 1 (msg.Call 1 (codes "a") 1 kind.Lock) ∷
    sent 2 1 1 1 (msg.Recall 1 (codes "a") 0 0 1 kind.Lock) ∷
    sent 3 1 1 1 (msg.Give 1 (codes "a") 0 []) ∷
    sent 4 1 0 1 (msg.Pass 1 (codes "a") 1 0 []) ∷
    line.Answered 1 (answer.Locked []) ∷
    line.Answered 2 (answer.Stored) ∷
    line.Answered 3 (answer.Stored) ∷
    line.Answered 4 (answer.Unlocked) ∷
    sent 5 0 1 1 (msg.Give 1 (codes "a") 1 []) ∷
    sent 6 1 0 1 (msg.VStore 1 (codes "a") 2) ∷
    sent 7 1 2 1 (msg.VStore 1 (codes "a") 2) ∷
    sent 8 1 0 1 (msg.VStore 1 (codes "a") 2) ∷
    sent 9 1 2 1 (msg.VStore 1 (codes "a") 2) ∷
    sent 10 2 1 1 (msg.VStored 1 (codes "a") 2) ∷
    sent 11 0 1 1 (msg.VStored 1 (codes "a") 2) ∷
    sent 12 2 1 1 (msg.VStored 1 (codes "a") 2) ∷
    sent 13 1 0 1 (msg.VDelete 1 (codes "a") 2) ∷
    sent 14 1 2 1 (msg.VDelete 1 (codes "a") 2) ∷
    sent 15 0 1 1 (msg.VDeleted 1 (codes "a") 2) ∷
    sent 16 2 1 1 (msg.VDeleted 1 (codes "a") 2) ∷
    line.Noted 1 (note.Vacuumed 1 (codes "a")) ∷
    []
    )

-- a lock of the record ends its vacuum
abbrev pub LockEndsVacuum : Type 0
LockEndsVacuum = Prints (record { nodes = 3; dbs = lock_db ∷ a_db (codes "t") Volatile ∷ []; addresses = [] }) (
    step.Client 0 (op.Lock 1 (codes "a")) ∷
    step.Deliver 1 ∷
    step.Deliver 2 ∷
    step.Deliver 3 ∷
    step.Deliver 4 ∷
    step.Client 0 (op.Store 1 (codes "a") (codes "x")) ∷
    step.Client 0 (op.Store 1 (codes "a") []) ∷
    step.Client 0 (op.Unlock 1 (codes "a")) ∷
    step.Vacuum 0 1 ∷
    step.Deliver 5 ∷
    step.Vacuum 1 1 ∷
    step.Client 1 (op.Lock 1 (codes "a")) ∷
    step.Deliver 6 ∷
    step.Deliver 7 ∷
    step.Deliver 8 ∷
    step.Deliver 9 ∷
    []
    ) (
    sent 1 0 1 1 (msg.Call 1 (codes "a") 1 kind.Lock) ∷
    sent 2 1 1 1 (msg.Recall 1 (codes "a") 0 0 1 kind.Lock) ∷
    sent 3 1 1 1 (msg.Give 1 (codes "a") 0 []) ∷
    sent 4 1 0 1 (msg.Pass 1 (codes "a") 1 0 []) ∷
    line.Answered 1 (answer.Locked []) ∷
    line.Answered 2 (answer.Stored) ∷
    line.Answered 3 (answer.Stored) ∷
    line.Answered 4 (answer.Unlocked) ∷
    sent 5 0 1 1 (msg.Give 1 (codes "a") 1 []) ∷
    sent 6 1 0 1 (msg.VStore 1 (codes "a") 2) ∷
    sent 7 1 2 1 (msg.VStore 1 (codes "a") 2) ∷
    line.Answered 5 (answer.Locked []) ∷
    sent 8 0 1 1 (msg.VStored 1 (codes "a") 2) ∷
    sent 9 2 1 1 (msg.VStored 1 (codes "a") 2) ∷
    []
    )
