-- Records that move between nodes, with the messages that bring them.
use Rattle.std.specs.Prelude.{[], ◌∷◌, codes}
use Rattle.ct_values.specs.Config.{lock_db}
use Rattle.ct_values.specs.declared.config.DbKind.TheVariants.{Volatile}
use Rattle.ct_values.specs.declared.client.Answer.TheVariants as answer
use Rattle.ct_values.specs.declared.client.ClientOp.TheVariants as op
use Rattle.ct_values.specs.declared.client.Why.TheVariants as why
use Rattle.ct_frame.specs.declared.frame.CallKind.TheVariants as kind
use Rattle.ct_frame.specs.declared.frame.Msg.TheVariants as msg
use Rattle.ct_rules_worked.specs.Examples.{Prints, a_db, sent}
use Rattle.ct_rules_cluster.specs.declared.step.Line.TheVariants as line
use Rattle.ct_rules_cluster.specs.declared.step.Step.TheVariants as step

-- on one node a client locks, stores, unlocks and reads
abbrev pub LockOnOneNode : Type 0
LockOnOneNode = Prints (record { nodes = 1; dbs = lock_db ∷ a_db (codes "t") Volatile ∷ []; addresses = [] }) (
    step.Client 0 (op.Lock 1 (codes "k")) ∷
    step.Client 0 (op.Store 1 (codes "k") (codes "v1")) ∷
    step.Client 0 (op.Unlock 1 (codes "k")) ∷
    step.Client 0 (op.Read 1 (codes "k")) ∷
    []
    ) (
    line.Answered 1 (answer.Locked []) ∷
    line.Answered 2 (answer.Stored) ∷
    line.Answered 3 (answer.Unlocked) ∷
    line.Answered 4 (answer.Read (codes "v1")) ∷
    []
    )

-- a lock at a node that is not the location master is answered after four messages
abbrev pub FirstLock : Type 0
FirstLock = Prints (record { nodes = 2; dbs = lock_db ∷ a_db (codes "t") Volatile ∷ []; addresses = [] }) (
    step.Client 1 (op.Lock 1 (codes "b")) ∷
    step.Deliver 1 ∷
    step.Deliver 2 ∷
    step.Deliver 3 ∷
    step.Deliver 4 ∷
    []
    ) (
    sent 1 1 0 1 (msg.Call 1 (codes "b") 1 kind.Lock) ∷
    sent 2 0 0 1 (msg.Recall 1 (codes "b") 0 1 1 kind.Lock) ∷
    sent 3 0 0 1 (msg.Give 1 (codes "b") 0 []) ∷
    sent 4 0 1 1 (msg.Pass 1 (codes "b") 1 0 []) ∷
    line.Answered 1 (answer.Locked []) ∷
    []
    )

-- a record moves from the node that locked it to the next one that wants it, under the next RSN
abbrev pub RecordMoves : Type 0
RecordMoves = Prints (record { nodes = 3; dbs = lock_db ∷ a_db (codes "t") Volatile ∷ []; addresses = [] }) (
    step.Client 0 (op.Lock 1 (codes "a")) ∷
    step.Deliver 1 ∷
    step.Deliver 2 ∷
    step.Deliver 3 ∷
    step.Deliver 4 ∷
    step.Client 0 (op.Store 1 (codes "a") (codes "x")) ∷
    step.Client 0 (op.Unlock 1 (codes "a")) ∷
    step.Client 2 (op.Lock 1 (codes "a")) ∷
    step.Deliver 5 ∷
    step.Deliver 6 ∷
    step.Deliver 7 ∷
    step.Deliver 8 ∷
    []
    ) (
    sent 1 0 1 1 (msg.Call 1 (codes "a") 1 kind.Lock) ∷
    sent 2 1 1 1 (msg.Recall 1 (codes "a") 0 0 1 kind.Lock) ∷
    sent 3 1 1 1 (msg.Give 1 (codes "a") 0 []) ∷
    sent 4 1 0 1 (msg.Pass 1 (codes "a") 1 0 []) ∷
    line.Answered 1 (answer.Locked []) ∷
    line.Answered 2 (answer.Stored) ∷
    line.Answered 3 (answer.Unlocked) ∷
    sent 5 2 1 1 (msg.Call 1 (codes "a") 1 kind.Lock) ∷
    sent 6 1 0 1 (msg.Recall 1 (codes "a") 1 2 1 kind.Lock) ∷
    sent 7 0 1 1 (msg.Give 1 (codes "a") 1 (codes "x")) ∷
    sent 8 1 2 1 (msg.Pass 1 (codes "a") 1 1 (codes "x")) ∷
    line.Answered 4 (answer.Locked (codes "x")) ∷
    []
    )

-- a pass that comes again changes nothing, and a record that nobody wishes for any more is refused
abbrev pub RepeatedPass : Type 0
RepeatedPass = Prints (record { nodes = 3; dbs = lock_db ∷ a_db (codes "t") Volatile ∷ []; addresses = [] }) (
    step.Client 0 (op.Lock 1 (codes "a")) ∷
    step.Deliver 1 ∷
    step.Deliver 2 ∷
    step.Deliver 3 ∷
    step.Deliver 4 ∷
    step.Client 0 (op.Store 1 (codes "a") (codes "x")) ∷
    step.Client 0 (op.Unlock 1 (codes "a")) ∷
    step.Client 2 (op.Lock 1 (codes "a")) ∷
    step.Deliver 5 ∷
    step.Deliver 6 ∷
    step.Deliver 7 ∷
    step.Deliver 8 ∷
    step.Repeat 4 ∷
    step.Client 2 (op.Unlock 1 (codes "a")) ∷
    step.Repeat 1 ∷
    step.Deliver 9 ∷
    step.Deliver 10 ∷
    step.Deliver 11 ∷
    step.Deliver 12 ∷
    []
    ) (
    sent 1 0 1 1 (msg.Call 1 (codes "a") 1 kind.Lock) ∷
    sent 2 1 1 1 (msg.Recall 1 (codes "a") 0 0 1 kind.Lock) ∷
    sent 3 1 1 1 (msg.Give 1 (codes "a") 0 []) ∷
    sent 4 1 0 1 (msg.Pass 1 (codes "a") 1 0 []) ∷
    line.Answered 1 (answer.Locked []) ∷
    line.Answered 2 (answer.Stored) ∷
    line.Answered 3 (answer.Unlocked) ∷
    sent 5 2 1 1 (msg.Call 1 (codes "a") 1 kind.Lock) ∷
    sent 6 1 0 1 (msg.Recall 1 (codes "a") 1 2 1 kind.Lock) ∷
    sent 7 0 1 1 (msg.Give 1 (codes "a") 1 (codes "x")) ∷
    sent 8 1 2 1 (msg.Pass 1 (codes "a") 1 1 (codes "x")) ∷
    line.Answered 4 (answer.Locked (codes "x")) ∷
    line.Answered 5 (answer.Unlocked) ∷
    sent 9 1 2 1 (msg.Recall 1 (codes "a") 2 0 1 kind.Lock) ∷
    sent 10 2 1 1 (msg.Give 1 (codes "a") 2 (codes "x")) ∷
    sent 11 1 0 1 (msg.Pass 1 (codes "a") 1 2 (codes "x")) ∷
    sent 12 0 1 1 (msg.Refuse 1 (codes "a") 1 2) ∷
    []
    )

-- a pass that is lost is sent again once the call is
abbrev pub LostPass : Type 0
LostPass = Prints (record { nodes = 2; dbs = lock_db ∷ a_db (codes "t") Volatile ∷ []; addresses = [] }) (
    step.Client 1 (op.Lock 1 (codes "b")) ∷
    step.Deliver 1 ∷
    step.Deliver 2 ∷
    step.Drop 3 ∷
    step.Retry 1 ∷
    step.Deliver 4 ∷
    step.Deliver 5 ∷
    step.Deliver 6 ∷
    step.Deliver 7 ∷
    []
    ) (
    sent 1 1 0 1 (msg.Call 1 (codes "b") 1 kind.Lock) ∷
    sent 2 0 0 1 (msg.Recall 1 (codes "b") 0 1 1 kind.Lock) ∷
    sent 3 0 0 1 (msg.Give 1 (codes "b") 0 []) ∷
    sent 4 1 0 1 (msg.Call 1 (codes "b") 1 kind.Lock) ∷
    sent 5 0 0 1 (msg.Recall 1 (codes "b") 0 1 1 kind.Lock) ∷
    sent 6 0 0 1 (msg.Give 1 (codes "b") 0 []) ∷
    sent 7 0 1 1 (msg.Pass 1 (codes "b") 1 0 []) ∷
    line.Answered 1 (answer.Locked []) ∷
    []
    )

-- a function that no table has is refused, and one that a table has is applied
abbrev pub Functions : Type 0
Functions = Prints (record { nodes = 2; dbs = lock_db ∷ a_db (codes "t") Volatile ∷ []; addresses = [] }) (
    step.Client 1 (op.Apply 1 (codes "b") 9 (codes "x")) ∷
    step.Client 1 (op.Apply 1 (codes "b") 1 (codes "x")) ∷
    step.Deliver 1 ∷
    step.Deliver 2 ∷
    step.Deliver 3 ∷
    step.Deliver 4 ∷
    step.Repeat 1 ∷
    step.Deliver 5 ∷
    step.Client 1 (op.Read 1 (codes "b")) ∷
    []
    ) (
    line.Answered 1 (answer.Refused why.NoSuchCall) ∷
    sent 1 1 0 1 (msg.Call 1 (codes "b") 1 kind.Lock) ∷
    sent 2 0 0 1 (msg.Recall 1 (codes "b") 0 1 1 kind.Lock) ∷
    sent 3 0 0 1 (msg.Give 1 (codes "b") 0 []) ∷
    sent 4 0 1 1 (msg.Pass 1 (codes "b") 1 0 []) ∷
    line.Answered 2 (answer.Applied (codes "x")) ∷
    sent 5 0 1 1 (msg.Pass 1 (codes "b") 1 0 []) ∷
    line.Answered 3 (answer.Read (codes "x")) ∷
    []
    )
