-- Steps and calls that are refused, each by the first reason that holds.
use Rattle.std.specs.Prelude.{[], ◌∷◌, codes, Some, true}
use Rattle.ct_values.specs.Config.{lock_db}
use Rattle.ct_values.specs.declared.config.DbKind.TheVariants.{Volatile, Persistent}
use Rattle.ct_values.specs.declared.client.Answer.TheVariants as answer
use Rattle.ct_values.specs.declared.client.ClientOp.TheVariants as op
use Rattle.ct_values.specs.declared.client.Why.TheVariants as why
use Rattle.ct_frame.specs.declared.frame.CallKind.TheVariants as kind
use Rattle.ct_frame.specs.declared.frame.Msg.TheVariants as msg
use Rattle.ct_rules_worked.specs.Examples.{Prints, Refuses, a_db, sent}
use Rattle.ct_rules_cluster.specs.declared.step.Line.TheVariants as line
use Rattle.ct_rules_cluster.specs.declared.step.Step.TheVariants as step
use Rattle.ct_rules_cluster.specs.declared.step.StepFault.TheVariants as fault

-- a client is refused by the first reason that holds, and a call that waits ends with its node
abbrev pub RefusedCalls : Type 0
RefusedCalls = Prints (record { nodes = 2; dbs = lock_db ∷ a_db (codes "t") Volatile ∷ a_db (codes "p") Persistent ∷ []; addresses = [] }) (
    step.Client 1 (op.Lock 1 (codes "b")) ∷
    step.Client 1 (op.Lock 1 (codes "b")) ∷
    step.Client 1 (op.Store 1 (codes "b") (codes "x")) ∷
    step.Client 0 (op.Lock 1 (codes "b")) ∷
    step.Client 0 (op.Lock 1 (codes "b")) ∷
    step.Client 0 (op.Write 1 (codes "b") (codes "x")) ∷
    step.Client 0 (op.Read 4294967295 (codes "k")) ∷
    step.Client 0 (op.Lock 2 (codes "k")) ∷
    step.Client 0 (op.Commit 1 (record { key = codes "k"; value = codes "v" } ∷ [])) ∷
    step.Client 0 (op.Commit 2 (record { key = codes "k"; value = codes "v" } ∷ [])) ∷
    step.Client 0 (op.Apply 1 (codes "c") 9 (codes "x")) ∷
    step.Stop 1 ∷
    []
    ) (
    sent 1 1 0 1 (msg.Call 1 (codes "b") 1 kind.Lock) ∷
    line.Answered 2 (answer.Refused (why.CallPending 1)) ∷
    line.Answered 3 (answer.Refused why.NotLocked) ∷
    line.Answered 4 (answer.Locked []) ∷
    line.Answered 5 (answer.Refused why.AlreadyLocked) ∷
    line.Answered 6 (answer.Refused why.AlreadyLocked) ∷
    line.Answered 7 (answer.Refused why.NoSuchDb) ∷
    line.Answered 8 (answer.Refused why.WrongKind) ∷
    line.Answered 9 (answer.Refused why.WrongKind) ∷
    line.Answered 10 (answer.Refused why.NotLocked) ∷
    line.Answered 11 (answer.Refused why.NoSuchCall) ∷
    line.Stopped 1 ∷
    line.Gone 1 ∷
    []
    )

-- of each kind of step the refusals, in their order: the first that holds is told
abbrev pub RefusedSteps : Type 0
RefusedSteps = Refuses (record { nodes = 3; dbs = lock_db ∷ a_db (codes "t") Volatile ∷ a_db (codes "p") Persistent ∷ []; addresses = [] }) (
    step.Client 1 (op.Lock 1 (codes "b")) ∷
    step.Stop 1 ∷
    step.Recover 2 (0 ∷ 2 ∷ []) ∷
    step.Deliver 2 ∷
    []
    ) (
    (step.Client 5 (op.Read 1 (codes "b")), fault.NoSuchNode 5) ∷
    (step.Client 1 (op.Read 1 (codes "b")), fault.NodeDown 1) ∷
    (step.Deliver 2, fault.NoSuchFrame 2) ∷
    (step.Deliver 9, fault.NoSuchFrame 9) ∷
    (step.Drop 2, fault.NoSuchFrame 2) ∷
    (step.Repeat 1, fault.NoSuchFrame 1) ∷
    (step.Retry 5, fault.NoSuchNode 5) ∷
    (step.Retry 1, fault.NodeDown 1) ∷
    (step.Vacuum 5 9, fault.NoSuchNode 5) ∷
    (step.Vacuum 1 9, fault.NodeDown 1) ∷
    (step.Vacuum 0 9, fault.NoSuchDb 9) ∷
    (step.Vacuum 0 2, fault.WrongKind 2) ∷
    (step.Vacuum 0 1, fault.NotServing 0) ∷
    (step.Recover 5 (0 ∷ []), fault.NoSuchNode 5) ∷
    (step.Recover 0 (5 ∷ []), fault.NoSuchNode 5) ∷
    (step.Recover 1 (0 ∷ []), fault.NodeDown 1) ∷
    (step.Recover 0 (2 ∷ []), fault.NotMember 0) ∷
    (step.Recover 0 (0 ∷ []), fault.LockHeld 2) ∷
    (step.Yield 5, fault.NoSuchNode 5) ∷
    (step.Yield 1, fault.NodeDown 1) ∷
    (step.Yield 0, fault.NotHolder (Some 2)) ∷
    (step.Stop 5, fault.NoSuchNode 5) ∷
    (step.Stop 1, fault.NodeDown 1) ∷
    (step.Start 5, fault.NoSuchNode 5) ∷
    (step.Start 0, fault.NodeUp 0) ∷
    (step.Takeover 5, fault.NoSuchNode 5) ∷
    (step.Takeover 1, fault.NodeDown 1) ∷
    (step.Takeover 0, fault.NotServing 0) ∷
    (step.Takeover 2, fault.NotLeader 2) ∷
    (step.Able 5 true, fault.NoSuchNode 5) ∷
    []
    )
