-- Journals that are worked out: of two nodes, each client of which writes the same record once.
use Rattle.std.specs.Prelude.{ℕ, List, [], ◌∷◌, codes}
use Rattle.ct_values.specs.Config.{lock_db}
use Rattle.ct_values.specs.declared.config.Config.{Config}
use Rattle.ct_values.specs.declared.config.DbKind.TheVariants.{Volatile}
use Rattle.ct_values.specs.declared.client.Answer.TheVariants as answer
use Rattle.ct_values.specs.declared.client.ClientOp.TheVariants as op
use Rattle.ct_frame.specs.declared.event.Event.{Event}
use Rattle.ct_frame.specs.declared.event.Event.TheVariants as event
use Rattle.ct_frame.specs.declared.event.Out.{Out}
use Rattle.ct_frame.specs.declared.event.Out.TheVariants as out
use Rattle.ct_frame.specs.declared.frame.CallKind.TheVariants as kind
use Rattle.ct_frame.specs.declared.frame.Frame.{Frame}
use Rattle.ct_frame.specs.declared.frame.Msg.{Msg}
use Rattle.ct_frame.specs.declared.frame.Msg.TheVariants as msg
use Rattle.ct_rules_node.specs.Node.{Node}
use Rattle.ct_rules_cluster.specs.declared.step.Step.{Step}
use Rattle.ct_rules_cluster.specs.declared.step.Step.TheVariants as step
use Rattle.ct_journal.specs.Order.{AreInOrder}
use Rattle.ct_journal.specs.Runs.{RunsTo}
use Rattle.ct_journal.specs.Schedules.{IsSchedule}
use Rattle.ct_journal.specs.declared.journal.Journal.{Journal}
use Rattle.ct_journal.specs.declared.journal.JournalEntry.{JournalEntry}

-- two nodes with a volatile database t, as number 1
abbrev pub pair_config : Config
pair_config = record { nodes = 2; dbs = lock_db ∷ record { name = codes "t"; kind = Volatile } ∷ []; addresses = [] }

-- a message from one node to another in generation 1
abbrev pub told : ℕ → ℕ → Msg → Frame
told sender receiver m = record { generation = 1; sender = sender; receiver = receiver; msg = m }

-- node 1 asks node 0, which knows where the record is, for it
abbrev pub asks : Frame
asks = told 1 0 (msg.Call 1 (codes "b") 1 kind.Lock)

-- node 0 recalls the record from itself
abbrev pub recalls : Frame
recalls = told 0 0 (msg.Recall 1 (codes "b") 0 1 1 kind.Lock)

-- node 0 gives it back to itself
abbrev pub gives : Frame
gives = told 0 0 (msg.Give 1 (codes "b") 0 (codes "x"))

-- node 0 passes it to node 1
abbrev pub passes : Frame
passes = told 0 1 (msg.Pass 1 (codes "b") 1 0 (codes "x"))

-- an entry
abbrev pub noted : Event → Out → JournalEntry
noted e x = record { event = e; outs = x ∷ [] }

-- the journal of node 0: its client's write is answered at once, and the record goes to node 1
abbrev pub first_journal : Journal
first_journal = record {
  node = 0;
  entries =
      noted (event.Client 1 (op.Write 1 (codes "b") (codes "x"))) (out.Answer 1 answer.Written) ∷
      noted (event.Arrive asks) (out.Send recalls) ∷
      noted (event.Arrive recalls) (out.Send gives) ∷
      noted (event.Arrive gives) (out.Send passes) ∷
      [];
}

-- the journal of node 1: its client's write is answered once the record has come
abbrev pub second_journal : Journal
second_journal = record {
  node = 1;
  entries =
      noted (event.Client 1 (op.Write 1 (codes "b") (codes "y"))) (out.Send asks) ∷
      noted (event.Arrive passes) (out.Answer 1 answer.Written) ∷
      [];
}

abbrev pub two_journals : List Journal
two_journals = first_journal ∷ second_journal ∷ []

-- a schedule of them: the client of node 1 asks under number 2
abbrev pub pair_steps : List Step
pair_steps =
    step.Client 0 (op.Write 1 (codes "b") (codes "x")) ∷
    step.Client 1 (op.Write 1 (codes "b") (codes "y")) ∷
    step.Deliver 1 ∷
    step.Deliver 2 ∷
    step.Deliver 3 ∷
    step.Deliver 4 ∷
    []

-- both journals are runs, they are in order, and these steps are a schedule of them
abbrev pub TwoWrites : Type 0
TwoWrites =
    ((end : Node) × RunsTo pair_config [] first_journal end) × ((end : Node) × RunsTo pair_config [] second_journal end) × AreInOrder two_journals × IsSchedule pair_config [] two_journals pair_steps
