-- The text of a line that a step prints, and of a call that waits at the end.
use Rattle.std.specs.Prelude.{ℕ, List, ◌++◌, codes}
use Rattle.std.specs.Fmt.{decimal}
use Rattle.ct_values.specs.Address.{address_text}
use Rattle.ct_values.specs.declared.client.ClientOp.{ClientOp}
use Rattle.ct_values.specs.declared.client.ClientOp.TheVariants as op
use Rattle.ct_values.specs.declared.config.Config.{Config}
use Rattle.ct_frame.specs.declared.event.Note.{Note}
use Rattle.ct_frame.specs.declared.event.Note.TheVariants as note
use Rattle.ct_rules_cluster.specs.declared.step.Line.{Line}
use Rattle.ct_rules_cluster.specs.declared.step.Line.TheVariants as line
use Rattle.ct_rules_cluster.specs.declared.step.PendingCall.{PendingCall}
use Rattle.ct_rules_node.specs.Node.{name_of}
use Rattle.ct_text.specs.Answer.{answer_text}
use Rattle.ct_text.specs.Message.{message_text}
use Rattle.ct_text.specs.Words.{items_text, record_text}

-- what a node notes
unfoldable pub note_text : Config → ℕ → Note → List ℕ
note_text c node (note.Vacuumed db key) = codes "vacuumed " ++ decimal node ++ codes " " ++ record_text c db key
note_text c node (note.Ended db key) = codes "ended " ++ decimal node ++ codes " " ++ record_text c db key
note_text c node (note.Round generation members vparent pparent) = codes "round " ++ decimal generation ++ codes " " ++ items_text decimal members ++ codes " " ++ decimal vparent ++ codes " " ++ decimal pparent
note_text c node (note.Installed generation) = codes "installed " ++ decimal node ++ codes " " ++ decimal generation
note_text c node (note.Thawed generation) = codes "thawed " ++ decimal node ++ codes " " ++ decimal generation
note_text c node (note.Released address) = codes "released " ++ decimal node ++ codes " " ++ address_text address
note_text c node (note.Took address) = codes "took " ++ decimal node ++ codes " " ++ address_text address

-- a line without its line feed
unfoldable pub told_text : Config → Line → List ℕ
told_text c (line.Sent number frame) = codes "frame " ++ decimal number ++ codes " " ++ decimal frame.sender ++ codes " " ++ decimal frame.receiver ++ codes " " ++ decimal frame.generation ++ codes " " ++ message_text c frame.msg
told_text c (line.Answered call answer) = codes "answer " ++ decimal call ++ codes " " ++ answer_text answer
told_text c (line.Noted node told) = note_text c node told
told_text c (line.Ticket ticket node) = codes "ticket " ++ decimal ticket ++ codes " " ++ decimal node
told_text c (line.Yielded node) = codes "yielded " ++ decimal node
told_text c (line.Stopped node) = codes "stopped " ++ decimal node
told_text c (line.Started node) = codes "started " ++ decimal node
told_text c (line.Gone call) = codes "answer " ++ decimal call ++ codes " stopped"
told_text c (line.Lost number) = codes "lost " ++ decimal number

-- a line with its line feed
unfoldable pub line_text : Config → Line → List ℕ
line_text c told = told_text c told ++ codes "\n"

-- what a call that waits asked: a record, or the number of its commit
unfoldable pub asked_text : Config → ℕ → ClientOp → List ℕ
asked_text c seq (op.Lock db key) = codes "lock " ++ record_text c db key
asked_text c seq (op.Read db key) = codes "read " ++ record_text c db key
asked_text c seq (op.Write db key value) = codes "write " ++ record_text c db key
asked_text c seq (op.Apply db key function arg) = codes "apply " ++ record_text c db key
asked_text c seq (op.Store db key value) = codes "store " ++ record_text c db key
asked_text c seq (op.Unlock db key) = codes "unlock " ++ record_text c db key
asked_text c seq (op.Commit db writes) = codes "commit " ++ name_of c db ++ codes " " ++ decimal seq

-- a call that waits, with its line feed
unfoldable pub pending_text : Config → PendingCall → List ℕ
pending_text c x = codes "pending " ++ decimal x.call ++ codes " " ++ decimal x.node ++ codes " " ++ asked_text c x.seq x.op ++ codes "\n"
