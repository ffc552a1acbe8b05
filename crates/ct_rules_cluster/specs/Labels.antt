-- What a run tells of itself, in order: this is all that a promise about the cluster speaks of.
use Rattle.std.specs.Prelude.{ℕ, List}
use Rattle.ct_values.specs.declared.client.Answer.{Answer}
use Rattle.ct_values.specs.declared.client.ClientOp.{ClientOp}
use Rattle.ct_values.specs.declared.client.Pair.{Pair}
use Rattle.ct_frame.specs.declared.event.Note.{Note}
use Rattle.ct_frame.specs.declared.frame.Assigned.{Assigned}

-- Labels: what a run tells of itself, one of these after the other
pub data Label : Type 0 where
  -- a client of this node asked for this, and was answered this
  Answered : (node : ℕ) (asked : ClientOp) (answer : Answer) → Label
  -- this was answered to a call that is not open: it was never asked, or was answered before, or ended with its node
  Unasked : (call : ℕ) (answer : Answer) → Label
  -- a commit of these writes began at this node
  Begun : (node db : ℕ) (writes : List Pair) → Label
  -- the node noted this
  Noted : (node : ℕ) (note : Note) → Label
  -- the recovery lock and this ticket were given to the node, to lead a recovery of these members
  Ticket : (ticket node : ℕ) (members : List ℕ) → Label
  -- the node gave the recovery lock back
  Yielded : (node : ℕ) → Label
  Stopped : (node : ℕ) → Label
  Started : (node : ℕ) → Label
  -- a push of this generation was sent, which assigns these addresses
  Pushed : (generation : ℕ) (assigned : List Assigned) → Label
  -- the node began a takeover run, while these nodes were marked able
  Takeover : (node : ℕ) (able : List ℕ) → Label
  -- the node sent a take of this generation and run, which assigns these addresses
  Taken : (node generation run : ℕ) (assigned : List Assigned) → Label
