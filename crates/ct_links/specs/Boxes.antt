-- The boxes of a hub: for each node the messages that were put for it, and what it is about.
use Rattle.std.specs.Prelude.{ℕ, Bool, true, false, if◌then◌else◌, List, [], ◌∷◌, ◌++◌, Option, None, Some, replicate, slice_get, slice_set}
use Rattle.std.specs.List.{list_all}
use Rattle.ct_frame.specs.declared.frame.Frame.{Frame}
use Rattle.ct_links.specs.declared.boxes.Mark.{Mark}
use Rattle.ct_links.specs.declared.boxes.Mark.TheVariants.{Awake, Waiting, Gone}
use Rattle.ct_links.specs.declared.boxes.Taken.{Taken}
use Rattle.ct_links.specs.declared.boxes.Taken.TheVariants as taken

-- the messages for a node in the order in which they were put; and the node's mark
pub record Mailbox : Type 0 where
  pub frames : List Frame
  pub mark : Mark

-- no messages, and its node is awake
abbrev pub fresh_box : Mailbox
fresh_box = record { frames = []; mark = Awake }

-- a box for each of so many nodes
abbrev pub fresh_boxes : ℕ → List Mailbox
fresh_boxes nodes = replicate nodes fresh_box

-- a message more at the end
abbrev pub with_frame : Frame → Mailbox → Mailbox
with_frame f b = record b { frames = b.frames ++ f ∷ [] }

-- another mark
abbrev pub marked : Mark → Mailbox → Mailbox
marked mark b = record b { mark = mark }

-- the boxes with a change of one; where there is no such box, nothing changes
abbrev pub changed_at : ℕ → (Mailbox → Mailbox) → List Mailbox → Option Mailbox → List Mailbox
changed_at node change boxes None = boxes
changed_at node change boxes (Some b) = slice_set boxes node (change b)

-- after a message was put
abbrev pub put_in : Frame → List Mailbox → List Mailbox
put_in f boxes = changed_at f.receiver (with_frame f) boxes (slice_get boxes f.receiver)

-- after a node's mark was set
abbrev pub marked_at : ℕ → Mark → List Mailbox → List Mailbox
marked_at node mark boxes = changed_at node (marked mark) boxes (slice_get boxes node)

abbrev pub is_nil : List Frame → Bool
is_nil [] = true
is_nil (f ∷ fs) = false

-- with this mark and these messages left, will a node put nothing before something is put for it?
abbrev pub quiet_with : Mark → List Frame → Bool
quiet_with Awake frames = false
quiet_with Waiting frames = is_nil frames
quiet_with Gone frames = true

abbrev pub is_quiet : Mailbox → Bool
is_quiet b = quiet_with b.mark b.frames

-- does a node with this mark wait, with no messages?
abbrev pub asleep_with : Mark → List Frame → Bool
asleep_with Awake frames = false
asleep_with Waiting frames = is_nil frames
asleep_with Gone frames = false

-- did the node of this box, if there is one, find nothing when it last looked, and was nothing put since?
abbrev pub is_asleep : Option Mailbox → Bool
is_asleep None = false
is_asleep (Some b) = asleep_with b.mark b.frames

-- will nothing be put any more? No node is awake, and none that waits has a message left
abbrev pub all_quiet : List Mailbox → Bool
all_quiet boxes = list_all is_quiet boxes

-- what a node finds in these messages of its box, where it finds something or may not wait
abbrev pub found : Bool → List Frame → Option Taken
found may_wait (f ∷ fs) = Some (taken.Message f)
found may_wait [] = if may_wait then None else Some taken.Nothing

-- its box afterwards: a message that is found is taken off, and the node is awake; else it waits, if it may
abbrev pub box_after : Bool → List Frame → Mailbox → Mailbox
box_after may_wait (f ∷ fs) b = record { frames = fs; mark = Awake }
box_after may_wait [] b = if may_wait then marked Waiting b else b

-- a node that is to wait is told where nothing will be put any more
abbrev pub or_wait : Option Taken → List Mailbox → Taken
or_wait (Some t) boxes = t
or_wait None boxes = if all_quiet boxes then taken.Closed else taken.Wait

-- the messages of a box, if there is one
abbrev pub frames_of : Option Mailbox → List Frame
frames_of None = []
frames_of (Some b) = b.frames

-- the boxes after a node has looked into its own
abbrev pub boxes_after : ℕ → Bool → List Mailbox → List Mailbox
boxes_after node may_wait boxes = changed_at node (λ b. box_after may_wait b.frames b) boxes (slice_get boxes node)

-- what the node is answered
abbrev pub answer_to : ℕ → Bool → List Mailbox → Taken
answer_to node may_wait boxes = or_wait (found may_wait (frames_of (slice_get boxes node))) (boxes_after node may_wait boxes)
