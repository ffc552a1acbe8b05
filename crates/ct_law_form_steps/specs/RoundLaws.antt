-- The begin of a round, and every message of a round but the Thaw, leaves a node in form.
use Rattle.std.specs.Prelude.{◌≡◌, ℕ, nat_lt, true, List}
use Rattle.std.specs.List.{list_all}
use Rattle.ct_values.specs.declared.address.Address.{Address}
use Rattle.ct_values.specs.declared.config.Config.{Config}
use Rattle.ct_frame.specs.Fields.{ascends, well_formed}
use Rattle.ct_frame.specs.declared.frame.Assigned.{Assigned}
use Rattle.ct_frame.specs.declared.frame.Frame.{Frame}
use Rattle.ct_frame.specs.declared.frame.Msg.TheVariants as msg
use Rattle.ct_frame.specs.declared.frame.PTable.{PTable}
use Rattle.ct_frame.specs.declared.frame.TableRow.{TableRow}
use Rattle.ct_rules_node.specs.Node.{is_among}
use Rattle.ct_rules_node.specs.Rounds.{begin_round, on_freeze, on_freezeack, on_pull, on_pullreply, on_push, on_pushack}
use Rattle.ct_rules_node.specs.Steps.{if_sound}
use Rattle.ct_rules_node.specs.Turn.{Turn}
use Rattle.ct_law_form.specs.Whole.{KeepsInForm, TurnInForm, is_node_of}

-- the begin of a round of members that ascend and are nodes of the configuration, this one among them
abbrev pub BeginsKeepForm : Type 0
BeginsKeepForm = (c : Config) (me g : ℕ) (members : List ℕ) (t : Turn) → ascends nat_lt members ≡ true → list_all (is_node_of c) members ≡ true → is_among me members ≡ true → KeepsInForm c me t (begin_round me g members t)

-- every message of a round that keeps the rules of its fields
pub record RoundsKeepForm : Type 0 where
  pub freeze : (c : Config) (me : ℕ) (f : Frame) (t : Turn) → well_formed f ≡ true → TurnInForm c me t → TurnInForm c me (if_sound c f (on_freeze c me f.sender f.generation t) t)
  pub freezeack : (c : Config) (me : ℕ) (f : Frame) (t : Turn) → TurnInForm c me t → TurnInForm c me (if_sound c f (on_freezeack me f.sender f.generation t t.node.lead) t)
  pub pull : (c : Config) (me : ℕ) (f : Frame) (t : Turn) → well_formed f ≡ true → TurnInForm c me t → TurnInForm c me (if_sound c f (on_pull c me f.sender f.generation t) t)
  pub pullreply : (c : Config) (me : ℕ) (f : Frame) (vbase pbase : ℕ) (table : List TableRow) (ptables : List PTable) (addresses : List Address) (t : Turn) → f.msg ≡ msg.PullReply vbase pbase table ptables addresses → well_formed f ≡ true → TurnInForm c me t →
      TurnInForm c me (if_sound c f (on_pullreply me f.generation (record { node = f.sender; vbase = vbase; pbase = pbase; table = table; ptables = ptables; addresses = addresses }) t t.node.lead) t)
  pub push : (c : Config) (me : ℕ) (f : Frame) (members : List ℕ) (table : List TableRow) (ptables : List PTable) (assigned : List Assigned) (t : Turn) → f.msg ≡ msg.Push members table ptables assigned → well_formed f ≡ true →
      KeepsInForm c me t (if_sound c f (on_push c me f.sender f.generation members table ptables assigned t) t)
  pub pushack : (c : Config) (me : ℕ) (f : Frame) (t : Turn) → TurnInForm c me t → TurnInForm c me (if_sound c f (on_pushack c me f.sender f.generation t t.node.lead) t)
