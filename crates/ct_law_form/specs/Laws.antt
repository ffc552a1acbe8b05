-- What comes to the records and the commits of a node leaves it in form.
use Rattle.std.specs.Prelude.{◌≡◌, ℕ, true, List, Some}
use Rattle.ct_values.specs.declared.client.ClientOp.{ClientOp}
use Rattle.ct_values.specs.declared.client.Pair.{Pair}
use Rattle.ct_values.specs.declared.config.Config.{Config}
use Rattle.ct_frame.specs.Fields.{well_formed}
use Rattle.ct_frame.specs.declared.frame.Frame.{Frame}
use Rattle.ct_frame.specs.declared.frame.Msg.TheVariants as msg
use Rattle.ct_call.specs.Rules.{Rules}
use Rattle.ct_rules_node.specs.Admission.{record_in}
use Rattle.ct_rules_node.specs.Clients.{client}
use Rattle.ct_rules_node.specs.Coming.{is_allowed_op}
use Rattle.ct_rules_node.specs.Databases.{on_pack, on_pupdate}
use Rattle.ct_rules_node.specs.Node.{Phase}
use Rattle.ct_rules_node.specs.Retries.{retry_records}
use Rattle.ct_rules_node.specs.Rounds.{on_thaw}
use Rattle.ct_rules_node.specs.Steps.{if_persistent, on_record_of, vacuums}
use Rattle.ct_rules_node.specs.Turn.{Turn}
use Rattle.ct_law_form.specs.Whole.{KeepsInForm, TurnInForm}

-- every client's call that is allowed
abbrev pub ClientsKeepForm : Type 0
ClientsKeepForm = (c : Config) (rules : Rules) (me call : ℕ) (o : ClientOp) (t : Turn) → is_allowed_op o ≡ true → KeepsInForm c me t (client c rules me call o t)

-- every message of a record that keeps the rules of its fields
abbrev pub RecordMessagesKeepForm : Type 0
RecordMessagesKeepForm = (c : Config) (rules : Rules) (me : ℕ) (f : Frame) (t : Turn) (r : ℕ × List ℕ) → record_in f.msg ≡ Some r → well_formed f ≡ true → KeepsInForm c me t (on_record_of c rules me f t (Some r))

-- every message of a commit that does
pub record CommitMessagesKeepForm : Type 0 where
  pub updated : (c : Config) (me : ℕ) (f : Frame) (db seq : ℕ) (writes : List Pair) (t : Turn) → f.msg ≡ msg.PUpdate db seq writes → well_formed f ≡ true → TurnInForm c me t → TurnInForm c me (if_persistent c f db (on_pupdate me f.sender db seq writes t) t)
  pub acknowledged : (c : Config) (me : ℕ) (f : Frame) (db seq : ℕ) (t : Turn) → TurnInForm c me t → TurnInForm c me (if_persistent c f db (on_pack f.sender db seq t) t)

-- the vacuum of a database
abbrev pub VacuumsKeepForm : Type 0
VacuumsKeepForm = (c : Config) (rules : Rules) (me db : ℕ) (t : Turn) → KeepsInForm c me t (vacuums c me db t)

-- the Thaw of a generation, in the node's phase
abbrev pub ThawsKeepForm : Type 0
ThawsKeepForm = (c : Config) (rules : Rules) (me g : ℕ) (t : Turn) (p : Phase) → t.node.phase ≡ p → KeepsInForm c me t (on_thaw c rules me g t p)

-- what a retry sends again of records and of commits
abbrev pub RetriesKeepForm : Type 0
RetriesKeepForm = (c : Config) (me : ℕ) (t : Turn) → KeepsInForm c me t (retry_records c me t)
