-- What is promised of records while no generation follows the first one.
use Rattle.std.specs.Prelude.{◌≡◌, Bool, true, false, not, List, []}
use Rattle.std.specs.List.{list_all, filter}
use Rattle.ct_values.specs.Client.{db_of}
use Rattle.ct_values.specs.declared.config.Config.{Config}
use Rattle.ct_frame.specs.declared.event.Note.{Note}
use Rattle.ct_frame.specs.declared.event.Note.TheVariants as note
use Rattle.ct_call.specs.Rules.{Rules}
use Rattle.ct_rules_cluster.specs.Cluster.{opening}
use Rattle.ct_rules_cluster.specs.Labels.{Label, Answered, Begun, Noted, Pushed, Takeover, Taken}
use Rattle.ct_rules_cluster.specs.Traces.{Ran, ran}
use Rattle.ct_rules_cluster.specs.declared.step.Step.{Step}
use Rattle.ct_rules_cluster.specs.declared.step.Step.TheVariants as step
use Rattle.ct_register.specs.Lines
use Rattle.ct_register.specs.Lines.{Lines}
use Rattle.ct_register.specs.Legal.{AcceptsLabels}
use Rattle.ct_register.specs.Stands.{RecordsStand}
use Rattle.ct_promise.specs.Promises.{IsConfig, CallsStand}
use Rattle.ct_rules_node.specs.Node.{is_persistent, kind_at}

-- Steps of one generation are all but stops, starts and recoveries.
unfoldable pub is_of_one_generation : Step → Bool
is_of_one_generation (step.Stop n) = false
is_of_one_generation (step.Start n) = false
is_of_one_generation (step.Recover n members) = false
is_of_one_generation s = true

-- does the note speak of records, or of the generation that they are in? A note of an address does not.
unfoldable pub is_note_of_records : Note → Bool
is_note_of_records (note.Released a) = false
is_note_of_records (note.Took a) = false
is_note_of_records noted = true

-- Does the label speak of records, or of generations? The answer to a call on a persistent database does not, nor the begin of
-- a commit, nor what is told of addresses.
unfoldable pub speaks_of_records : Config → Label → Bool
speaks_of_records config (Answered n asked given) = not (is_persistent (kind_at config (db_of asked)))
speaks_of_records config (Begun n db writes) = false
speaks_of_records config (Noted n noted) = is_note_of_records noted
speaks_of_records config (Pushed g assigned) = false
speaks_of_records config (Takeover n able) = false
speaks_of_records config (Taken n g number assigned) = false
speaks_of_records config label = true

-- the labels that do, in their order
abbrev pub record_labels : Config → List Label → List Label
record_labels config labels = filter (speaks_of_records config) labels

-- from these registers on they accept what a run tells of records, and its last cluster stands for those of records and for
-- the calls that are open
abbrev pub KeepsRecords : Config → Rules → Lines → Ran → Type 0
KeepsRecords config rules r run = (s : Lines) × AcceptsLabels config rules r (record_labels config run.trace) s × RecordsStand run.cluster s × CallsStand run.cluster run.log

-- so it is of every list of such steps from the opening on
abbrev pub PromiseOfOneGeneration : Type 0
PromiseOfOneGeneration = (config : Config) (rules : Rules) (steps : List Step) → IsConfig config → list_all is_of_one_generation steps ≡ true →
    KeepsRecords config rules (Lines.opening config) (ran config rules (opening config) [] steps)
