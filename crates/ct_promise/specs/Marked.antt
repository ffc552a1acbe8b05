-- What is promised of RSNs: each stands for one place among the versions of its record.
use Rattle.std.specs.Prelude.{◌≡◌, ◌⊎◌, ℕ, ◌+◌, ◌≤◌, nat_eq, Bool, true, false, ◌&&◌, bytes_eq, List, [], ◌∷◌, None, Some}
use Rattle.std.specs.List.{list_any}
use Rattle.ct_values.specs.declared.config.Config.{Config}
use Rattle.ct_frame.specs.declared.event.Note.{Note}
use Rattle.ct_frame.specs.declared.event.Note.TheVariants as note
use Rattle.ct_frame.specs.declared.header.RecCopy.{RecCopy}
use Rattle.ct_call.specs.Rules.{Rules}
use Rattle.ct_rules.specs.declared.state.Entry.{Entry}
use Rattle.ct_rules_node.specs.Node.{is_among, master_of, is_present_in, state_at}
use Rattle.ct_rules_cluster.specs.Cluster.{Cluster, is_up, node_at, opening}
use Rattle.ct_rules_cluster.specs.Labels.{Label, Noted}
use Rattle.ct_rules_cluster.specs.Traces.{OpenCall, ran_one}
use Rattle.ct_rules_cluster.specs.declared.step.Step.{Step}
use Rattle.ct_register.specs.Lines
use Rattle.ct_register.specs.Lines.{Lines}
use Rattle.ct_register.specs.Legal.{AcceptsLabels}
use Rattle.ct_register.specs.Stands.{HasCopy, StandsFor}
use Rattle.ct_register.specs.Marks.{Site, Marks, AreMarks, IsCopyAt, IsEntryAt, MarksStep}
use Rattle.ct_promise.specs.Promises.{IsConfig, CallsStand}

-- the marks of one line, by database and key
abbrev pub LineMarks : Type 0
LineMarks = ℕ → List ℕ → Marks

-- the marks of each line
abbrev pub AllMarks : Type 0
AllMarks = ℕ → LineMarks

-- nothing is marked
abbrev pub no_marks : LineMarks
no_marks db key = record { marks = []; low = 0; site = None }

-- the node has this entry for a record
abbrev pub HasEntry : Cluster → ℕ → ℕ → List ℕ → Entry → Type 0
HasEntry w n db key e = (state_at db key (node_at n w)).entry ≡ Some e

-- the marks of line g hold of a cluster and its registers
pub record MarksHoldIn (g : ℕ) (w : Cluster) (r : Lines) (marks : LineMarks) : Type 0 where
  -- where the line was born
  pub marked : (db : ℕ) (key : List ℕ) → r.born g ≡ true → AreMarks (r.records g db key).versions (marks db key)
  -- a copy at a node that is present in the line has the value at the place of its RSN
  pub copies : (n db : ℕ) (key : List ℕ) (c : RecCopy) → is_present_in g (node_at n w) ≡ true → HasCopy w n db key c →
      IsCopyAt (marks db key).marks (r.records g db key).versions c.header.rsn c.value
  -- and an entry there a value from the place before its least RSN to the place of that
  pub entries : (n db : ℕ) (key : List ℕ) (e : Entry) → is_present_in g (node_at n w) ≡ true → HasEntry w n db key e →
      IsEntryAt (marks db key).marks (r.records g db key).versions e.least e.value
  -- that entry says where the record is
  pub sites : (n db : ℕ) (key : List ℕ) (e : Entry) → is_present_in g (node_at n w) ≡ true → HasEntry w n db key e →
      (marks db key).site ≡ Some (record { holder = e.holder; least = e.least })
  -- it stands at the record's location master alone; where that is present and has none there are no marks
  pub alone : (n db : ℕ) (key : List ℕ) (e : Entry) → is_present_in g (node_at n w) ≡ true → HasEntry w n db key e → n ≡ master_of (r.members g) key
  pub empty : (n db : ℕ) (key : List ℕ) → is_present_in g (node_at n w) ≡ true → n ≡ master_of (r.members g) key → (state_at db key (node_at n w)).entry ≡ None →
      (marks db key).marks ≡ []
  -- where the record is at a node that is present, all marks are below its least RSN, or the node has the copy of the greatest RSN
  pub found : (db : ℕ) (key : List ℕ) (x : Site) → (marks db key).site ≡ Some x → is_present_in g (node_at x.holder w) ≡ true →
      ((marks db key).low ≤ x.least) ⊎ ((c : RecCopy) × HasCopy w x.holder db key c × (c.header.rsn + 1 ≡ (marks db key).low))
  -- and where it is at no member, all marks are below
  pub away : (db : ℕ) (key : List ℕ) (x : Site) → r.born g ≡ true → (marks db key).site ≡ Some x → is_among x.holder (r.members g) ≡ false → (marks db key).low ≤ x.least
  -- who runs and is present in a line knows its members; the line was born
  pub named : (n : ℕ) → is_up n w ≡ true → is_present_in g (node_at n w) ≡ true → (r.born g ≡ true) × ((node_at n w).members ≡ r.members g)

-- the marks of all lines do
abbrev pub MarksHold : Cluster → Lines → AllMarks → Type 0
MarksHold w r marks = (g : ℕ) → MarksHoldIn g w r (marks g)

-- does the note say that this record was removed?
unfoldable pub removes : ℕ → List ℕ → Note → Bool
removes db key (note.Vacuumed d k) = nat_eq d db && bytes_eq k key
removes db key noted = false

-- does the label say that a node of line g removed this record?
unfoldable pub is_removal : Lines → ℕ → ℕ → List ℕ → Label → Bool
is_removal r g db key (Noted n noted) = nat_eq (r.line n) g && removes db key noted
is_removal r g db key label = false

-- was this record of line g removed by a step that tells these labels?
abbrev pub is_removed : Lines → ℕ → ℕ → List ℕ → List Label → Bool
is_removed r g db key labels = list_any (is_removal r g db key) labels

-- the marks of line g go on through a step that tells these labels
abbrev pub MarksGoOnIn : ℕ → Lines → List Label → LineMarks → LineMarks → Type 0
MarksGoOnIn g r labels marks after = (db : ℕ) (key : List ℕ) → MarksStep (is_removed r g db key labels) (marks db key) (after db key)

-- the marks of each line that was born before do
abbrev pub MarksGoOn : Lines → List Label → AllMarks → AllMarks → Type 0
MarksGoOn r labels marks after = (g : ℕ) → r.born g ≡ true → MarksGoOnIn g r labels (marks g) (after g)

-- Step by step there are registers that accept what the step tells and that its cluster stands for, and marks that hold of
-- them and go on; and the calls that wait are exactly the open ones.
unfoldable pub MarksRun : Config → Rules → Cluster → List OpenCall → Lines → AllMarks → List Step → Type 0
MarksRun config rules w log r marks [] = Unit {0}
MarksRun config rules w log r marks (s ∷ steps) = let run = ran_one config rules w log s in
    (t : Lines) × (after : AllMarks) × AcceptsLabels config rules r run.trace t × StandsFor config run.cluster t × CallsStand run.cluster run.log ×
    MarksHold run.cluster t after × MarksGoOn r run.trace marks after × MarksRun config rules run.cluster run.log t after steps

-- so it is of every list of steps from the opening on, where nothing is marked
abbrev pub LawOfMarks : Type 0
LawOfMarks = (config : Config) (rules : Rules) (steps : List Step) → IsConfig config → MarksRun config rules (opening config) [] (Lines.opening config) (λ g. no_marks) steps
