-- The texts of columns.
use Rattle.std.specs.Prelude.{◌≡◌, ℕ, ◌+◌, List, [], ◌∷◌, ◌++◌, codes, length, Result, Ok, Err, Option}
use Rattle.std.specs.Fmt.{decimal}
use Rattle.std.specs.Io.KnownBytes.{Appends}
use Rattle.ct_outside.specs.Causes.{AppendsPart}
use Rattle.ct_outside.specs.declared.fault.SinkFault.{SinkFault}
use Rattle.ct_call.specs.Rules.{Rules}
use Rattle.ct_script.specs.declared.plan.Plan.{Plan}
use Rattle.ct_journal.specs.Order.{all_entries}
use Rattle.ct_journal.specs.declared.journal.Journal.{Journal}
use Rattle.ct_troupe_run.specs.Text.{IsRunText}
use Rattle.ct_troupe_run.specs.declared.columns.Counts.{Counts}

-- what is told of a column: the text of its run, how many entries its journals have, and how many messages its run sent
pub record Column : Type 0 where
  pub lines : List ℕ
  pub counts : Counts

-- Columns: a text is that of the run of a schedule of these journals of a plan, which keeps the promise, and what is counted is theirs
pub record IsColumn (rules : Rules) (p : Plan) (js : List Journal) (x : Column) : Type 0 where
  pub run : IsRunText rules p js x.lines x.counts.frames
  pub entries : x.counts.entries ≡ length (all_entries js)

-- Columns: these are told of the columns from i on, each of which played a plan
abbrev pub AreColumns : Rules → ℕ → List Plan → (ℕ → List Journal) → List Column → Type 0
AreColumns rules i [] told [] = Unit {0}
AreColumns rules i [] told (x ∷ xs) = ⊥
AreColumns rules i (p ∷ ps) told [] = ⊥
AreColumns rules i (p ∷ ps) told (x ∷ xs) = IsColumn rules p (told i) x × AreColumns rules (i + 1) ps told xs

-- ---- texts

-- the line of a column's number, and then the text of its run
abbrev pub column_text : ℕ → List ℕ → List ℕ
column_text i lines = codes "column " ++ decimal i ++ codes "\n" ++ lines

-- the texts of the columns from i on
abbrev pub columns_text : ℕ → List Column → List ℕ
columns_text i [] = []
columns_text i (x ∷ xs) = column_text i x.lines ++ columns_text (i + 1) xs

-- the counts of both
abbrev pub both_counts : Counts → Counts → Counts
both_counts a b = record { entries = a.entries + b.entries; frames = a.frames + b.frames }

-- the counts of all columns together
abbrev pub all_counts : List Column → Counts
all_counts [] = record { entries = 0; frames = 0 }
all_counts (x ∷ xs) = both_counts x.counts (all_counts xs)

-- ---- writes

-- a text and what is counted are those of column i, with these journals of a plan
abbrev pub IsTold : Rules → Plan → ℕ → List Journal → List ℕ → Counts → Type 0
IsTold rules p i js text counts = (x : Column) × IsColumn rules p js x × (text ≡ column_text i x.lines) × (counts ≡ x.counts)

-- out gained the text of column i, or a front of it
abbrev pub WritesColumn : Rules → Plan → ℕ → List Journal → Result Counts SinkFault → Option (List ℕ) → Option (List ℕ) → Type 0
WritesColumn rules p i js (Ok counts) before now = (x : Column) × IsColumn rules p js x × (counts ≡ x.counts) × Appends before now (column_text i x.lines)
WritesColumn rules p i js (Err f) before now = (x : Column) × IsColumn rules p js x × AppendsPart before now (column_text i x.lines)

-- out gained the texts of all columns, and these are their counts; or it gained a front of the texts
abbrev pub WritesColumns : Rules → List Plan → (ℕ → List Journal) → Result Counts SinkFault → Option (List ℕ) → Option (List ℕ) → Type 0
WritesColumns rules ps told (Ok counts) before now = (xs : List Column) × AreColumns rules 0 ps told xs × (counts ≡ all_counts xs) × Appends before now (columns_text 0 xs)
WritesColumns rules ps told (Err f) before now = (xs : List Column) × AreColumns rules 0 ps told xs × AppendsPart before now (columns_text 0 xs)
