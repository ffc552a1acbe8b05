-- What is claimed of the top call.
use Rattle.std.specs.Prelude.{◌≡◌, ◌≢◌, ◌≤◌, ◌<◌, ◌+◌, ◌⊎◌, ℕ, Bool, true, false, List, [], ◌∷◌, ◌++◌, map, length, codes, Option, None, Some, Result, Ok, Err, String, string_bytes}
use Rattle.std.specs.declared.alloc.Global.{Global}
use Rattle.std.specs.Fmt.{decimal}
use Rattle.std.specs.Io.KnownBytes.{Appends, Consumes, IsAtEnd}
use Rattle.ct_outside.specs.Causes.{AppendsPart, Rose}
use Rattle.ct_outside.specs.declared.fault.SinkFault.{SinkFault}
use Rattle.ct_outside.specs.declared.fault.SinkFault.TheVariants as sink
use Rattle.ct_call.specs.Rules.{Rules}
use Rattle.ct_rules_config.specs.Configured.{IsConfig}
use Rattle.ct_rules_cluster.specs.Cluster.{opening, World}
use Rattle.ct_rules_cluster.specs.Traces.{ran}
use Rattle.ct_promise.specs.Marked.{MarksRun, no_marks}
use Rattle.ct_promise.specs.Promises.{Keeps}
use Rattle.ct_register.specs.Lines as lines
use Rattle.ct_play.specs.Session.{start}
use Rattle.ct_law_traverse.specs.Told.{TraversesRun}
use Rattle.ct_play.specs.Course.{Deed, moves_of, printed, steps_of}
use Rattle.ct_play.specs.Play.{AreMovesOf, Run, pending_text_of, played, rest}
use Rattle.ct_play_text.specs.Text.{what_text}
use Rattle.ct_play_text.specs.declared.what.What.{What}
use Rattle.ct_play_text.specs.declared.what.What.TheVariants.{Line}
use Rattle.ct_lcp2_lines.specs.declared.placer.End.{End as PlacingEnd}
use Rattle.ct_lcp2_lines.specs.declared.placer.End.TheVariants as placing
use Rattle.ct_soak.specs.Soaking.{soak_text}
use Rattle.ct_troupe_run.specs.declared.running.End.{End as ClusterEnd}
use Rattle.ct_troupe_run.specs.declared.running.End.TheVariants as running
use Rattle.ct_troupe_run.specs.declared.running.Wanted.{Wanted}
use Rattle.ct_bus_run.specs.declared.generated.BusWanted.{BusWanted}
use Rattle.ct_bus_run.specs.declared.running.BusEnd.{BusEnd}
use Rattle.ct_bus_run.specs.declared.running.BusEnd.TheVariants as exchanging
use Rattle.ct_words.specs.Reading.{reading}
use Rattle.ct_words.specs.declared.words.BusNumbers.{BusNumbers}
use Rattle.ct_words.specs.declared.words.ChainNumbers.{ChainNumbers}
use Rattle.ct_words.specs.declared.words.PlanNumbers.{PlanNumbers}
use Rattle.ct_troupe_run.specs.declared.chains.CutWanted.{CutWanted}
use Rattle.ct_words.specs.declared.words.Word.{Word}
use Rattle.ct_words.specs.declared.words.Word.TheVariants as word
use Rattle.ct_main.specs.declared.player.End.{End}
use Rattle.ct_main.specs.declared.player.End.TheVariants as end

-- the most bytes that are taken of an input, 2^40
abbrev pub most_bytes : ℕ
most_bytes = 1099511627776

-- a run that is not refused tells at its end of the calls that wait
abbrev pub ended_text : Option What → Run → List ℕ
ended_text None r = r.text ++ pending_text_of r
ended_text (Some what) r = r.text

-- the text of an input behind whose last line feed this rest stands: where there is one, no end is told
abbrev pub text_at : List ℕ → Run → List ℕ
text_at [] r = ended_text r.refusal r
text_at (x ∷ xs) r = r.text

-- no line of the bytes is refused, and out gained the text of all their lines
pub record WholeText (rules : Rules) (bytes : List ℕ) (before now : Option (List ℕ)) : Type 0 where
  pub unrefused : (played rules bytes).refusal ≡ None
  pub text : Appends before now (played rules bytes).text

-- no line of the bytes is refused, and out gained the text of all their lines and then of the calls that wait
pub record EndedText (rules : Rules) (bytes : List ℕ) (before now : Option (List ℕ)) : Type 0 where
  pub unrefused : (played rules bytes).refusal ≡ None
  pub text : Appends before now ((played rules bytes).text ++ pending_text_of (played rules bytes))

-- How an end of the play, the bytes that were taken, what is left of the input then, and what out held before and
-- holds now go together.
abbrev pub Ends : Rules → End → List ℕ → Option (List ℕ) → Option (List ℕ) → Option (List ℕ) → Type 0
-- the input was read to its end, and it has no unended line
Ends rules end.Read bytes left before now = IsAtEnd left × (rest bytes ≡ []) × (length bytes < most_bytes) × EndedText rules bytes before now
-- the input ended inside a line, the one after those that were played
Ends rules (end.Unended line) bytes left before now = IsAtEnd left × (rest bytes ≢ []) × (length bytes < most_bytes) × (line ≡ (played rules bytes).count + 1) × WholeText rules bytes before now
-- a line was refused, the first such; out gained the text before it
Ends rules (end.Refused line what) bytes left before now = ((played rules bytes).refusal ≡ Some what) × (line ≡ (played rules bytes).count + 1) × Appends before now (played rules bytes).text
Ends rules end.ReadFault bytes left before now = (length bytes < most_bytes) × WholeText rules bytes before now
Ends rules end.TooLong bytes left before now = (length bytes ≡ most_bytes) × WholeText rules bytes before now
-- a front of the text
Ends rules end.WriteFault bytes left before now = AppendsPart before now (text_at (rest bytes) (played rules bytes))
Ends rules end.NoMemory bytes left before now = AppendsPart before now (text_at (rest bytes) (played rules bytes))

-- Some databases and addresses make the configuration, so each phrase of the law holds of this run. The steps that it took from
-- the opening of its cluster lead to where the cluster stands, and print what was printed. The registers accept all that these
-- steps told, and the cluster stands for them; step by step marks hold and go on. Through its moves, those of traverses too, each
-- traverse that is answered shows what was read since it began. Before a cluster was opened no step was taken.
abbrev pub KeepsPromise : Rules → Option World → List Deed → Type 0
KeepsPromise rules None deeds = deeds ≡ []
KeepsPromise rules (Some w) deeds = let run = ran w.config rules (opening w.config) [] (steps_of deeds) in
    IsConfig w.config × (run.cluster ≡ w.cluster) × (run.lines ≡ printed deeds) × Keeps w.config rules run × MarksRun w.config rules (opening w.config) [] (lines.opening w.config) (λ g. no_marks) (steps_of deeds) ×
    TraversesRun w.config rules (opening w.config) [] start.walker (lines.opening w.config) (λ g. no_marks) (λ k. []) (moves_of deeds)

-- The bytes that were taken are a front of what the source had left. Out holds what the end says of them, and whatever the end
-- is, their run keeps the promise, and its moves, those of traverses too, print and tell what was printed and told.
pub record Plays (rules : Rules) (e : End) (left_before left before now : Option (List ℕ)) : Type 0 where
  pub bytes : List ℕ
  pub taken : Consumes left_before left bytes
  pub ends : Ends rules e bytes left before now
  pub most : length bytes ≤ most_bytes
  pub promised : KeepsPromise rules (played rules bytes).session.world (played rules bytes).deeds
  pub moved : AreMovesOf rules (played rules bytes).session.world (played rules bytes).session.walker (played rules bytes).deeds

-- a fault comes only where its count rose
pub record HasEndCause (e : End) (in_before in_now out_before out_now : ℕ) : Type 0 where
  pub read_later : in_before ≤ in_now
  pub write_later : out_before ≤ out_now
  pub read : e ≡ end.ReadFault → Rose in_before in_now
  pub write : e ≡ end.WriteFault → Rose out_before out_now

-- the line on err
abbrev pub line_message : ℕ → List ℕ → List ℕ
line_message line what = codes "ctdbsim: line " ++ decimal line ++ codes ": " ++ what ++ codes "\n"

abbrev pub message : End → List ℕ
message end.Read = []
message (end.Unended line) = line_message line (codes "unended")
message (end.Refused line what) = line_message line (what_text what)
message end.ReadFault = codes "ctdbsim: read fault\n"
message end.WriteFault = codes "ctdbsim: write fault\n"
message end.NoMemory = codes "ctdbsim: want of memory\n"
message end.TooLong = codes "ctdbsim: input too long\n"

abbrev pub status : End → ℕ
status end.Read = 0
status (end.Unended line) = 2
status (end.Refused line what) = 2
status end.ReadFault = 3
status end.WriteFault = 4
status end.NoMemory = 5
status end.TooLong = 8

abbrev pub usage : List ℕ
usage = codes "ctdbsim: usage\n"

-- a line was written to err and the status is the one that it says, or err failed in it: then it gained a front of
-- the line, and the status is that fault's. A fault that is answered has its cause.
abbrev pub Says : Result (Unit {0}) SinkFault → List ℕ → ℕ → ℕ → Option (List ℕ) → Option (List ℕ) → ℕ → ℕ → Type 0
Says (Ok u) line wanted status before now faults_before faults_now = (status ≡ wanted) × Appends before now line
Says (Err sink.Failed) line wanted status before now faults_before faults_now = (status ≡ 4) × AppendsPart before now line × Rose faults_before faults_now
Says (Err sink.NoMemory) line wanted status before now faults_before faults_now = (status ≡ 5) × AppendsPart before now line

-- err gained this line, and the status is the one wanted, unless err failed or memory ran out
abbrev pub Reports : List ℕ → ℕ → ℕ → Option (List ℕ) → Option (List ℕ) → ℕ → ℕ → Type 0
Reports line wanted status before now faults_before faults_now = (w : Result (Unit {0}) SinkFault) × Says w line wanted status before now faults_before faults_now

-- what the words after the program's name ask for
abbrev pub asked : List (String Global) → Option Word
asked words = reading (map string_bytes words)

-- the words have no reading, and err gained the line that says so, unless err failed; or memory ran out before
abbrev pub Refuses : ℕ → Option (List ℕ) → Option (List ℕ) → ℕ → ℕ → Type 0
Refuses status before now faults_before faults_now =
    Reports usage 1 status before now faults_before faults_now ⊎ Reports (message end.NoMemory) 5 status before now faults_before faults_now

-- an end of a placement as the program's
abbrev pub placed_end : PlacingEnd → End
placed_end placing.Read = end.Read
placed_end (placing.Unended line) = end.Unended line
placed_end (placing.Refused line kind) = end.Refused line (Line kind)
placed_end placing.ReadFault = end.ReadFault
placed_end placing.WriteFault = end.WriteFault
placed_end placing.NoMemory = end.NoMemory

-- How an end of a soak, of a seed and so many steps, and what out held before and holds now go together: out gained the line
-- that counts the steps, or a front of it.
abbrev pub SoakEnds : Rules → ℕ × ℕ → End → Option (List ℕ) → Option (List ℕ) → Type 0
SoakEnds rules s end.Read before now = Appends before now (soak_text rules s.0 s.1)
SoakEnds rules s end.WriteFault before now = AppendsPart before now (soak_text rules s.0 s.1)
SoakEnds rules s end.NoMemory before now = AppendsPart before now (soak_text rules s.0 s.1)
SoakEnds rules s (end.Unended line) before now = ⊥
SoakEnds rules s (end.Refused line what) before now = ⊥
SoakEnds rules s end.ReadFault before now = ⊥
SoakEnds rules s end.TooLong before now = ⊥

-- what `cluster` wants: nodes that talk over no sockets; `loopback`: nodes that do
abbrev pub wanted_by : Bool → PlanNumbers → Wanted
wanted_by net p = record { nodes = p.nodes; calls = p.calls; seed = p.seed; net = net }

-- what `chains` wants
abbrev pub cut_wanted_by : ChainNumbers → CutWanted
cut_wanted_by p = record { nodes = p.nodes; chains = p.chains; calls = p.calls; seed = p.seed }

-- the line on err once a cluster has ended
abbrev pub cluster_message : ClusterEnd → List ℕ
cluster_message running.Done = message end.Read
cluster_message running.LinkFault = codes "ctdbsim: link fault\n"
cluster_message running.WriteFault = message end.WriteFault
cluster_message running.NoMemory = message end.NoMemory

abbrev pub cluster_status : ClusterEnd → ℕ
cluster_status running.Done = status end.Read
cluster_status running.LinkFault = 7
cluster_status running.WriteFault = status end.WriteFault
cluster_status running.NoMemory = status end.NoMemory

-- what `bus` wants
abbrev pub bus_wanted_by : BusNumbers → BusWanted
bus_wanted_by p = record { nodes = p.nodes; messages = p.messages; seed = p.seed }

-- an end of an exchange as the program's
abbrev pub bus_end : BusEnd → End
bus_end exchanging.Done = end.Read
bus_end exchanging.WriteFault = end.WriteFault
bus_end exchanging.NoMemory = end.NoMemory

-- do the words ask for a play of the troupe?
abbrev pub asks_troupe : Option Word → Bool
asks_troupe (Some (word.Cluster p)) = true
asks_troupe (Some (word.Loopback p)) = true
asks_troupe (Some (word.Chains p)) = true
asks_troupe (Some word.Play) = false
asks_troupe (Some word.Lcp2) = false
asks_troupe (Some (word.Soak seed steps)) = false
asks_troupe (Some (word.Bus p)) = false
asks_troupe None = false

-- do they ask for an exchange over the bus?
abbrev pub asks_bus : Option Word → Bool
asks_bus (Some (word.Bus p)) = true
asks_bus (Some (word.Cluster p)) = false
asks_bus (Some (word.Loopback p)) = false
asks_bus (Some (word.Chains p)) = false
asks_bus (Some word.Play) = false
asks_bus (Some word.Lcp2) = false
asks_bus (Some (word.Soak seed steps)) = false
asks_bus None = false
