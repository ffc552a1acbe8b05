-- What a line does to a cluster and its traverses.
use Rattle.std.specs.Prelude.{◌≡◌, ℕ, ◌==◌, if◌then◌else◌, List, [], ◌∷◌, ◌++◌, map, Option, None, Some, Result, Ok, Err, Vec}
use Rattle.std.specs.declared.alloc.Global.{Global}
use Rattle.std.specs.List.{flat_map}
use Rattle.ct_call.specs.Rules.{Rules}
use Rattle.ct_rules_cluster.specs.Cluster.{node_at, World}
use Rattle.ct_rules_cluster.specs.Faults.{fault_of}
use Rattle.ct_rules_cluster.specs.Steps.{Stepped, applied}
use Rattle.ct_rules_cluster.specs.declared.step.Line.{Line}
use Rattle.ct_rules_cluster.specs.declared.step.Step.{Step}
use Rattle.ct_rules_cluster.specs.declared.step.Step.TheVariants as step
use Rattle.ct_rules_cluster.specs.declared.step.StepFault.{StepFault}
use Rattle.ct_rules_cluster.specs.declared.step.StepFault.TheVariants as fault
use Rattle.ct_rules_node.specs.Node.{is_persistent, kind_at}
use Rattle.ct_mail.specs.Mail.{next_waiting}
use Rattle.ct_text_commands.specs.Command.{command_text}
use Rattle.ct_text_commands.specs.declared.command.TextFault.{TextFault}
use Rattle.ct_text_commands.specs.declared.command.TextFault.TheVariants as untold
use Rattle.ct_traverse_parts.specs.Moves.{Move, Stepped as Took, Begin, Carry, Lose, Again, going_on}
use Rattle.ct_traverse_parts.specs.Posts.{next_waiting as next_post}
use Rattle.ct_traverse_parts.specs.Walk.{Walk, Walked, begun, carried, lost, repeated}
use Rattle.ct_traverse_parts.specs.declared.line.TFault.{TFault}
use Rattle.ct_traverse_parts.specs.declared.line.TFault.TheVariants as unmoved
use Rattle.ct_traverse_parts.specs.declared.line.TLine.{TLine}
use Rattle.ct_lines.specs.declared.line.Command.{Command}
use Rattle.ct_lines.specs.declared.line.Command.TheVariants.{Shows, Steps, CatDb}
use Rattle.ct_lines.specs.declared.line.ScenarioLine.{ScenarioLine}
use Rattle.ct_lines.specs.declared.line.ScenarioLine.TheVariants as item
use Rattle.ct_lines.specs.declared.line.ShowCommand.{ShowCommand}
use Rattle.ct_lines.specs.declared.line.ShowCommand.TheVariants as shows
use Rattle.ct_lines.specs.declared.line.TraverseLine.{TraverseLine}
use Rattle.ct_lines.specs.declared.line.TraverseLine.TheVariants as traverse
use Rattle.ct_values.specs.declared.config.Config.{Config}
use Rattle.ct_text.specs.Line.{line_text}
use Rattle.ct_traverse_parts.specs.Text.{traverse_text}
use Rattle.ct_play.specs.Course.{Effect, still, up_to}
use Rattle.ct_named.specs.Named.{command_step, named_step, number_in_step}
use Rattle.ct_play_text.specs.declared.what.PlayFault.{PlayFault}
use Rattle.ct_play_text.specs.declared.what.PlayFault.TheVariants.{Refused, NoMemory}
use Rattle.ct_play_text.specs.declared.what.What.{What}
use Rattle.ct_play_text.specs.declared.what.What.TheVariants as what

-- ---- texts

-- what follows the last line feed is a line too, unless it is nothing
abbrev pub last_line : List ℕ → List (List ℕ)
last_line [] = []
last_line (x ∷ xs) = (x ∷ xs) ∷ []

-- a text cut after each line feed, where this line of it was begun
abbrev pub cut_after : List ℕ → List ℕ → List (List ℕ)
cut_after line [] = last_line line
cut_after line (x ∷ xs) = if x == 10 then (line ++ x ∷ []) ∷ cut_after [] xs else cut_after (line ++ x ∷ []) xs

-- the lines of text of what traverses printed
abbrev pub traverse_texts : List TLine → List (List ℕ)
traverse_texts lines = cut_after [] (flat_map traverse_text lines)

-- ---- steps

-- why a step is refused, as why its line is; the rule of a step never wants memory
abbrev pub what_of : StepFault → What
what_of (fault.NoSuchNode n) = what.NoSuchNode n
what_of (fault.NodeDown n) = what.NodeDown n
what_of (fault.NodeUp n) = what.NodeUp n
what_of (fault.NoSuchDb db) = what.NoSuchDb
what_of (fault.WrongKind db) = what.WrongKind
what_of (fault.NotServing n) = what.NotServing n
what_of (fault.NotLeader n) = what.NotLeader n
what_of (fault.NoSuchFrame k) = what.NoSuchFrame k
what_of (fault.NotMember n) = what.NotMember n
what_of (fault.LockHeld n) = what.LockHeld n
what_of (fault.NotHolder holder) = what.NotHolder
what_of fault.Exhausted = what.Exhausted
what_of fault.NoMemory = what.Exhausted

-- want of memory, or why the line is refused
abbrev pub refused_by : StepFault → PlayFault
refused_by fault.NoMemory = NoMemory
refused_by f = Refused (what_of f)

-- a step led to this cluster and printed these lines; then the traverses end whose node is in its generation no more
abbrev pub taken : Step → World → List Line → Walk → Effect
taken s w lines k = record {
  world = w;
  walk = (going_on w k).walk;
  texts = map (line_text w.config) lines ++ traverse_texts (going_on w k).lines;
  deeds = record { move = Took s; lines = lines; told = (going_on w k).lines } ∷ [];
}

-- the effect of a step, or why it is refused
abbrev pub step_effect : Step → Config → Walk → Result Stepped StepFault → Result Effect What
step_effect s c k (Ok x) = Ok (taken s (record { config = c; cluster = x.cluster }) x.lines k)
step_effect s c k (Err f) = Err (what_of f)

-- one step
abbrev pub stepped : Rules → World → Walk → Step → Result Effect What
stepped rules w k s = step_effect s w.config k (applied w.config rules w.cluster s)

-- the message of this number comes, if there is one
abbrev pub delivery : Rules → World → Walk → Option ℕ → Option (Result Effect What)
delivery rules w k None = None
delivery rules w k (Some number) = Some (stepped rules w k (step.Deliver number))

-- so many deliveries of the least message that waits, one after the other; fewer where none waits
abbrev pub settled : Rules → ℕ → World → Walk → Result Effect What
settled rules m w k = up_to m (λ v l. delivery rules v l (next_waiting v.cluster.sent)) w k

-- ---- traverses

-- why a move is refused, as why its line is; the rule of a move never wants memory
abbrev pub unmoved_of : TFault → What
unmoved_of (unmoved.NoSuchNode n) = what.NoSuchNode n
unmoved_of (unmoved.NodeDown n) = what.NodeDown n
unmoved_of (unmoved.NoSuchDb db) = what.NoSuchDb
unmoved_of (unmoved.NotServing n) = what.NotServing n
unmoved_of (unmoved.NoSuchMessage k) = what.NoSuchTframe k
unmoved_of unmoved.Exhausted = what.Exhausted
unmoved_of unmoved.NoMemory = what.Exhausted

-- want of memory, or why the line is refused
abbrev pub unmoved_by : TFault → PlayFault
unmoved_by unmoved.NoMemory = NoMemory
unmoved_by f = Refused (unmoved_of f)

-- the effect of a call of traverses, or why it is refused
abbrev pub move_effect : Move → World → Result Walked TFault → Result Effect What
move_effect m w (Ok x) = Ok (record { world = w; walk = x.walk; texts = traverse_texts x.lines; deeds = record { move = m; lines = []; told = x.lines } ∷ [] })
move_effect m w (Err f) = Err (unmoved_of f)

-- a node begins a traverse of a database
abbrev pub traverse_begun : World → Walk → ℕ → ℕ → Result Effect What
traverse_begun w k n db = move_effect (Begin n db) w (begun n db w k)

-- a message of traverses comes, is lost, or comes again
abbrev pub message_carried : World → Walk → ℕ → Result Effect What
message_carried w k number = move_effect (Carry number) w (carried number w k)

abbrev pub message_lost : World → Walk → ℕ → Result Effect What
message_lost w k number = move_effect (Lose number) w (lost number k)

abbrev pub message_repeated : World → Walk → ℕ → Result Effect What
message_repeated w k number = move_effect (Again number) w (repeated number w k)

-- the message of this number comes, if there is one
abbrev pub carriage : World → Walk → Option ℕ → Option (Result Effect What)
carriage w k None = None
carriage w k (Some number) = Some (message_carried w k number)

-- so many of the least message that waits come, one after the other; fewer where none waits
abbrev pub walked : ℕ → World → Walk → Result Effect What
walked m w k = up_to m (λ v l. carriage v l (next_post l.posts)) w k

-- a line of traverses
abbrev pub traversed : World → Walk → TraverseLine → Result Effect What
traversed w k (traverse.Walk m) = walked m w k
traversed w k (traverse.Carry number) = message_carried w k number
traversed w k (traverse.Lose number) = message_lost w k number
traversed w k (traverse.Again number) = message_repeated w k number

-- ---- commands

-- why a command has no text; its rule never wants memory
abbrev pub untold_of : TextFault → What
untold_of untold.NoSuchDb = what.NoSuchDb
untold_of untold.WrongKind = what.WrongKind
untold_of untold.NoMemory = what.Exhausted

-- the lines of the text of a command
abbrev pub lines_of : Result (List ℕ) TextFault → Result (List (List ℕ)) What
lines_of (Ok text) = Ok (cut_after [] text)
lines_of (Err f) = Err (untold_of f)

-- it is refused as a step at a node that is not there, or is down
abbrev pub shown_unless : Option StepFault → World → ℕ → ShowCommand → Result (List (List ℕ)) What
shown_unless (Some f) w n command = Err (what_of f)
shown_unless None w n command = lines_of (command_text w.config n (node_at n w.cluster) w.cluster.running w.cluster.able command)

-- the lines of a command that shows something
abbrev pub shown : World → ℕ → ShowCommand → Result (List (List ℕ)) What
shown w n command = shown_unless (fault_of w.config w.cluster (step.Retry n)) w n command

-- it changes nothing
abbrev pub text_effect : World → Walk → Result (List (List ℕ)) What → Result Effect What
text_effect w k (Ok texts) = Ok (record { world = w; walk = k; texts = texts; deeds = [] })
text_effect w k (Err what) = Err what

-- the records of a database in all members: a persistent one is shown at once, and of any other a traverse begins
abbrev pub catted : World → Walk → ℕ → List ℕ → ℕ → Result Effect What
catted w k n name db = if is_persistent (kind_at w.config db) then text_effect w k (shown w n (shows.CatTdb name)) else traverse_begun w k n db

-- a command that shows something, is a step, or begins a traverse
abbrev pub commanded : Rules → World → Walk → ℕ → Command → Result Effect What
commanded rules w k n (Shows command) = text_effect w k (shown w n command)
commanded rules w k n (Steps command) = stepped rules w k (command_step w.config w.cluster n command)
commanded rules w k n (CatDb name) = catted w k n name (number_in_step w.config name)

-- ---- lines

-- what a line does; a configuration line does nothing
abbrev pub line_effect : Rules → World → Walk → ScenarioLine → Result Effect What
line_effect rules w k (item.Config said) = Ok (still w k)
line_effect rules w k (item.Change s) = stepped rules w k s
line_effect rules w k (item.ByName n db asked) = stepped rules w k (named_step n (number_in_step w.config db) asked)
line_effect rules w k (item.Settle m) = settled rules m w k
line_effect rules w k (item.Traverse said) = traversed w k said
line_effect rules w k (item.Ctdb n command) = commanded rules w k n command

-- ---- in code

-- Ok has exactly the lines, and a refusal comes exactly where there are none. Memory may be wanting in place of each.
abbrev pub ShowsLines : Result (Vec (List ℕ) Global) PlayFault → Result (List (List ℕ)) What → Type 0
ShowsLines (Ok texts) lines = lines ≡ Ok texts.items
ShowsLines (Err (Refused what)) lines = lines ≡ Err what
ShowsLines (Err NoMemory) lines = Unit {0}

-- The texts of what a call of traverses printed come after these; or the line is refused as the call was. Memory may be wanting
-- in place of each.
abbrev pub TellsMove : Result (Vec TLine Global) TFault → Result (Unit {0}) PlayFault → List (List ℕ) → List (List ℕ) → Type 0
TellsMove (Ok lines) (Ok u) before now = now ≡ before ++ traverse_texts lines.items
TellsMove (Ok lines) (Err (Refused what)) before now = ⊥
TellsMove (Ok lines) (Err NoMemory) before now = Unit {0}
TellsMove (Err f) told before now = told ≡ Err (unmoved_by f)

-- the new cluster, its traverses and the texts are those of the effect
abbrev pub IsEffect : Result Effect What → World → Walk → List (List ℕ) → Type 0
IsEffect (Ok e) world walk texts = (e.world ≡ world) × (e.walk ≡ walk) × (e.texts ≡ texts)
IsEffect (Err what) world walk texts = ⊥

-- Ok is exactly the effect, and a refusal comes exactly where it is one. Memory may be wanting in place of each.
abbrev pub Works : Result (Vec (List ℕ) Global) PlayFault → Result Effect What → World → Walk → Type 0
Works (Ok texts) effect world walk = IsEffect effect world walk texts.items
Works (Err (Refused what)) effect world walk = effect ≡ Err what
Works (Err NoMemory) effect world walk = Unit {0}
