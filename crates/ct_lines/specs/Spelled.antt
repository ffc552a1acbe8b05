-- The one text of each line, and which lines are in their range.
use Rattle.std.specs.Prelude.{◌≡◌, ℕ, ◌<◌, ◌≤◌, ◌^◌, nat_lt, true, List, [], ◌∷◌, length, map, codes, None}
use Rattle.std.specs.Fmt.{decimal}
use Rattle.std.specs.List.{All, join_with_byte}
use Rattle.ct_values.specs.Address.{address_text, IsAddress}
use Rattle.ct_values.specs.Name.{bad_byte}
use Rattle.ct_spelling.specs.Spelling.{AreBytes, spelling}
use Rattle.ct_rules_cluster.specs.declared.step.Step.{Step}
use Rattle.ct_rules_cluster.specs.declared.step.Step.TheVariants as step
use Rattle.ct_frame.specs.Fields.{ascends}
use Rattle.ct_values.specs.declared.client.Pair.{Pair}
use Rattle.ct_values.specs.declared.config.DbKind.{DbKind}
use Rattle.ct_values.specs.declared.config.DbKind.TheVariants.{Volatile, ReadOnly, Persistent}
use Rattle.ct_lines.specs.declared.line.ScenarioLine.{ScenarioLine}
use Rattle.ct_lines.specs.declared.line.ScenarioLine.TheVariants.{Config, Change, ByName, Settle, Traverse, Ctdb}
use Rattle.ct_lines.specs.declared.line.ConfigLine.{ConfigLine}
use Rattle.ct_lines.specs.declared.line.ConfigLine.TheVariants as config
use Rattle.ct_lines.specs.declared.line.NamedOp.{NamedOp}
use Rattle.ct_lines.specs.declared.line.NamedOp.TheVariants as op
use Rattle.ct_lines.specs.declared.line.Command.{Command}
use Rattle.ct_lines.specs.declared.line.Command.TheVariants as command
use Rattle.ct_lines.specs.declared.line.ShowCommand.{ShowCommand}
use Rattle.ct_lines.specs.declared.line.ShowCommand.TheVariants as shows
use Rattle.ct_lines.specs.declared.line.StepCommand.{StepCommand}
use Rattle.ct_lines.specs.declared.line.StepCommand.TheVariants as steps
use Rattle.ct_lines.specs.declared.line.TraverseLine.{TraverseLine}
use Rattle.ct_lines.specs.declared.line.TraverseLine.TheVariants as traverse

-- ---- texts

abbrev pub kind_text : DbKind → List ℕ
kind_text Volatile = codes "volatile"
kind_text ReadOnly = codes "readonly"
kind_text Persistent = codes "persistent"

-- `KEY=VALUE`
abbrev pub pair_text : Pair → List ℕ
pair_text pair = join_with_byte 61 (spelling pair.key ∷ spelling pair.value ∷ [])

-- numbers with a comma between each two
abbrev pub members_text : List ℕ → List ℕ
members_text members = join_with_byte 44 (map decimal members)

abbrev pub config_words : ConfigLine → List (List ℕ)
config_words (config.Nodes n) = codes "nodes" ∷ decimal n ∷ []
config_words (config.Db db) = codes "db" ∷ db.name ∷ kind_text db.kind ∷ []
config_words (config.Address a) = codes "address" ∷ address_text a ∷ []

-- a step that names a database, or asks as a client does, is no line of its own
abbrev pub step_words : Step → List (List ℕ)
step_words (step.Client node asked) = []
step_words (step.Deliver k) = codes "deliver" ∷ decimal k ∷ []
step_words (step.Drop k) = codes "drop" ∷ decimal k ∷ []
step_words (step.Repeat k) = codes "repeat" ∷ decimal k ∷ []
step_words (step.Retry n) = codes "retry" ∷ decimal n ∷ []
step_words (step.Vacuum node db) = []
step_words (step.Recover node members) = codes "recover" ∷ decimal node ∷ members_text members ∷ []
step_words (step.Yield n) = codes "yield" ∷ decimal n ∷ []
step_words (step.Stop n) = codes "stop" ∷ decimal n ∷ []
step_words (step.Start n) = codes "start" ∷ decimal n ∷ []
step_words (step.Takeover n) = codes "takeover" ∷ decimal n ∷ []
step_words (step.Able node able) = []

abbrev pub op_text : NamedOp → List ℕ
op_text (op.Lock key) = codes "lock"
op_text (op.Read key) = codes "read"
op_text (op.Unlock key) = codes "unlock"
op_text (op.Store key value) = codes "store"
op_text (op.Apply key function arg) = codes "apply"
op_text (op.Commit pairs) = codes "commit"
op_text op.Vacuum = codes "vacuum"

-- what stands after the database
abbrev pub op_words : NamedOp → List (List ℕ)
op_words (op.Lock key) = spelling key ∷ []
op_words (op.Read key) = spelling key ∷ []
op_words (op.Unlock key) = spelling key ∷ []
op_words (op.Store key value) = spelling key ∷ spelling value ∷ []
op_words (op.Apply key function arg) = spelling key ∷ decimal function ∷ spelling arg ∷ []
op_words (op.Commit pairs) = map pair_text pairs
op_words op.Vacuum = []

abbrev pub show_command_words : ShowCommand → List (List ℕ)
show_command_words shows.Pnn = codes "pnn" ∷ []
show_command_words shows.ListNodes = codes "listnodes" ∷ []
show_command_words shows.Status = codes "status" ∷ []
show_command_words shows.Ip = codes "ip" ∷ []
show_command_words shows.GetDbMap = codes "getdbmap" ∷ []
show_command_words (shows.CatTdb db) = codes "cattdb" ∷ db ∷ []
show_command_words (shows.GetDbSeqNum db) = codes "getdbseqnum" ∷ db ∷ []

abbrev pub step_command_words : StepCommand → List (List ℕ)
step_command_words steps.Disable = codes "disable" ∷ []
step_command_words steps.Enable = codes "enable" ∷ []
step_command_words (steps.ReadKey db key) = codes "readkey" ∷ db ∷ spelling key ∷ []
step_command_words (steps.WriteKey db key value) = codes "writekey" ∷ db ∷ spelling key ∷ spelling value ∷ []
step_command_words (steps.DeleteKey db key) = codes "deletekey" ∷ db ∷ spelling key ∷ []
step_command_words (steps.PTrans db writes) = codes "ptrans" ∷ db ∷ map pair_text writes
step_command_words steps.Recover = codes "recover" ∷ []

abbrev pub command_words : Command → List (List ℕ)
command_words (command.Shows asked) = show_command_words asked
command_words (command.Steps asked) = step_command_words asked
command_words (command.CatDb db) = codes "catdb" ∷ db ∷ []

abbrev pub traverse_words : TraverseLine → List (List ℕ)
traverse_words (traverse.Walk count) = codes "walk" ∷ decimal count ∷ []
traverse_words (traverse.Carry k) = codes "carry" ∷ decimal k ∷ []
traverse_words (traverse.Lose k) = codes "lose" ∷ decimal k ∷ []
traverse_words (traverse.Again k) = codes "again" ∷ decimal k ∷ []

abbrev pub spelled_words : ScenarioLine → List (List ℕ)
spelled_words (Config what) = config_words what
spelled_words (Change change) = step_words change
spelled_words (ByName node db asked) = op_text asked ∷ decimal node ∷ db ∷ op_words asked
spelled_words (Settle count) = codes "settle" ∷ decimal count ∷ []
spelled_words (Traverse said) = traverse_words said
spelled_words (Ctdb node asked) = codes "ctdb" ∷ decimal node ∷ command_words asked

-- the text of a line, without the line feed: its words with one space between each two
abbrev pub spelled_line : ScenarioLine → List ℕ
spelled_line item = join_with_byte 32 (spelled_words item)

-- ---- ranges

abbrev pub IsSmall : ℕ → Type 0
IsSmall n = n < 4294967296

abbrev pub IsMessage : ℕ → Type 0
IsMessage k = (1 ≤ k) × (k < 4611686018427387904)

abbrev pub IsName : List ℕ → Type 0
IsName name = (1 ≤ length name) × (length name ≤ 63) × (bad_byte name ≡ None)

abbrev pub IsKey : List ℕ → Type 0
IsKey key = (1 ≤ length key) × (length key ≤ 255) × AreBytes key

abbrev pub IsValue : List ℕ → Type 0
IsValue value = (length value ≤ 1024) × AreBytes value

abbrev pub IsPair : Pair → Type 0
IsPair pair = IsKey pair.key × IsValue pair.value

-- 1 to 16 pairs
abbrev pub ArePairs : List Pair → Type 0
ArePairs pairs = (1 ≤ length pairs) × (length pairs ≤ 16) × All IsPair pairs

-- 1 to 16 numbers that ascend
abbrev pub AreMembers : List ℕ → Type 0
AreMembers members = (1 ≤ length members) × (length members ≤ 16) × All IsSmall members × (ascends nat_lt members ≡ true)

abbrev pub IsConfig : ConfigLine → Type 0
IsConfig (config.Nodes n) = (1 ≤ n) × (n ≤ 16)
IsConfig (config.Db db) = IsName db.name
IsConfig (config.Address a) = IsAddress a

abbrev pub IsChange : Step → Type 0
IsChange (step.Client node asked) = ⊥
IsChange (step.Deliver k) = IsMessage k
IsChange (step.Drop k) = IsMessage k
IsChange (step.Repeat k) = IsMessage k
IsChange (step.Retry n) = IsSmall n
IsChange (step.Vacuum node db) = ⊥
IsChange (step.Recover node members) = IsSmall node × AreMembers members
IsChange (step.Yield n) = IsSmall n
IsChange (step.Stop n) = IsSmall n
IsChange (step.Start n) = IsSmall n
IsChange (step.Takeover n) = IsSmall n
IsChange (step.Able node able) = ⊥

abbrev pub IsOp : NamedOp → Type 0
IsOp (op.Lock key) = IsKey key
IsOp (op.Read key) = IsKey key
IsOp (op.Unlock key) = IsKey key
IsOp (op.Store key value) = IsKey key × IsValue value
IsOp (op.Apply key function arg) = IsKey key × IsSmall function × IsValue arg
IsOp (op.Commit pairs) = ArePairs pairs
IsOp op.Vacuum = Unit {0}

abbrev pub IsShowCommand : ShowCommand → Type 0
IsShowCommand shows.Pnn = Unit {0}
IsShowCommand shows.ListNodes = Unit {0}
IsShowCommand shows.Status = Unit {0}
IsShowCommand shows.Ip = Unit {0}
IsShowCommand shows.GetDbMap = Unit {0}
IsShowCommand (shows.CatTdb db) = IsName db
IsShowCommand (shows.GetDbSeqNum db) = IsName db

abbrev pub IsStepCommand : StepCommand → Type 0
IsStepCommand steps.Disable = Unit {0}
IsStepCommand steps.Enable = Unit {0}
IsStepCommand (steps.ReadKey db key) = IsName db × IsKey key
IsStepCommand (steps.WriteKey db key value) = IsName db × IsKey key × IsValue value
IsStepCommand (steps.DeleteKey db key) = IsName db × IsKey key
IsStepCommand (steps.PTrans db writes) = IsName db × ArePairs writes
IsStepCommand steps.Recover = Unit {0}

abbrev pub IsCommand : Command → Type 0
IsCommand (command.Shows asked) = IsShowCommand asked
IsCommand (command.Steps asked) = IsStepCommand asked
IsCommand (command.CatDb db) = IsName db

-- up to so many deliveries
abbrev pub IsCount : ℕ → Type 0
IsCount count = (1 ≤ count) × (count ≤ 100000)

abbrev pub IsTraverse : TraverseLine → Type 0
IsTraverse (traverse.Walk count) = IsCount count
IsTraverse (traverse.Carry k) = IsMessage k
IsTraverse (traverse.Lose k) = IsMessage k
IsTraverse (traverse.Again k) = IsMessage k

-- each number, name, key, value, address and list of a line in its range
abbrev pub IsInRange : ScenarioLine → Type 0
IsInRange (Config what) = IsConfig what
IsInRange (Change change) = IsChange change
IsInRange (ByName node db asked) = IsSmall node × IsName db × IsOp asked
IsInRange (Settle count) = IsCount count
IsInRange (Traverse said) = IsTraverse said
IsInRange (Ctdb node asked) = IsSmall node × IsCommand asked
