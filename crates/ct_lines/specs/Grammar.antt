-- The grammar of a scenario's lines: the words of a line in the forms that there are.
use Rattle.std.specs.Prelude.{ℕ, ◌==◌, if◌then◌else◌, List, [], ◌∷◌, codes, Option, None, Some, option_map}
use Rattle.std.specs.List.{slice_split}
use Rattle.std.specs.Str.{bytes_eq}
use Rattle.ct_spelling.specs.Number.{number_of}
use Rattle.ct_rules_cluster.specs.declared.step.Step.{Step}
use Rattle.ct_rules_cluster.specs.declared.step.Step.TheVariants as step
use Rattle.ct_values.specs.declared.client.Pair.{Pair}
use Rattle.ct_values.specs.declared.config.DbKind.{DbKind}
use Rattle.ct_lines.specs.declared.line.ScenarioLine.{ScenarioLine}
use Rattle.ct_lines.specs.declared.line.ScenarioLine.TheVariants.{Config, Change, ByName, Settle, Traverse, Ctdb}
use Rattle.ct_lines.specs.declared.line.ConfigLine.TheVariants as config
use Rattle.ct_lines.specs.declared.line.NamedOp.{NamedOp}
use Rattle.ct_lines.specs.declared.line.NamedOp.TheVariants as op
use Rattle.ct_lines.specs.declared.line.Command.{Command}
use Rattle.ct_lines.specs.declared.line.Command.TheVariants as command
use Rattle.ct_lines.specs.declared.line.ShowCommand.TheVariants as shows
use Rattle.ct_lines.specs.declared.line.StepCommand.TheVariants as steps
use Rattle.ct_lines.specs.declared.line.TraverseLine.TheVariants as traverse
use Rattle.ct_lines.specs.Words.{within, number_word, message_word, address_word, key_word, value_word, name_word, kind_word, pairs_of, members_word}

-- the words of a line, cut at each space
abbrev pub words_of : List ℕ → List (List ℕ)
words_of line = slice_split (λ b. b == 32) line

-- ---- a word and one more

-- a step of a message, as `deliver K`, or of a node alone, as `retry N`
abbrev pub number_step : List ℕ → List ℕ → Option Step
number_step w a =
    if bytes_eq w (codes "deliver")
    then option_map step.Deliver (message_word a)
    else if bytes_eq w (codes "drop")
    then option_map step.Drop (message_word a)
    else if bytes_eq w (codes "repeat")
    then option_map step.Repeat (message_word a)
    else if bytes_eq w (codes "retry")
    then option_map step.Retry (number_word a)
    else if bytes_eq w (codes "yield")
    then option_map step.Yield (number_word a)
    else if bytes_eq w (codes "stop")
    then option_map step.Stop (number_word a)
    else if bytes_eq w (codes "start")
    then option_map step.Start (number_word a)
    else if bytes_eq w (codes "takeover")
    then option_map step.Takeover (number_word a)
    else None

-- a line of traverses, or a step
abbrev pub traverse_form : List ℕ → List ℕ → Option ScenarioLine
traverse_form w a =
    if bytes_eq w (codes "walk")
    then option_map (λ n. Traverse (traverse.Walk n)) (within 1 100001 (number_of a))
    else if bytes_eq w (codes "carry")
    then option_map (λ k. Traverse (traverse.Carry k)) (message_word a)
    else if bytes_eq w (codes "lose")
    then option_map (λ k. Traverse (traverse.Lose k)) (message_word a)
    else if bytes_eq w (codes "again")
    then option_map (λ k. Traverse (traverse.Again k)) (message_word a)
    else option_map Change (number_step w a)

-- a line of what the cluster is, `settle M`, a line of traverses, or a step
abbrev pub one_form : List ℕ → List ℕ → Option ScenarioLine
one_form w a =
    if bytes_eq w (codes "nodes")
    then option_map (λ n. Config (config.Nodes n)) (within 1 17 (number_of a))
    else if bytes_eq w (codes "address")
    then option_map (λ x. Config (config.Address x)) (address_word a)
    else if bytes_eq w (codes "settle")
    then option_map Settle (within 1 100001 (number_of a))
    else traverse_form w a

-- ---- a word and two more

abbrev pub db_line : Option (List ℕ) → Option DbKind → Option ScenarioLine
db_line None kind = None
db_line (Some name) None = None
db_line (Some name) (Some kind) = Some (Config (config.Db (record { name = name; kind = kind })))

-- a call at a node on a database
abbrev pub call_line : Option ℕ → Option (List ℕ) → Option NamedOp → Option ScenarioLine
call_line None db op = None
call_line (Some node) None op = None
call_line (Some node) (Some db) None = None
call_line (Some node) (Some db) (Some op) = Some (ByName node db op)

abbrev pub recover_line : Option ℕ → Option (List ℕ) → Option ScenarioLine
recover_line None members = None
recover_line (Some node) None = None
recover_line (Some node) (Some members) = Some (Change (step.Recover node members))

-- `db NAME KIND`, `vacuum N DB`, `recover N LIST`
abbrev pub two_form : List ℕ → List ℕ → List ℕ → Option ScenarioLine
two_form w a b =
    if bytes_eq w (codes "db")
    then db_line (name_word a) (kind_word b)
    else if bytes_eq w (codes "vacuum")
    then call_line (number_word a) (name_word b) (Some op.Vacuum)
    else if bytes_eq w (codes "recover")
    then recover_line (number_word a) (members_word b)
    else None

-- ---- calls

-- a call on a key, by its first word
abbrev pub key_op : List ℕ → Option (List ℕ) → Option NamedOp
key_op w None = None
key_op w (Some key) =
    if bytes_eq w (codes "lock")
    then Some (op.Lock key)
    else if bytes_eq w (codes "read")
    then Some (op.Read key)
    else if bytes_eq w (codes "unlock")
    then Some (op.Unlock key)
    else None

-- a call on a key with a value
abbrev pub value_op : List ℕ → Option (List ℕ) → Option (List ℕ) → Option NamedOp
value_op w None value = None
value_op w (Some key) None = None
value_op w (Some key) (Some value) = if bytes_eq w (codes "store") then Some (op.Store key value) else None

-- a call on a key of a function with an argument
abbrev pub apply_op : List ℕ → Option (List ℕ) → Option ℕ → Option (List ℕ) → Option NamedOp
apply_op w None function arg = None
apply_op w (Some key) None arg = None
apply_op w (Some key) (Some function) None = None
apply_op w (Some key) (Some function) (Some arg) = if bytes_eq w (codes "apply") then Some (op.Apply key function arg) else None

-- the line of a word and these after it, by their number
abbrev pub plain_form : List ℕ → List ℕ → List (List ℕ) → Option ScenarioLine
plain_form w a [] = one_form w a
plain_form w a (b ∷ []) = two_form w a b
plain_form w n (d ∷ k ∷ []) = call_line (number_word n) (name_word d) (key_op w (key_word k))
plain_form w n (d ∷ k ∷ v ∷ []) = call_line (number_word n) (name_word d) (value_op w (key_word k) (value_word v))
plain_form w n (d ∷ k ∷ f ∷ x ∷ []) = call_line (number_word n) (name_word d) (apply_op w (key_word k) (number_word f) (value_word x))
plain_form w n (d ∷ k ∷ f ∷ x ∷ y ∷ more) = None

-- `commit N DB KEY=VALUE` and further pairs
abbrev pub commit_form : List ℕ → List (List ℕ) → Option ScenarioLine
commit_form n [] = None
commit_form n (d ∷ pairs) = call_line (number_word n) (name_word d) (option_map op.Commit (pairs_of pairs))

-- ---- commands

-- a command of one word
abbrev pub bare_command : List ℕ → Option Command
bare_command c =
    if bytes_eq c (codes "pnn")
    then Some (command.Shows shows.Pnn)
    else if bytes_eq c (codes "listnodes")
    then Some (command.Shows shows.ListNodes)
    else if bytes_eq c (codes "status")
    then Some (command.Shows shows.Status)
    else if bytes_eq c (codes "ip")
    then Some (command.Shows shows.Ip)
    else if bytes_eq c (codes "getdbmap")
    then Some (command.Shows shows.GetDbMap)
    else if bytes_eq c (codes "disable")
    then Some (command.Steps steps.Disable)
    else if bytes_eq c (codes "enable")
    then Some (command.Steps steps.Enable)
    else if bytes_eq c (codes "recover")
    then Some (command.Steps steps.Recover)
    else None

abbrev pub db_command : List ℕ → Option (List ℕ) → Option Command
db_command c None = None
db_command c (Some db) =
    if bytes_eq c (codes "cattdb")
    then Some (command.Shows (shows.CatTdb db))
    else if bytes_eq c (codes "getdbseqnum")
    then Some (command.Shows (shows.GetDbSeqNum db))
    else if bytes_eq c (codes "catdb")
    then Some (command.CatDb db)
    else None

abbrev pub key_command : List ℕ → Option (List ℕ) → Option (List ℕ) → Option Command
key_command c None key = None
key_command c (Some db) None = None
key_command c (Some db) (Some key) =
    if bytes_eq c (codes "readkey")
    then Some (command.Steps (steps.ReadKey db key))
    else if bytes_eq c (codes "deletekey")
    then Some (command.Steps (steps.DeleteKey db key))
    else None

abbrev pub value_command : List ℕ → Option (List ℕ) → Option (List ℕ) → Option (List ℕ) → Option Command
value_command c None key value = None
value_command c (Some db) None value = None
value_command c (Some db) (Some key) None = None
value_command c (Some db) (Some key) (Some value) = if bytes_eq c (codes "writekey") then Some (command.Steps (steps.WriteKey db key value)) else None

abbrev pub writes_command : Option (List ℕ) → Option (List Pair) → Option Command
writes_command None writes = None
writes_command (Some db) None = None
writes_command (Some db) (Some writes) = Some (command.Steps (steps.PTrans db writes))

-- `ptrans DB KEY=VALUE` and further pairs
abbrev pub ptrans_form : List (List ℕ) → Option Command
ptrans_form [] = None
ptrans_form (d ∷ pairs) = writes_command (name_word d) (pairs_of pairs)

-- the command of a word and these after it, by their number
abbrev pub plain_command : List ℕ → List (List ℕ) → Option Command
plain_command c [] = bare_command c
plain_command c (d ∷ []) = db_command c (name_word d)
plain_command c (d ∷ k ∷ []) = key_command c (name_word d) (key_word k)
plain_command c (d ∷ k ∷ v ∷ []) = value_command c (name_word d) (key_word k) (value_word v)
plain_command c (d ∷ k ∷ v ∷ x ∷ more) = None

abbrev pub command_of : List (List ℕ) → Option Command
command_of [] = None
command_of (c ∷ args) = if bytes_eq c (codes "ptrans") then ptrans_form args else plain_command c args

abbrev pub ctdb_line : Option ℕ → Option Command → Option ScenarioLine
ctdb_line None command = None
ctdb_line (Some node) None = None
ctdb_line (Some node) (Some command) = Some (Ctdb node command)

-- ---- lines

-- the line that these words are
abbrev pub form : List (List ℕ) → Option ScenarioLine
form [] = None
form (w ∷ []) = None
form (w ∷ n ∷ args) =
    if bytes_eq w (codes "commit")
    then commit_form n args
    else if bytes_eq w (codes "ctdb")
    then ctdb_line (number_word n) (command_of args)
    else plain_form w n args

-- the scenario line that these bytes are, without the line feed, if they are one
unfoldable pub line_of : List ℕ → Option ScenarioLine
line_of line = form (words_of line)
