-- The line of a scenario that a word of 32 bits makes.
use Rattle.std.specs.Prelude.{ℕ, ◌+◌, ◌/◌, ◌%◌, ◌^◌, ◌<◌, ◌≡◌, nat_eq, nat_lt, Bool, false, ◌||◌, if◌then◌else◌, List, [], ◌∷◌, length, codes, slice_index_or}
use Rattle.std.specs.Fmt.{decimal}
use Rattle.std.specs.List.{filter}
use Rattle.ct_rules_cluster.specs.declared.step.Step.TheVariants as step
use Rattle.ct_lines.specs.declared.line.Command.TheVariants.{Steps}
use Rattle.ct_lines.specs.declared.line.StepCommand.TheVariants as command
use Rattle.ct_lines.specs.declared.line.NamedOp.{NamedOp}
use Rattle.ct_lines.specs.declared.line.NamedOp.TheVariants as op
use Rattle.ct_lines.specs.declared.line.ScenarioLine.{ScenarioLine}
use Rattle.ct_lines.specs.declared.line.ScenarioLine.TheVariants.{Change, ByName, Settle, Ctdb}
use Rattle.ct_values.specs.declared.client.Pair.{Pair}

-- what a word's line takes from the cluster: how many messages were sent, and which nodes run
pub record SoakView : Type 0 where
  pub sent : ℕ
  pub running : List Bool

-- four nodes, and fewer messages than a number may count
pub record IsView (v : SoakView) : Type 0 where
  pub four : length v.running ≡ 4
  pub few : v.sent < 2 ^ 62

-- ---- the parts of a word

-- which kind of line
unfoldable pub kind_in : ℕ → ℕ
kind_in w = w % 32

-- at which node
unfoldable pub node_in : ℕ → ℕ
node_in w = w / 32 % 4

-- one of the keys `a` to `h`
unfoldable pub letter_in : ℕ → ℕ
letter_in w = 97 + w / 128 % 8

abbrev pub key_in : ℕ → List ℕ
key_in w = letter_in w ∷ []

-- the database `t` or `r`
unfoldable pub is_first : ℕ → Bool
is_first w = nat_eq (w / 1024 % 2) 0

abbrev pub name_in : ℕ → List ℕ
name_in w = if is_first w then codes "t" else codes "r"

-- a number below 1,000
unfoldable pub number_in : ℕ → ℕ
number_in w = w / 2048 % 1000

-- the value that is its decimal text
abbrev pub value_in : ℕ → List ℕ
value_in w = decimal (number_in w)

-- the number of a message, of those that were sent or of the next
unfoldable pub message_in : ℕ → ℕ → ℕ
message_in w sent = 1 + w / 2048 % (sent + 1)

abbrev pub pair_in : ℕ → Pair
pair_in w = record { key = key_in w; value = value_in w }

-- does the node run?
abbrev pub runs : List Bool → ℕ → Bool
runs running node = slice_index_or running node false

-- the nodes that run, and this one
abbrev pub members_with : ℕ → List Bool → List ℕ
members_with node running = filter (λ n. runs running n || nat_eq n node) (0 ∷ 1 ∷ 2 ∷ 3 ∷ [])

-- ---- lines

-- a call at the node on the database
abbrev pub call : ℕ → NamedOp → ScenarioLine
call w asked = ByName (node_in w) (name_in w) asked

-- a call on a record, by its kind below 17
abbrev pub record_line : ℕ → ℕ → ScenarioLine
record_line w kind =
    if nat_lt kind 4
    then call w (op.Lock (key_in w))
    else if nat_lt kind 7
    then call w (op.Store (key_in w) (value_in w))
    else if nat_lt kind 11
    then call w (op.Unlock (key_in w))
    else if nat_lt kind 15
    then call w (op.Read (key_in w))
    else if nat_eq kind 15
    then Ctdb (node_in w) (Steps (command.WriteKey (name_in w) (key_in w) (value_in w)))
    else call w (op.Apply (key_in w) 1 (value_in w))

-- a step of a message, by its kind from 25 and below 28
abbrev pub message_line : ℕ → ℕ → ℕ → ScenarioLine
message_line w sent kind =
    if nat_eq kind 25
    then Change (step.Deliver (message_in w sent))
    else if nat_eq kind 26
    then Change (step.Drop (message_in w sent))
    else Change (step.Repeat (message_in w sent))

-- each eighth one is a round; the others ask for the lock of database `p`
abbrev pub round_line : ℕ → List Bool → ScenarioLine
round_line w running =
    if nat_eq (number_in w % 8) 0
    then Change (step.Recover (node_in w) (members_with (node_in w) running))
    else ByName (node_in w) (codes "g_lock") (op.Lock (codes "p"))

-- the node stops, or starts where it is down
abbrev pub turn_line : ℕ → List Bool → ScenarioLine
turn_line w running = if runs running (node_in w) then Change (step.Stop (node_in w)) else Change (step.Start (node_in w))

-- each sixteenth one stops or starts a node; the others commit
abbrev pub commit_line : ℕ → List Bool → ScenarioLine
commit_line w running =
    if nat_eq (number_in w % 16) 0
    then turn_line w running
    else ByName (node_in w) (codes "p") (op.Commit (pair_in w ∷ []))

-- the line of a word, by its kind
abbrev pub line_of_kind : ℕ → SoakView → ℕ → ScenarioLine
line_of_kind w v kind =
    if nat_lt kind 17
    then record_line w kind
    else if nat_lt kind 25
    then Settle (1 + number_in w % 8)
    else if nat_lt kind 28
    then message_line w v.sent kind
    else if nat_eq kind 28
    then Change (step.Retry (node_in w))
    else if nat_eq kind 29
    then ByName (node_in w) (codes "t") op.Vacuum
    else if nat_eq kind 30
    then round_line w v.running
    else commit_line w v.running

unfoldable pub soak_line : ℕ → SoakView → ScenarioLine
soak_line w v = line_of_kind w v (kind_in w)
