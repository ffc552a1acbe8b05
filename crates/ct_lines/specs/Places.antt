-- The place of a line after the lines that were accepted before it.
use Rattle.std.specs.Prelude.{◌≡◌, ℕ, nat_le, is_none, is_some, Bool, true, false, ◌||◌, if◌then◌else◌, List, [], ◌∷◌, ◌++◌, length, Option, None, Some, Result, Ok, Err}
use Rattle.std.specs.List.{list_any}
use Rattle.ct_values.specs.Address.{same_address}
use Rattle.ct_values.specs.declared.address.Address.{Address}
use Rattle.ct_values.specs.Config.{Configures, config_fault, lock_db, same_name}
use Rattle.ct_values.specs.declared.config.Config.{Config}
use Rattle.ct_values.specs.declared.config.DbDecl.{DbDecl}
use Rattle.ct_lines.specs.declared.line.ConfigLine.{ConfigLine}
use Rattle.ct_lines.specs.declared.line.ConfigLine.TheVariants as config
use Rattle.ct_lines.specs.declared.line.LineKind.{LineKind}
use Rattle.ct_lines.specs.declared.line.LineKind.TheVariants.{Order, Repeat, Limit}
use Rattle.ct_lines.specs.declared.line.LineKindFault.{LineKindFault}
use Rattle.ct_lines.specs.declared.line.LineKindFault.TheVariants.{Kind, NoMemory}
use Rattle.ct_lines.specs.declared.line.ScenarioLine.{ScenarioLine}
use Rattle.ct_lines.specs.declared.line.ScenarioLine.TheVariants as line

-- What the lines that were accepted say: how many nodes there are, once a line says it; the databases and the addresses, in
-- the order of their lines; and whether a line came that says nothing of what the cluster is
pub record Accepted : Type 0 where
  pub nodes : Option ℕ
  pub dbs : List DbDecl
  pub addresses : List Address
  pub begun : Bool

-- before the first line
abbrev pub nothing_accepted : Accepted
nothing_accepted = record { nodes = None; dbs = []; addresses = []; begun = false }

-- ---- why a line is refused

-- the first of these reasons that holds, if one does
abbrev pub first_reason : Bool → Bool → Bool → Option LineKind
first_reason order repeat limit = if order then Some Order else if repeat then Some Repeat else if limit then Some Limit else None

-- may no database and no address be declared? They come after `nodes`, and before each line that says nothing of what the
-- cluster is
abbrev pub is_closed : Accepted → Bool
is_closed a = is_none a.nodes || a.begun

-- is the name taken? `g_lock` is from the start
abbrev pub is_named : DbDecl → Accepted → Bool
is_named d a = list_any (same_name d) (lock_db ∷ a.dbs)

-- is the address there already?
abbrev pub is_there : Address → Accepted → Bool
is_there x a = list_any (same_address x) a.addresses

-- Refusal of a line that says what the cluster is: `nodes` is the first line alone, no name and no address comes twice, and
-- there are at most 15 databases and 64 addresses
abbrev pub config_refusal : ConfigLine → Accepted → Option LineKind
config_refusal (config.Nodes n) a = first_reason (is_some a.nodes) false false
config_refusal (config.Db d) a = first_reason (is_closed a) (is_named d a) (nat_le 15 (length a.dbs))
config_refusal (config.Address x) a = first_reason (is_closed a) (is_there x a) (nat_le 64 (length a.addresses))

-- Refusal of any other line: it is not the first one
abbrev pub later_refusal : Accepted → Option LineKind
later_refusal a = first_reason (is_none a.nodes) false false

-- Refusal of a line, if it is refused
abbrev pub refusal : ScenarioLine → Accepted → Option LineKind
refusal (line.Config what) a = config_refusal what a
refusal (line.Change step) a = later_refusal a
refusal (line.ByName node db asked) a = later_refusal a
refusal (line.Settle count) a = later_refusal a
refusal (line.Traverse said) a = later_refusal a
refusal (line.Ctdb node asked) a = later_refusal a

-- ---- what a line adds

abbrev pub with_config : ConfigLine → Accepted → Accepted
with_config (config.Nodes n) a = record a { nodes = Some n }
with_config (config.Db d) a = record a { dbs = a.dbs ++ d ∷ [] }
with_config (config.Address x) a = record a { addresses = a.addresses ++ x ∷ [] }

abbrev pub with_later : Accepted → Accepted
with_later a = record a { begun = true }

abbrev pub with_line : ScenarioLine → Accepted → Accepted
with_line (line.Config what) a = with_config what a
with_line (line.Change step) a = with_later a
with_line (line.ByName node db asked) a = with_later a
with_line (line.Settle count) a = with_later a
with_line (line.Traverse said) a = with_later a
with_line (line.Ctdb node asked) a = with_later a

-- Ok adds the line, exactly where it is not refused; a refusal is the rule's, and changes nothing. Memory is wanting only
-- where the line is not refused, and then nothing is changed either
abbrev pub Checks : Result (Unit {0}) LineKindFault → Option LineKind → Accepted → Accepted → Accepted → Type 0
Checks (Ok u) refused after old new = (refused ≡ None) × (new ≡ after)
Checks (Err (Kind k)) refused after old new = (refused ≡ Some k) × (new ≡ old)
Checks (Err NoMemory) refused after old new = (refused ≡ None) × (new ≡ old)

-- ---- the configuration

-- the configuration of what was accepted: of as many nodes, of these databases, and of these addresses
abbrev pub IsConfigOf : Accepted → Config → Type 0
IsConfigOf a c = (a.nodes ≡ Some c.nodes) × Configures (Ok c) c.nodes a.dbs a.addresses

-- some databases and addresses make it: a cluster opens with it
abbrev pub IsMade : Config → Type 0
IsMade c = (dbs : List DbDecl) × (addresses : List Address) × Configures (Ok c) c.nodes dbs addresses

-- how many nodes there are; one, as long as no line says it
abbrev pub or_one : Option ℕ → ℕ
or_one None = 1
or_one (Some n) = n

-- In form: nothing was accepted of which no configuration can be made
abbrev pub IsAccepted : Accepted → Type 0
IsAccepted a = config_fault (or_one a.nodes) a.dbs a.addresses ≡ None
