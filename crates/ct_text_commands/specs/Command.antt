-- The text of a command that shows something, at a node.
use Rattle.std.specs.Prelude.{◌≡◌, ℕ, Bool, if◌then◌else◌, List, codes, Option, None, Some, Result, Ok, Err}
use Rattle.ct_values.specs.declared.config.Config.{Config}
use Rattle.ct_persist.specs.Persisted.{listed}
use Rattle.ct_rules_node.specs.Node.{Node, db_at, is_persistent, kind_at}
use Rattle.ct_node_view.specs.Had.{copies_of}
use Rattle.ct_lines.specs.declared.line.ShowCommand.{ShowCommand}
use Rattle.ct_lines.specs.declared.line.ShowCommand.TheVariants as command
use Rattle.ct_text.specs.Dumps.{copies_text, pairs_text}
use Rattle.ct_text_commands.specs.Lists.{db_named, dbs_text, ip_text, nodes_text, number_line, pnn_text}
use Rattle.ct_text_commands.specs.Status.{status_text}
use Rattle.ct_text_commands.specs.declared.command.TextFault.{TextFault}
use Rattle.ct_text_commands.specs.declared.command.TextFault.TheVariants.{NoSuchDb, WrongKind, NoMemory}

-- the pairs of a persistent database, and the copies of the records of any other, by key
unfoldable pub dump_text : Config → Node → ℕ → List ℕ
dump_text c n db = if is_persistent (kind_at c db) then pairs_text (listed (db_at db n).store.pairs) else copies_text (copies_of (db_at db n).records)

-- the number of the last commit of a persistent database
abbrev pub seq_text : ℕ → List ℕ
seq_text seq = number_line (codes "Sequence number:") seq

-- what the node has of a database, where it is declared
abbrev pub cat_text : Config → Node → Option ℕ → Result (List ℕ) TextFault
cat_text c n None = Err NoSuchDb
cat_text c n (Some db) = Ok (dump_text c n db)

-- the number of the last commit, where the database is declared and a persistent one
abbrev pub seqnum_text : Config → Node → Option ℕ → Result (List ℕ) TextFault
seqnum_text c n None = Err NoSuchDb
seqnum_text c n (Some db) = if is_persistent (kind_at c db) then Ok (seq_text (db_at db n).store.seq) else Err WrongKind

-- what the command shows at node `me` with this state, where these nodes run and these are able to hold addresses
abbrev pub command_text : Config → ℕ → Node → List Bool → List Bool → ShowCommand → Result (List ℕ) TextFault
command_text c me n running able command.Pnn = Ok (pnn_text me)
command_text c me n running able command.ListNodes = Ok (nodes_text c)
command_text c me n running able command.Status = Ok (status_text c me n running able)
command_text c me n running able command.Ip = Ok (ip_text c me n.placement)
command_text c me n running able command.GetDbMap = Ok (dbs_text c)
command_text c me n running able (command.CatTdb db) = cat_text c n (db_named c db)
command_text c me n running able (command.GetDbSeqNum db) = seqnum_text c n (db_named c db)

-- A text, by cases on the answer: it is exactly the rule's, or the rule refuses so. Memory is wanting only where the rule has a
-- text
abbrev pub Tells : {X : Type 0} → (X → List ℕ) → Result X TextFault → Result (List ℕ) TextFault → Type 0
Tells text (Ok x) rule = rule ≡ Ok (text x)
Tells text (Err NoSuchDb) rule = rule ≡ Err NoSuchDb
Tells text (Err WrongKind) rule = rule ≡ Err WrongKind
Tells text (Err NoMemory) rule = (bytes : List ℕ) × (rule ≡ Ok bytes)
