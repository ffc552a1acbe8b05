-- The lists of nodes, of databases and of addresses.
use Rattle.std.specs.Prelude.{ℕ, nat_eq, ◌+◌, if◌then◌else◌, List, [], ◌∷◌, ◌++◌, codes, Option, None, Some}
use Rattle.std.specs.Cmp.Lexicographic.{pointwise}
use Rattle.std.specs.Fmt.{decimal}
use Rattle.std.specs.List.{flat_map}
use Rattle.ct_values.specs.Address.{address_text}
use Rattle.ct_values.specs.declared.address.Address.{Address}
use Rattle.ct_values.specs.declared.config.Config.{Config}
use Rattle.ct_values.specs.declared.config.DbDecl.{DbDecl}
use Rattle.ct_values.specs.declared.config.DbKind.{DbKind}
use Rattle.ct_values.specs.declared.config.DbKind.TheVariants.{Volatile, ReadOnly, Persistent}
use Rattle.ct_frame.specs.declared.frame.Assigned.{Assigned}
use Rattle.ct_rules_node.specs.Node.{holder_in}
use Rattle.ct_rules_cluster.specs.Cluster.{everyone}
use Rattle.ct_text.specs.Words.{node_text}

-- a line of a word and a number
unfoldable pub number_line : List ℕ → ℕ → List ℕ
number_line word n = word ++ decimal n ++ codes "\n"

-- ---- the nodes

-- the number of a node
abbrev pub pnn_text : ℕ → List ℕ
pnn_text n = number_line (codes "PNN:") n

abbrev pub node_line : ℕ → List ℕ
node_line n = number_line (codes "node ") n

-- each node of the configuration
unfoldable pub nodes_text : Config → List ℕ
nodes_text c = flat_map node_line (everyone c)

-- ---- the databases

-- the number of the first database of this name; i is the number of the first of these
abbrev pub named_from : ℕ → List ℕ → List DbDecl → Option ℕ
named_from i name [] = None
named_from i name (d ∷ ds) = if pointwise nat_eq name d.name then Some i else named_from (i + 1) name ds

-- the number of the database of this name, where one is declared
unfoldable pub db_named : Config → List ℕ → Option ℕ
db_named c name = named_from 0 name c.dbs

-- a volatile database is told with nothing behind its name
abbrev pub kind_text : DbKind → List ℕ
kind_text Volatile = []
kind_text ReadOnly = codes " READONLY"
kind_text Persistent = codes " PERSISTENT"

abbrev pub db_line : ℕ → DbDecl → List ℕ
db_line i d = codes "dbid:" ++ decimal i ++ codes " name:" ++ d.name ++ kind_text d.kind ++ codes "\n"

-- databases by number; i is the number of the first of these
abbrev pub db_lines : ℕ → List DbDecl → List ℕ
db_lines i [] = []
db_lines i (d ∷ ds) = db_line i d ++ db_lines (i + 1) ds

-- each database of the configuration
unfoldable pub dbs_text : Config → List ℕ
dbs_text c = db_lines 0 c.dbs

-- ---- the public addresses

-- an address and the node that it is known to be at
abbrev pub place_line : List Assigned → Address → List ℕ
place_line placement a = address_text a ++ codes " " ++ node_text (holder_in a placement) ++ codes "\n"

-- each public address of the configuration, as a node knows where it is
unfoldable pub places_text : Config → List Assigned → List ℕ
places_text c placement = flat_map (place_line placement) c.addresses

-- the same behind a line that names the node
unfoldable pub ip_text : Config → ℕ → List Assigned → List ℕ
ip_text c me placement = number_line (codes "Public IPs on node ") me ++ places_text c placement
