-- The status of the cluster, as one node knows it.
use Rattle.std.specs.Prelude.{ℕ, nat_eq, ◌+◌, Bool, true, false, if◌then◌else◌, List, [], ◌∷◌, ◌++◌, length, codes, slice_get, Option, None, Some}
use Rattle.std.specs.Fmt.{decimal}
use Rattle.std.specs.List.{flat_map}
use Rattle.ct_values.specs.declared.config.Config.{Config}
use Rattle.ct_rules_node.specs.Node.{Node, is_serving}
use Rattle.ct_text_commands.specs.Lists.{number_line}
use Rattle.ct_rules_cluster.specs.Cluster.{everyone, is_true}

-- a node that is down, one that is not able to hold addresses, and any other
unfoldable pub state_text : List Bool → List Bool → ℕ → List ℕ
state_text running able n = if is_true (slice_get running n) then (if is_true (slice_get able n) then codes "OK" else codes "DISABLED") else codes "DISCONNECTED"

-- what stands behind the node that is asked
abbrev pub own_text : ℕ → ℕ → List ℕ
own_text me n = if nat_eq n me then codes " (THIS NODE)" else []

abbrev pub state_line : ℕ → List Bool → List Bool → ℕ → List ℕ
state_line me running able n = codes "pnn:" ++ decimal n ++ codes " " ++ state_text running able n ++ own_text me n ++ codes "\n"

-- each node of the configuration with its state
unfoldable pub states_text : Config → ℕ → List Bool → List Bool → List ℕ
states_text c me running able = flat_map (state_line me running able) (everyone c)

-- a location master by its place, which is the remainder of the hashes that pick it
abbrev pub master_line : ℕ → ℕ → List ℕ
master_line i m = codes "hash:" ++ decimal i ++ number_line (codes " lmaster:") m

-- location masters by place; i is the place of the first of these
abbrev pub master_lines : ℕ → List ℕ → List ℕ
master_lines i [] = []
master_lines i (m ∷ ms) = master_line i m ++ master_lines (i + 1) ms

-- how many members there are
abbrev pub size_line : List ℕ → List ℕ
size_line members = number_line (codes "Size:") (length members)

-- a generation and its members
unfoldable pub current_text : ℕ → List ℕ → List ℕ
current_text g members = number_line (codes "Generation:") g ++ size_line members ++ master_lines 0 members

-- the generation, where there is one, and its members
abbrev pub generation_text : ℕ → List ℕ → List ℕ
generation_text g members = if nat_eq g 0 then codes "Generation:INVALID\nSize:0\n" else current_text g members

-- does the node serve?
abbrev pub mode_text : Bool → List ℕ
mode_text true = codes "Recovery mode:NORMAL (0)\n"
mode_text false = codes "Recovery mode:RECOVERY (1)\n"

-- who pushed what was installed last
abbrev pub leader_text : Option ℕ → List ℕ
leader_text None = codes "Leader:UNKNOWN\n"
leader_text (Some n) = number_line (codes "Leader:") n

-- what a node tells of itself: its generation, whether it serves, and its leader
unfoldable pub told_text : ℕ → List ℕ → Bool → Option ℕ → List ℕ
told_text g members serves leader = generation_text g members ++ mode_text serves ++ leader_text leader

-- how many nodes there are, each of them, and what the node tells of itself
unfoldable pub status_text : Config → ℕ → Node → List Bool → List Bool → List ℕ
status_text c me n running able = number_line (codes "Number of nodes:") c.nodes ++ states_text c me running able ++ told_text n.generation n.members (is_serving n.phase) n.leader
