-- The configuration that lines made, and its cluster at the opening.
use Rattle.std.specs.Prelude.{if◌then◌else◌, List, [], ◌∷◌, Option, None, Some}
use Rattle.ct_values.specs.Address.{address_before}
use Rattle.ct_values.specs.declared.address.Address.{Address}
use Rattle.ct_rules_cluster.specs.Cluster.{opening, World}
use Rattle.ct_lines.specs.Places.{Accepted, or_one}
use Rattle.ct_values.specs.Config.{lock_db}
use Rattle.ct_values.specs.declared.config.Config.{Config}

-- an address in its place among these
abbrev pub in_place : Address → List Address → List Address
in_place a [] = a ∷ []
in_place a (x ∷ xs) = if address_before x a then x ∷ in_place a xs else a ∷ x ∷ xs

-- addresses in ascending order
abbrev pub ascending : List Address → List Address
ascending [] = []
ascending (a ∷ rest) = in_place a (ascending rest)

-- what the lines of configuration made: `g_lock` comes before the databases, and the addresses ascend
abbrev pub config_of : Accepted → Config
config_of p = record { nodes = or_one p.nodes; dbs = lock_db ∷ p.dbs; addresses = ascending p.addresses }

-- the cluster of this configuration at its opening
abbrev pub world_opened : Config → World
world_opened c = record { config = c; cluster = opening c }

-- the cluster where a line that is none of the configuration's comes: the first such line opens it
abbrev pub world_at : Accepted → Option World → World
world_at p None = world_opened (config_of p)
world_at p (Some w) = w
