-- The configuration of a cluster that is generated.
use Rattle.std.specs.Prelude.{ℕ, List, [], ◌∷◌, codes}
use Rattle.ct_values.specs.Config.{lock_db}
use Rattle.ct_values.specs.declared.config.Config.{Config}
use Rattle.ct_values.specs.declared.config.DbDecl.{DbDecl}
use Rattle.ct_values.specs.declared.config.DbKind.TheVariants.{Volatile, ReadOnly, Persistent}

-- a database of each kind; `g_lock` has place 0, and these have 1, 2 and 3
abbrev pub each_kind : List DbDecl
each_kind = record { name = codes "t"; kind = Volatile } ∷ record { name = codes "r"; kind = ReadOnly } ∷ record { name = codes "p"; kind = Persistent } ∷ []

-- so many nodes, and these databases
abbrev pub generated_config : ℕ → Config
generated_config nodes = record { nodes = nodes; dbs = lock_db ∷ each_kind; addresses = [] }
