-- What is a configuration.
use Rattle.std.specs.Prelude.{List, Ok}
use Rattle.ct_values.specs.declared.address.Address.{Address}
use Rattle.ct_values.specs.Config.{Configures}
use Rattle.ct_values.specs.declared.config.Config.{Config}
use Rattle.ct_values.specs.declared.config.DbDecl.{DbDecl}

-- some databases and addresses make this configuration
abbrev pub IsConfig : Config → Type 0
IsConfig c = (dbs : List DbDecl) × (addresses : List Address) × Configures (Ok c) c.nodes dbs addresses
