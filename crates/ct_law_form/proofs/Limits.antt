-- A configuration keeps its limits.
use Rattle.std.proofs.Common.{ℕ, List, sym, subst}
use Rattle.std.specs.Prelude.{Ok}
use Rattle.ct_values.specs.declared.address.Address.{Address}
use Rattle.ct_values.specs.Config.{Configures}
use Rattle.ct_values.specs.declared.config.Config.{Config}
use Rattle.ct_values.specs.declared.config.DbDecl.{DbDecl}
use Rattle.ct_law_form.specs.Whole.{HasLimits}
use Rattle.ct_law_form.proofs.Whole.{configs_have_limits}

pub has_limits : (c : Config) (n : ℕ) (dbs : List DbDecl) (addresses : List Address) → Configures (Ok c) n dbs addresses → HasLimits c
has_limits c n dbs addresses h = configs_have_limits c dbs addresses (subst (λ (k : ℕ). Configures (Ok c) k dbs addresses) (sym h.1) h)
