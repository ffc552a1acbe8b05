-- A core has few databases.
use Rattle.std.proofs.Common.{ℕ, ◌<◌, ◌^◌, length, arith}
use Rattle.ct_values.specs.declared.config.Config.{Config}
use Rattle.ct_rules_node.specs.Node.{Node}
use Rattle.ct_core.specs.Core.{CoreInForm}

pub few_dbs : (c : Config) (n : ℕ) (x : Node) → CoreInForm (record { pnn = n; config = c; node = x }) → length x.dbs < 2 ^ 32
few_dbs c n x h = let d = h.node.dbs in let l = h.node.limits.dbs in omega arith
