-- What a command at a node may read.
use Rattle.std.specs.Prelude.{ℕ}
use Rattle.ct_rules_cluster.specs.Cluster.{node_at, World}
use Rattle.ct_core.specs.Core.{Core}

-- the node of this number, with the number and the configuration
abbrev pub core_at : ℕ → World → Core
core_at n w = record { pnn = n; config = w.config; node = node_at n w.cluster }
