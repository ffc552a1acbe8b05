use Rattle.std.proofs.Common.{◌≡◌, ◌++◌, drop, nat_eq}
use Rattle.std.specs.Prelude.{◌||◌}
use Rattle.std.specs.List.{filter}
use Rattle.ct_soak.specs.Soak.{runs}
use Rattle.ct_soak.proofs.soak.members_among.Given as goal

abbrev pub invariant-loop-n : goal.invariant-loop-n
invariant-loop-n l = l.members ++ filter (λ n. runs l.running n || nat_eq n l.node) (drop l.n-index l.nodes) ≡ filter (λ n. runs l.running n || nat_eq n l.node) l.nodes
