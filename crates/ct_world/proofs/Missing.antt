-- The first number of a list that is no node's.
use Rattle.std.proofs.Common.{◌≡◌, ℕ, zero, suc, ◌<◌, Bool, true, false, List, [], ◌∷◌, length, Some, sym, ap, arith}
use Rattle.std.specs.Prelude.{drop, nat_lt, slice_index_or, if◌then◌else◌}
use Rattle.ct_values.specs.declared.config.Config.{Config}
use Rattle.ct_rules_cluster.specs.Faults.{no_such_nodes}
use Rattle.ct_rules_cluster.specs.declared.step.StepFault.TheVariants as fault

pub missing_here : (c : Config) (ns : List ℕ) (i : ℕ) → i < length ns → nat_lt (slice_index_or ns i 0) c.nodes ≡ false → no_such_nodes c (drop i ns) ≡ Some (fault.NoSuchNode (slice_index_or ns i 0))
unfolding no_such_nodes
missing_here c [] i l e = absurd (omega (arith, l))
missing_here c (n ∷ ns) zero l e = ap (λ (b : Bool). if b then no_such_nodes c ns else Some (fault.NoSuchNode n)) e
missing_here c (n ∷ ns) (suc i) l e = missing_here c ns i (omega (arith, l)) e

pub there_here : (c : Config) (ns : List ℕ) (i : ℕ) → i < length ns → nat_lt (slice_index_or ns i 0) c.nodes ≡ true → no_such_nodes c (drop (suc i) ns) ≡ no_such_nodes c (drop i ns)
unfolding no_such_nodes
there_here c [] i l e = absurd (omega (arith, l))
there_here c (n ∷ ns) zero l e = sym (ap (λ (b : Bool). if b then no_such_nodes c ns else Some (fault.NoSuchNode n)) e)
there_here c (n ∷ ns) (suc i) l e = there_here c ns i (omega (arith, l)) e
