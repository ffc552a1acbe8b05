use Rattle.std.proofs.Common.{◌≡◌, ◌++◌}
use Rattle.std.specs.Prelude.{map}
use Rattle.std.specs.Map.Iter.{deref_pair}
use Rattle.ct_node_plan_runs.specs.Again.{revoked_in}
use Rattle.ct_node_plan_runs.proofs.retry.revokes_of.Given as goal

-- the Revokes so far and of those that are left
abbrev pub invariant-loop-key : goal.invariant-loop-key
invariant-loop-key l = l.outs ++ revoked_in l.generation l.me l.db (map deref_pair l.key-iterator.rest.items) ≡ l.initial.outs ++ revoked_in l.generation l.me l.db (map deref_pair l.initial.key-iterator.rest.items)
