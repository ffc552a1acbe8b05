use Rattle.std.proofs.Common.{◌≡◌, ◌++◌, drop}
use Rattle.ct_node_plan_records.proofs.databases.copied.Given as goal

-- the writes that are copied and those that are left
abbrev pub invariant-loop-write : goal.invariant-loop-write
invariant-loop-write l = l.all.items ++ drop l.write-index l.writes ≡ l.writes
