use Rattle.std.proofs.Common.{◌≡◌, drop}
use Rattle.ct_rules_node.specs.Clients.{any_locked}
use Rattle.ct_node_state.proofs.locks.any_locked.Given as goal

-- no record of a database before is locked
abbrev pub invariant-loop-db : goal.invariant-loop-db
invariant-loop-db l = any_locked (drop l.db-index l.dbs) ≡ any_locked l.dbs
