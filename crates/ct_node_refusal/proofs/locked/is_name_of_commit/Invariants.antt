use Rattle.std.proofs.Common.{◌≡◌, drop}
use Rattle.ct_rules_node.specs.Clients.{is_name_of_commit}
use Rattle.ct_node_refusal.proofs.locked.is_name_of_commit.Given as goal

-- it is the name of none of the databases before
abbrev pub invariant-loop-place : goal.invariant-loop-place
invariant-loop-place l = is_name_of_commit l.config l.key l.place (drop l.place l.dbs) ≡ is_name_of_commit l.config l.key 0 l.dbs
