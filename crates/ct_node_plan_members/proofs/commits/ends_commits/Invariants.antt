use Rattle.std.proofs.Common.{◌≡◌, drop, length}
use Rattle.ct_rules_node.specs.Rounds.{ends_commits}
use Rattle.ct_node_plan_members.proofs.commits.ends_commits.Given as goal

-- what comes of the commits so far and of those that are left
abbrev pub invariant-loop-i : goal.invariant-loop-i
invariant-loop-i l = record {
  ended : ends_commits l.config l.i (drop l.i l.dbs) l.turn ≡ ends_commits l.config 0 l.dbs l.initial.turn;
  dbs : length l.turn.node.dbs ≡ length l.dbs;
  phase : l.turn.node.phase ≡ l.initial.turn.node.phase;
}
