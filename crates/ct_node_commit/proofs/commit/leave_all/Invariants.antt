use Rattle.std.proofs.Common.{◌≡◌, ◌<◌, length}
use Rattle.ct_node_plan.specs.Changes.{AreDeleted, all_left}
use Rattle.ct_node_commit.proofs.commit.leave_all.Given as goal

-- what is left to do makes of the node what all makes of it, and it can be done
abbrev pub invariant-loop-one : goal.invariant-loop-one
invariant-loop-one l =
    (all_left l.db l.one-iterator.rest.items l.node ≡ all_left l.db l.initial.one-iterator.rest.items l.initial.node)
    × (l.db < length l.node.dbs)
    × AreDeleted l.db l.one-iterator.rest.items l.node
