use Rattle.std.proofs.Common.{◌≡◌, ◌++◌, drop, map}
use Rattle.ct_node_plan.specs.Posts.{sent}
use Rattle.ct_node_plan.proofs.posts.post_all.Given as goal

-- what is sent so far and to the rest
abbrev pub invariant-loop-node : goal.invariant-loop-node
invariant-loop-node l = l.outs ++ map (sent l.generation l.me l.msg) (drop l.node-index l.nodes) ≡ l.initial.outs ++ map (sent l.generation l.me l.msg) l.nodes
