use Rattle.std.proofs.Common.{◌≡◌, ◌++◌, drop, map}
use Rattle.ct_node_plan.specs.Posts.{release_to}
use Rattle.ct_node_plan.proofs.posts.post_releases.Given as goal

-- what is sent so far and to the rest
abbrev pub invariant-loop-node : goal.invariant-loop-node
invariant-loop-node l = l.outs ++ map (release_to l.generation l.me l.number l.placement) (drop l.node-index l.nodes) ≡ l.initial.outs ++ map (release_to l.generation l.me l.number l.placement) l.nodes
