use Rattle.std.proofs.Common.{◌≡◌, ◌+◌, ◌++◌, length, map}
use Rattle.std.specs.List.{range_with_len}
use Rattle.ct_links.specs.Meshes.{all_peer_nodes, peer_nodes}
use Rattle.ct_links.proofs.Joining.{then_node}
use Rattle.ct_links.proofs.mesh.join_node.Given as goal

-- those that are joined have the node behind the others, and the node has those
abbrev pub invariant-loop-peers : goal.invariant-loop-peers
invariant-loop-peers g l = record {
  joined : all_peer_nodes l.joined.items ++ map (then_node l.node) (all_peer_nodes l.peers-iterator.rest.items) ≡ map (then_node l.node) (all_peer_nodes l.initial.peers-iterator.rest.items);
  own : peer_nodes l.own.items ≡ range_with_len 0 l.other;
  left : l.other + length l.peers-iterator.rest.items ≡ l.node;
}
