use Rattle.std.proofs.Common.{◌≡◌}
use Rattle.ct_links.specs.Meshes.{all_peer_nodes, mesh_of}
use Rattle.ct_links.proofs.mesh.mesh.Given as goal

abbrev pub invariant-loop-node : goal.invariant-loop-node
invariant-loop-node g l = all_peer_nodes l.all.items ≡ mesh_of l.node
