-- Nodes that are joined, each to each other one.
use Rattle.std.specs.Prelude.{ℕ, List, map, Vec}
use Rattle.std.specs.List.{range_with_len}
use Rattle.std.specs.declared.alloc.Global.{Global}
use Rattle.ct_values.specs.Words.{others}
use Rattle.ct_links.specs.Streams.{Joint}

-- the nodes to which these streams lead, in order
abbrev pub peer_nodes : {S : Type 0} → List (Joint S) → List ℕ
peer_nodes joints = map (λ j. j.node) joints

-- those of the streams of each node
abbrev pub all_peer_nodes : {S : Type 0} → List (Vec (Joint S) Global) → List (List ℕ)
all_peer_nodes all = map (λ joints. peer_nodes joints.items) all

-- Mesh: each of so many nodes has all others, by ascending number
abbrev pub mesh_of : ℕ → List (List ℕ)
mesh_of nodes = map (λ node. others node (range_with_len 0 nodes)) (range_with_len 0 nodes)
