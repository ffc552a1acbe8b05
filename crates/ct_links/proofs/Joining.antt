-- One node more in a mesh.
use Rattle.std.proofs.Common.{◌≡◌, ◌∙◌, ℕ, zero, suc, ◌+◌, ◌<◌, ◌≤◌, List, [], ◌∷◌, ◌++◌, length, map, refl, sym, ap, append-nil, append_assoc, arith}
use Rattle.std.proofs.lemmas.List.{length-map, map_push}
use Rattle.std.proofs.lemmas.List.Elements.{filter-append}
use Rattle.std.proofs.lemmas.List.FromFn.{length-range_with_len}
use Rattle.std.specs.Prelude.{Vec, nat_eq, not}
use Rattle.std.specs.List.{range_with_len}
use Rattle.std.specs.declared.alloc.Global.{Global}
use Rattle.ct_values.specs.Words.{others}
use Rattle.ct_links.specs.Meshes.{all_peer_nodes, mesh_of, peer_nodes}
use Rattle.ct_links.specs.Streams.{Joint}

-- one node more at the end of these
abbrev pub then_node : ℕ → List ℕ → List ℕ
then_node node nodes = nodes ++ node ∷ []

-- ---- the numbers of a mesh

range_more : (a k : ℕ) → range_with_len a (k + 1) ≡ range_with_len a k ++ (a + k) ∷ []
range_more a zero = grind arith
range_more a (suc k) = grind (arith, range_more (a + 1) k)

-- a node behind these is not among them
none_is : (a k node : ℕ) → a + k ≤ node → others node (range_with_len a k) ≡ range_with_len a k
none_is a zero node l = refl
none_is a (suc k) node l = grind (arith, none_is (a + 1) k node (omega arith))

other_than : (a node : ℕ) → a < node → others a (node ∷ []) ≡ node ∷ []
other_than a node l = grind arith

not_itself : (node : ℕ) → others node (node ∷ []) ≡ []
not_itself node = grind arith

-- one that is there has the new node behind the others
one_more : (a node : ℕ) (nodes : List ℕ) → a < node → others a (nodes ++ node ∷ []) ≡ then_node node (others a nodes)
one_more a node nodes l = filter-append (λ n. not (nat_eq n a)) nodes (node ∷ []) ∙ ap (λ (ns : List ℕ). others a nodes ++ ns) (other_than a node l)

each_more : (a k node : ℕ) (nodes : List ℕ) → a + k ≤ node → map (λ i. others i (nodes ++ node ∷ [])) (range_with_len a k) ≡ map (then_node node) (map (λ i. others i nodes) (range_with_len a k))
each_more a zero node nodes l = refl
each_more a (suc k) node nodes l =
    let here = one_more a node nodes (omega arith) in
    let rest = each_more (a + 1) k node nodes (omega arith) in
    cc

own_more : (node : ℕ) → others node (range_with_len 0 node ++ node ∷ []) ≡ range_with_len 0 node
own_more node =
    filter-append (λ n. not (nat_eq n node)) (range_with_len 0 node) (node ∷ [])
    ∙ (ap (λ (ns : List ℕ). others node (range_with_len 0 node) ++ ns) (not_itself node)
    ∙ (append-nil (others node (range_with_len 0 node)) ∙ none_is 0 node node (omega arith)))

pub numbers_more : (numbers : List ℕ) (node : ℕ) → numbers ≡ range_with_len 0 node → then_node node numbers ≡ range_with_len 0 (node + 1)
numbers_more numbers node is = let more : range_with_len 0 (node + 1) ≡ range_with_len 0 node ++ node ∷ [] = grind (arith, range_more 0 node) in ap (λ (ns : List ℕ). ns ++ node ∷ []) is ∙ sym more

mesh_more : (node : ℕ) → mesh_of (node + 1) ≡ map (then_node node) (mesh_of node) ++ range_with_len 0 node ∷ []
mesh_more node =
    ap (λ (ns : List ℕ). map (λ i. others i ns) ns) (sym (numbers_more (range_with_len 0 node) node refl))
    ∙ (map_push (λ i. others i (range_with_len 0 node ++ node ∷ [])) (range_with_len 0 node) node
    ∙ (let each = each_more 0 node node (range_with_len 0 node) (omega arith) in let own = own_more node in cc))

-- ---- streams

pub count_joined : {S : Type 0} (all : List (Vec (Joint S) Global)) (node : ℕ) → all_peer_nodes all ≡ mesh_of node → length all ≡ node
count_joined {S} all node is =
    sym (length-map all (λ (joints : Vec (Joint S) Global). peer_nodes joints.items))
    ∙ (ap (λ (nss : List (List ℕ)). length nss) is
    ∙ (length-map (range_with_len 0 node) (λ (i : ℕ). others i (range_with_len 0 node)) ∙ length-range_with_len 0 node))

-- these streams, and one more to this node
pub peers_more : {S : Type 0} (joints more : List (Joint S)) (node : ℕ) (stream : S) → more ≡ joints ++ record { node = node; stream = stream } ∷ [] → peer_nodes more ≡ then_node node (peer_nodes joints)
peers_more {S} joints more node stream is = ap (λ (js : List (Joint S)). peer_nodes js) is ∙ map_push (λ (j : Joint S). j.node) joints (record { node = node; stream = stream })

pub joined_more : {S : Type 0} (joined more left rest : List (Vec (Joint S) Global)) (peers full : Vec (Joint S) Global) (node : ℕ) (all : List (List ℕ)) → all_peer_nodes joined ++ map (then_node node) (all_peer_nodes left) ≡ all → left ≡ peers ∷ rest → more ≡ joined ++ full ∷ [] → peer_nodes full.items ≡ then_node node (peer_nodes peers.items) → all_peer_nodes more ++ map (then_node node) (all_peer_nodes rest) ≡ all
joined_more {S} joined more left rest peers full node all is left_is more_is full_is =
    let told : all_peer_nodes more ≡ all_peer_nodes joined ++ then_node node (peer_nodes peers.items) ∷ [] =
    ap (λ (vs : List (Vec (Joint S) Global)). all_peer_nodes vs) more_is
    ∙ (map_push (λ (v : Vec (Joint S) Global). peer_nodes v.items) joined full ∙ ap (λ (ns : List ℕ). all_peer_nodes joined ++ ns ∷ []) full_is) in
    ap (λ (nss : List (List ℕ)). nss ++ map (then_node node) (all_peer_nodes rest)) told
    ∙ (append_assoc (all_peer_nodes joined) (then_node node (peer_nodes peers.items) ∷ []) (map (then_node node) (all_peer_nodes rest))
    ∙ (ap (λ (vs : List (Vec (Joint S) Global)). all_peer_nodes joined ++ map (then_node node) (all_peer_nodes vs)) (sym left_is) ∙ is))

pub all_joined : {S : Type 0} (first joined more left : List (Vec (Joint S) Global)) (own : Vec (Joint S) Global) (node : ℕ) → all_peer_nodes first ≡ mesh_of node → all_peer_nodes joined ++ map (then_node node) (all_peer_nodes left) ≡ map (then_node node) (all_peer_nodes first) → left ≡ [] → peer_nodes own.items ≡ range_with_len 0 node → more ≡ joined ++ own ∷ [] → all_peer_nodes more ≡ mesh_of (node + 1)
all_joined {S} first joined more left own node first_is is none own_is more_is =
    let left_none : all_peer_nodes joined ++ map (then_node node) (all_peer_nodes left) ≡ all_peer_nodes joined = ap (λ (vs : List (Vec (Joint S) Global)). all_peer_nodes joined ++ map (then_node node) (all_peer_nodes vs)) none ∙ append-nil (all_peer_nodes joined) in
    let all : all_peer_nodes joined ≡ map (then_node node) (mesh_of node) = sym left_none ∙ (is ∙ ap (λ (nss : List (List ℕ)). map (then_node node) nss) first_is) in
    ap (λ (vs : List (Vec (Joint S) Global)). all_peer_nodes vs) more_is
    ∙ (map_push (λ (v : Vec (Joint S) Global). peer_nodes v.items) joined own
    ∙ (let m = mesh_more node in cc))
