use Rattle.std.proofs.Common.{◌≡◌, ◌∙◌, ◌∷◌, arith, rules, sym, ap, length, map, subst}
use Rattle.std.proofs.lemmas.List.{nil_from_length}
use Rattle.std.specs.List.{range_with_len}
use Rattle.ct_links.specs.Meshes.{all_peer_nodes, mesh_of, peer_nodes}
use Rattle.ct_links.proofs.Joining.{all_joined, count_joined, joined_more, numbers_more, peers_more, then_node}
use Rattle.ct_links.proofs.mesh.join_node.Goals as goal

pub loop-peers-init : goal.loop-peers-init
loop-peers-init g c = let count = count_joined c.args.all.items c.args.node c.requires in record { joined = search rules; own = search rules; left = search rules }

pub loop-peers-preserved : goal.loop-peers-preserved
loop-peers-preserved g c =
    let step : c.loop-peers.peers-iterator.rest.items ≡ c.in-Some.peers ∷ c.next.new.self.rest.items = search rules in
    record {
      joined = joined_more c.loop-peers.joined.items c.push-in-loop-peers.new.self.items c.loop-peers.peers-iterator.rest.items c.next.new.self.rest.items c.in-Some.peers c.push.new.self c.args.node (map (then_node c.args.node) (all_peer_nodes c.into_iter-peers-iterator.result.rest.items)) c.loop-peers.invariant.joined step c.in_ok-push-2.ensures.items (peers_more c.in-Some.peers.items c.push.new.self.items c.args.node c.in_ok-near.near c.in_ok-push.ensures.items);
      own = peers_more c.loop-peers.own.items c.push-in-loop-peers-2.new.self.items c.loop-peers.other c.in_ok-near.far c.in_ok-push-3.ensures.items ∙ numbers_more (peer_nodes c.loop-peers.own.items) c.loop-peers.other c.loop-peers.invariant.own;
      left = (let l = c.loop-peers.invariant.left in let k = ap length step in omega arith);
    }

pub returns : goal.returns
returns g c =
    let none = nil_from_length _ (sym c.loop-peers.peers-iterator.rest.ok.0 ∙ c.in-None.ensures.steps.0) in
    let l = c.loop-peers.invariant.left in
    let k = ap length none in
    let end : c.loop-peers.other ≡ c.args.node = omega arith in
    let start : c.into_iter-peers-iterator.result.rest.items ≡ c.args.all.items = search rules in
    all_joined c.into_iter-peers-iterator.result.rest.items c.loop-peers.joined.items c.push-2.new.self.items c.loop-peers.peers-iterator.rest.items c.loop-peers.own c.args.node (subst (λ xs. all_peer_nodes xs ≡ mesh_of c.args.node) (sym start) c.requires) c.loop-peers.invariant.joined none (subst (λ n. peer_nodes c.loop-peers.own.items ≡ range_with_len 0 n) end c.loop-peers.invariant.own) c.in_ok-push-4.ensures.items
