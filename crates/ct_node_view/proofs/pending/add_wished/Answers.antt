use Rattle.std.proofs.Common.{◌≡◌, ◌++◌, rules, arith, ap, ◌∙◌}
use Rattle.std.specs.Prelude.{map, is_some}
use Rattle.std.specs.Map.Iter.{deref_pair}
use Rattle.std.proofs.lemmas.Grind.{common_steps}
use Rattle.ct_rules_cluster.specs.Cluster.{wished_in}
use Rattle.ct_node_view.proofs.Having.{wished_those}
use Rattle.ct_node_view.proofs.pending.add_wished.Goals as goal

pub returns : goal.returns
unfolding wished_in
returns c =
    let all : c.loop-key.calls.items ≡ c.args.calls.now.items ++ wished_in c.args.node (map deref_pair c.in_ok-items.items.items) = grind (arith, common_steps) in
    let some = c.in_ok-items.ensures (λ s. is_some s.wish) (λ x r says. search rules) in
    all ∙ ap (λ r. c.args.calls.now.items ++ r) (ap (wished_in c.args.node) some ∙ wished_those c.args.node c.args.records.now)
