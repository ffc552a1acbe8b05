use Rattle.std.proofs.Common.{◌≡◌, ◌++◌, rules, arith, ap, ◌∙◌}
use Rattle.std.specs.Prelude.{map, is_some}
use Rattle.std.specs.Map.Iter.{deref_pair}
use Rattle.std.proofs.lemmas.Grind.{common_steps}
use Rattle.ct_rules_node.specs.Rounds.{calls_of}
use Rattle.ct_node_view.proofs.Having.{calls_those}
use Rattle.ct_node_view.proofs.waiting.add_calls.Goals as goal

pub returns : goal.returns
unfolding calls_of
returns c =
    let all : c.loop-key.calls.items ≡ c.args.calls.now.items ++ calls_of c.args.db (map deref_pair c.in_ok-items.items.items) = grind (arith, common_steps) in
    let some = c.in_ok-items.ensures (λ s. is_some s.wish) (λ x r says. search rules) in
    all ∙ ap (λ r. c.args.calls.now.items ++ r) (ap (calls_of c.args.db) some ∙ calls_those c.args.db c.args.records.now)
