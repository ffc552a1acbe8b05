use Rattle.std.proofs.Common.{◌≡◌, ◌++◌, rules, arith, ap, ◌∙◌}
use Rattle.std.specs.Prelude.{map, is_some}
use Rattle.std.specs.Map.Iter.{deref_pair}
use Rattle.std.proofs.lemmas.Grind.{common_steps}
use Rattle.ct_rules_node.specs.Rounds.{rows_of}
use Rattle.ct_node_view.proofs.Having.{rows_those}
use Rattle.ct_node_view.proofs.rows.add_rows.Goals as goal

pub returns : goal.returns
unfolding rows_of
returns c =
    let all : c.loop-key.rows.items ≡ c.args.rows.now.items ++ rows_of c.args.me c.args.db (map deref_pair c.in_ok-items.items.items) = grind (arith, common_steps) in
    let some = c.in_ok-items.ensures (λ s. is_some s.copy) (λ x r says. search rules) in
    all ∙ ap (λ r. c.args.rows.now.items ++ r) (ap (rows_of c.args.me c.args.db) some ∙ rows_those c.args.me c.args.db c.args.records.now)
