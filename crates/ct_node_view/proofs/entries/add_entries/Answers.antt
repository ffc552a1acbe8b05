use Rattle.std.proofs.Common.{◌≡◌, ◌++◌, rules, arith, ap, ◌∙◌}
use Rattle.std.specs.Prelude.{map, is_some}
use Rattle.std.specs.Map.Iter.{deref_pair}
use Rattle.std.proofs.lemmas.Grind.{common_steps}
use Rattle.ct_node_view.specs.Had.{entries_of}
use Rattle.ct_node_view.proofs.Having.{entries_those}
use Rattle.ct_node_view.proofs.entries.add_entries.Goals as goal

pub returns : goal.returns
returns c =
    let all : c.loop-key.rows.items ≡ c.args.rows.now.items ++ entries_of c.args.db (map deref_pair c.in_ok-items.items.items) = grind (arith, common_steps) in
    let some = c.in_ok-items.ensures (λ s. is_some s.entry) (λ x r says. search rules) in
    all ∙ ap (λ r. c.args.rows.now.items ++ r) (ap (entries_of c.args.db) some ∙ entries_those c.args.db c.args.records.now)
