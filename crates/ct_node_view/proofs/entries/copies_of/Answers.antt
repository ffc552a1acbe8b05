use Rattle.std.proofs.Common.{◌≡◌, rules, arith, ap, ◌∙◌}
use Rattle.std.specs.Prelude.{map, is_some}
use Rattle.std.specs.Map.Iter.{deref_pair}
use Rattle.std.proofs.lemmas.Grind.{common_steps}
use Rattle.ct_node_view.specs.Had.{copies_of}
use Rattle.ct_node_view.proofs.Having.{copies_those}
use Rattle.ct_node_view.proofs.entries.copies_of.Goals as goal

pub returns : goal.returns
returns c =
    let all : map deref_pair c.loop-key.copies.items ≡ copies_of (map deref_pair c.in_ok-items.items.items) = grind (arith, common_steps) in
    let some = c.in_ok-items.ensures (λ s. is_some s.copy) (λ x r says. search rules) in
    all ∙ ap copies_of some ∙ copies_those c.args.records.now
