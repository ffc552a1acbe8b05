use Rattle.std.proofs.Common.{◌∙◌, ◌++◌, ℕ, List, ap}
use Rattle.std.specs.Prelude.{codes}
use Rattle.std.proofs.lemmas.Result.{on_ok_weaker}
use Rattle.ct_text_commands.specs.Lists.{number_line}
use Rattle.ct_text_commands.specs.Status.{current_text, master_lines, size_line}
use Rattle.ct_text_commands.proofs.Numbers.{three_parts}
use Rattle.ct_text_commands.proofs.nodes.push_current.Goals as goal

pub returns : goal.returns
unfolding current_text
returns c =
    on_ok_weaker c.push_masters.result
    (λ last. last ∙ ap (λ (xs : List ℕ). xs ++ master_lines 0 c.args.members.now) (c.in_ok-push_size.ensures ∙ ap (λ (xs : List ℕ). xs ++ size_line c.args.members.now) c.in_ok-push_number_line.ensures)
    ∙ three_parts c.args.text.now.items (number_line (codes "Generation:") c.args.generation) (size_line c.args.members.now) (master_lines 0 c.args.members.now))
    c.push_masters.ensures
