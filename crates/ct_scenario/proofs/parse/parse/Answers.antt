use Rattle.std.proofs.Common.{◌∙◌, ℕ, List, ap, map}
use Rattle.std.specs.Borrow.{Bor}
use Rattle.ct_scenario.proofs.Written.{only_cut}
use Rattle.ct_scenario.proofs.parse.parse.Goals as goal

pub returns-in-Ok-read_lines-clause-text : goal.returns-in-Ok-read_lines-clause-text
returns-in-Ok-read_lines-clause-text c =
    let f = λ (p : Bor (List ℕ)). p.now in
    only_cut c.args.bytes.now (map f c.as_slice.result.now) c.in-Ok-read_lines.lines.items c.new.result (ap (λ (l : List (Bor (List ℕ))). map f l) c.as_slice.ensures.value ∙ c.in-Ok.ensures) c.in-Ok-read_lines.ensures c.new.ensures
