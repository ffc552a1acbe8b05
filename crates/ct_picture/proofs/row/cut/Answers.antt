use Rattle.std.proofs.Common.{◌≡◌, map, rules, tests}
use Rattle.std.proofs.lemmas.Iterator.Consumers.{map_from_collect}
use Rattle.std.proofs.lemmas.Iterator.Splits.{YieldsList-from_slice_split}
use Rattle.std.specs.List.{slice_split}
use Rattle.std.specs.Prelude.{◌==◌}
use Rattle.ct_picture.proofs.Lists.{of_ok}
use Rattle.ct_picture.proofs.row.cut.Goals as goal

pub returns : goal.returns
returns c =
    of_ok c.collect.result c.in_ok-collect.field-0 (λ v. map (λ w. w.now) v.items ≡ slice_split (λ b. b == c.args.at) c.args.text.now) c.in_ok-collect.was
    (map_from_collect _ c.collect.ensures.ran (YieldsList-from_slice_split _ _ c.args.text.now c.split.ensures.rest c.split.ensures.done c.split.ensures.closure (λ x r q k. search (rules, tests))))
