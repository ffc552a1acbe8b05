use Rattle.std.proofs.Common.{rules}
use Rattle.std.specs.Ordering.{is_lt}
use Rattle.std.proofs.lemmas.List.Sorted.{answers_always, ranks_by}
use Rattle.ct_values.specs.Key.{key_cmp}
use Rattle.ct_store.proofs.Maps.{key_total}
use Rattle.ct_store.proofs.Those.{sorted_ordered}
use Rattle.ct_store.proofs.hashed.put_in_order.Goals as goal

pub returns : goal.returns
returns g c =
    let before = answers_always _ _ _ (λ f a r next called. search rules) in
    λ d. sorted_ordered _ _ c.sort_unstable_by.ensures.permutation (c.sort_unstable_by.ensures.sorted (λ x y. is_lt (key_cmp x.0.now y.0.now)) (ranks_by key_total (λ x. x.0.now)) before) d
