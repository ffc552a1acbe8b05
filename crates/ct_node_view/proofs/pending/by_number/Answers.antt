use Rattle.std.proofs.Common.{rules}
use Rattle.std.proofs.lemmas.List.Sorted.{answers_always, IsNonDecreasingBy-from_sort}
use Rattle.ct_node_view.proofs.Sorting.{numbered_from_sort}
use Rattle.ct_node_view.proofs.pending.by_number.Goals as goal

pub returns : goal.returns
returns c =
    let keys = answers_always _ _ _ (λ f a r next called. search rules) in
    numbered_from_sort (λ x. x.call) _ _ (IsNonDecreasingBy-from_sort (λ x. x.call) _ (c.in_ok-sort_by_key.ensures.sorted (λ x. x.call) keys)) (c.sort_by_key.ensures.stable (λ x. x.call) keys)
