use Rattle.std.proofs.Common.{rules}
use Rattle.std.proofs.lemmas.List.Sorted.{answers_always, IsNonDecreasingBy-from_sort}
use Rattle.ct_links.proofs.link.ascending.Goals as goal

pub returns-clause-order : goal.returns-clause-order
returns-clause-order g c = IsNonDecreasingBy-from_sort (λ p. p.node) _ (c.in_ok-sort_by_key.ensures.sorted (λ p. p.node) (answers_always _ _ _ (λ f a r next called. search rules)))
