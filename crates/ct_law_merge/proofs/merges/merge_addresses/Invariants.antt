use Rattle.std.proofs.Common.{◌≡◌, [], drop}
use Rattle.ct_merge.specs.Held.{address_order, address_rank, addresses_of}
use Rattle.ct_law_merge.proofs.Folding.{all_joined}
use Rattle.ct_law_merge.proofs.merges.merge_addresses.Given as goal

abbrev pub invariant-loop-pull : goal.invariant-loop-pull
invariant-loop-pull l = all_joined address_order address_rank (λ p. 0) addresses_of (drop l.pull-index l.pulls) 0 l.kept.items ≡ all_joined address_order address_rank (λ p. 0) addresses_of l.pulls 0 []
