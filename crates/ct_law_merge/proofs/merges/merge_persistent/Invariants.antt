use Rattle.std.proofs.Common.{◌≡◌, [], drop}
use Rattle.ct_merge.specs.Held.{ptable_order, ptable_rank, ptables_of}
use Rattle.ct_law_merge.proofs.Folding.{based, all_joined}
use Rattle.ct_law_merge.proofs.merges.merge_persistent.Given as goal

abbrev pub invariant-loop-pull : goal.invariant-loop-pull
invariant-loop-pull l = (based (λ p. p.pbase) (drop l.pull-index l.pulls) l.parent ≡ based (λ p. p.pbase) l.pulls 0)
    × (all_joined ptable_order ptable_rank (λ p. p.pbase) ptables_of (drop l.pull-index l.pulls) l.parent l.kept.items ≡ all_joined ptable_order ptable_rank (λ p. p.pbase) ptables_of l.pulls 0 [])
