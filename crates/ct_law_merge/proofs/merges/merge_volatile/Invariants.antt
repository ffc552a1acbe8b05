use Rattle.std.proofs.Common.{◌≡◌, [], drop}
use Rattle.ct_merge.specs.Held.{row_order, row_rank, rows_of}
use Rattle.ct_law_merge.proofs.Folding.{based, all_joined}
use Rattle.ct_law_merge.proofs.merges.merge_volatile.Given as goal

abbrev pub invariant-loop-pull : goal.invariant-loop-pull
invariant-loop-pull l = (based (λ p. p.vbase) (drop l.pull-index l.pulls) l.parent ≡ based (λ p. p.vbase) l.pulls 0)
    × (all_joined row_order row_rank (λ p. p.vbase) rows_of (drop l.pull-index l.pulls) l.parent l.rows.items ≡ all_joined row_order row_rank (λ p. p.vbase) rows_of l.pulls 0 [])
