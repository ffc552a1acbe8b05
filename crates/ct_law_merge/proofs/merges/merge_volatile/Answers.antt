use Rattle.std.proofs.Common.{sym, subst, ap, ◌∙◌}
use Rattle.std.specs.List.Sorted.{IsStrictlySortedBy}
use Rattle.ct_merge.specs.Held.{row_order, based_rows}
use Rattle.ct_merge.proofs.Ordered.{rows_ascend}
use Rattle.ct_law_merge.proofs.Folding.{each_in_order}
use Rattle.ct_law_merge.proofs.Rules.{merged_volatile}
use Rattle.ct_law_merge.proofs.merges.merge_volatile.Goals as goal

pub join-requires-clause-ascends : goal.join-requires-clause-ascends
join-requires-clause-ascends c =
    subst (IsStrictlySortedBy row_order) (sym (c.in_ok-more.ensures ∙ ap (based_rows c.pull-item.result.vbase c.pull-item.result.node) c.in_ok-table.ensures))
    (rows_ascend c.pull-item.result (each_in_order c.args.pulls.now c.loop-pull.pull-index c.pull-item.result c.loop-pull-test.true c.pull-item.is c.requires))

pub returns : goal.returns
returns c = merged_volatile c.args.pulls.now c.loop-pull.pull-index c.loop-pull.parent c.as_slice.result.now c.loop-pull.rows.items c.in_ok-table-2.table c.loop-pull-test.false c.loop-pull.invariant.0 c.loop-pull.invariant.1 c.requires c.as_slice.ensures.value c.in_ok-table-2.ensures
