use Rattle.std.proofs.Common.{sym, subst, ap, ◌∙◌}
use Rattle.std.specs.List.Sorted.{IsStrictlySortedBy}
use Rattle.ct_merge.specs.Held.{address_order, held_addresses}
use Rattle.ct_merge.proofs.Ordered.{addresses_ascend}
use Rattle.ct_law_merge.proofs.Folding.{each_in_order}
use Rattle.ct_law_merge.proofs.Rules.{merged_assigned}
use Rattle.ct_law_merge.proofs.merges.merge_addresses.Goals as goal

pub join-requires-clause-ascends : goal.join-requires-clause-ascends
join-requires-clause-ascends c =
    subst (IsStrictlySortedBy address_order) (sym (c.in_ok-more.ensures ∙ ap (held_addresses c.pull-item.result.node) c.as_slice.ensures))
    (addresses_ascend c.pull-item.result (each_in_order c.args.pulls.now c.loop-pull.pull-index c.pull-item.result c.loop-pull-test.true c.pull-item.is c.requires))

pub returns : goal.returns
returns c = merged_assigned c.args.pulls.now c.loop-pull.pull-index c.as_slice-2.result.now c.loop-pull.kept.items c.assigned_of.result c.loop-pull-test.false c.loop-pull.invariant c.requires c.as_slice-2.ensures.value c.assigned_of.ensures
