use Rattle.std.proofs.Common.{sym, subst}
use Rattle.std.specs.List.Sorted.{IsStrictlySortedBy}
use Rattle.ct_merge.proofs.Ordered.{no_items}
use Rattle.ct_merge.proofs.merging.Merging.new.Goals as goal

pub invariant_of-result : goal.invariant_of-result
invariant_of-result c = (
  subst (IsStrictlySortedBy _) (sym c.new.ensures.items) (no_items _),
  subst (IsStrictlySortedBy _) (sym c.new-2.ensures.items) (no_items _),
  subst (IsStrictlySortedBy _) (sym c.new-3.ensures.items) (no_items _),
  subst (IsStrictlySortedBy _) (sym c.new-4.ensures.items) (no_items _),
)
