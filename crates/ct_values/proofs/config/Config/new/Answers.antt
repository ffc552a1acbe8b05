use Rattle.std.proofs.Common.{refl, sym, ◌∙◌, subst, ap, arith}
use Rattle.ct_values.proofs.AddressOrder.{sorted_ascend, same_equiv}
use Rattle.ct_values.specs.Address.{address_cmp, same_address}
use Rattle.ct_values.specs.Config.{repeated_address}
use Rattle.std.specs.List.Sorted.{IsPermutation, IsStrictlySortedBy}
use Rattle.ct_values.proofs.Repeats.{all_distinct, no_place}
use Rattle.ct_values.proofs.config.Config.new.Goals as goal

pub returns : goal.returns
returns c =
    let names = no_place _ c.in_default.not-Some in
    let addresses = no_place _ c.in_default-repeated_address.not-Some in
    let given = c.args.addresses.items in
    let apart = all_distinct same_address same_equiv given (ap repeated_address (sym c.deref-2.ensures.value) ∙ sym c.repeated_address.ensures ∙ addresses) in
    (grind arith, refl, grind arith, subst (IsPermutation given) (sym c.new-2.ensures) c.in_ok-sort.ensures.permutation, subst (IsStrictlySortedBy address_cmp) (sym c.new-2.ensures) (sorted_ascend _ _ c.in_ok-sort.ensures.permutation c.in_ok-sort.ensures.sorted apart))
