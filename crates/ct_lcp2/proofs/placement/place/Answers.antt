use Rattle.std.proofs.Common.{◌∙◌, sym, ap, subst}
use Rattle.std.specs.List.Sorted.{IsStrictlySortedBy}
use Rattle.ct_values.specs.Address.{address_cmp}
use Rattle.ct_lcp2.specs.Placing.{addresses}
use Rattle.ct_lcp2.proofs.Standing.{addresses_begun}
use Rattle.ct_lcp2.proofs.Steps.{whole}
use Rattle.ct_lcp2.proofs.placement.place.Goals as goal

pub fail_back-requires-clause-ascending : goal.fail_back-requires-clause-ascending
fail_back-requires-clause-ascending c =
    subst (IsStrictlySortedBy address_cmp)
    (sym (c.in_ok-fill.ensures.same ∙ ap (λ p. addresses p.at) c.in_ok-placement.ensures ∙ addresses_begun c.as_slice-able.result.now c.as_slice-at.result.now ∙ ap addresses c.as_slice-at.ensures))
    c.requires.ascending

pub fill-requires-clause-ascending : goal.fill-requires-clause-ascending
fill-requires-clause-ascending c =
    subst (IsStrictlySortedBy address_cmp)
    (sym (ap (λ p. addresses p.at) c.in_ok-placement.ensures ∙ addresses_begun c.as_slice-able.result.now c.as_slice-at.result.now ∙ ap addresses c.as_slice-at.ensures))
    c.requires.ascending

pub returns : goal.returns
returns c =
    whole c.args.given.now.able c.as_slice-able.result.now c.args.given.now.at c.as_slice-at.result.now c.deref.result.now c.in_ok-placement.placement c.fill.new.placement c.fail_back.new.placement
    c.as_slice-able.ensures c.as_slice-at.ensures (c.deref.ensures.value ∙ c.in_ok-targets.ensures) c.in_ok-placement.ensures c.in_ok-fill.ensures.filled c.in_ok-fail_back.ensures
