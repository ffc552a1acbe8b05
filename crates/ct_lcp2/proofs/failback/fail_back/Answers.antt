use Rattle.std.proofs.Common.{◌∙◌, sym, ap, subst, ◌<◌}
use Rattle.std.specs.List.Sorted.{IsStrictlySortedBy}
use Rattle.ct_values.specs.Address.{address_cmp}
use Rattle.ct_lcp2.specs.Placing.{addresses, total}
use Rattle.ct_lcp2.specs.Tallies.{nodes}
use Rattle.ct_lcp2.proofs.Steps.{failback_less, failback_more, failback_end, failback_stands}
use Rattle.ct_lcp2.proofs.Standing.{addresses_sent}
use Rattle.ct_lcp2.proofs.Tallies.{at_other, first_source, next_tallies, true_tallies}
use Rattle.ct_lcp2.proofs.failback.fail_back.Goals as goal

pub next_failback-requires-clause-sources : goal.next_failback-requires-clause-sources
next_failback-requires-clause-sources c =
    true_tallies c.loop-to.placement.at c.as_slice-at.result.now c.args.able.now c.deref.result.now c.as_slice-at.ensures (c.deref.ensures.value ∙ c.loop-to.invariant.2)

pub next_failback-requires-clause-targets : goal.next_failback-requires-clause-targets
next_failback-requires-clause-targets c =
    true_tallies c.loop-to.placement.at c.as_slice-at.result.now c.args.targets.now c.deref-in-loop-to.result.now c.as_slice-at.ensures (c.deref-in-loop-to.ensures.value ∙ c.loop-to.invariant.3)

pub returns-in_default : goal.returns-in_default
returns-in_default c =
    let none = first_source c.args.able.now c.args.targets.now c.loop-to.placement.at c.as_slice-at.result.now c.deref.result.now c.deref-in-loop-to.result.now c.in_ok-source.field-0 c.as_slice-at.ensures
    (c.deref.ensures.value ∙ c.loop-to.invariant.2) (c.deref-in-loop-to.ensures.value ∙ c.loop-to.invariant.3) c.in_ok-source.ensures ∙ c.in_default.is in
    sym (failback_end c.args.able.now c.args.targets.now c.loop-to.placement none) ∙ c.loop-to.invariant.0

pub all_after-requires-clause-stands : goal.all_after-requires-clause-stands
all_after-requires-clause-stands c =
    (failback_stands (nodes c.deref.result.now) (nodes c.deref-in-loop-to.result.now) c.as_slice-at.result.now c.in-Some.source (sym c.in_ok-source.ensures ∙ c.in-Some.is)).0

pub all_after-requires-clause-apart : goal.all_after-requires-clause-apart
all_after-requires-clause-apart c =
    at_other c.in-Some.source.choice.node c.in-Some.source.node
    (failback_stands (nodes c.deref.result.now) (nodes c.deref-in-loop-to.result.now) c.as_slice-at.result.now c.in-Some.source (sym c.in_ok-source.ensures ∙ c.in-Some.is)).1

pub all_after-requires-clause-now : goal.all_after-requires-clause-now
all_after-requires-clause-now c =
    true_tallies c.loop-to.placement.at c.as_slice-at.result.now c.args.able.now c.loop-to.from.items c.as_slice-at.ensures c.loop-to.invariant.2

pub all_after-requires-in-loop-to-clause-stands : goal.all_after-requires-in-loop-to-clause-stands
all_after-requires-in-loop-to-clause-stands c =
    (failback_stands (nodes c.deref.result.now) (nodes c.deref-in-loop-to.result.now) c.as_slice-at.result.now c.in-Some.source (sym c.in_ok-source.ensures ∙ c.in-Some.is)).0

pub all_after-requires-in-loop-to-clause-apart : goal.all_after-requires-in-loop-to-clause-apart
all_after-requires-in-loop-to-clause-apart c =
    at_other c.in-Some.source.choice.node c.in-Some.source.node
    (failback_stands (nodes c.deref.result.now) (nodes c.deref-in-loop-to.result.now) c.as_slice-at.result.now c.in-Some.source (sym c.in_ok-source.ensures ∙ c.in-Some.is)).1

pub all_after-requires-in-loop-to-clause-now : goal.all_after-requires-in-loop-to-clause-now
all_after-requires-in-loop-to-clause-now c =
    true_tallies c.loop-to.placement.at c.as_slice-at.result.now c.args.targets.now c.loop-to.to.items c.as_slice-at.ensures c.loop-to.invariant.3

pub loop-to-smaller : goal.loop-to-smaller
loop-to-smaller c =
    let asc = subst (IsStrictlySortedBy address_cmp) (sym c.loop-to.invariant.1) c.requires.ascending in
    let found = first_source c.args.able.now c.args.targets.now c.loop-to.placement.at c.as_slice-at.result.now c.deref.result.now c.deref-in-loop-to.result.now c.in_ok-source.field-0 c.as_slice-at.ensures
    (c.deref.ensures.value ∙ c.loop-to.invariant.2) (c.deref-in-loop-to.ensures.value ∙ c.loop-to.invariant.3) c.in_ok-source.ensures ∙ c.in-Some.is in
    subst (λ p. total p.at < total c.loop-to.placement.at) (sym c.in_ok-carry_out.ensures.ok) (failback_less c.args.able.now c.args.targets.now c.loop-to.placement.at c.in-Some.source asc found)

pub loop-to-preserved : goal.loop-to-preserved
loop-to-preserved c =
    let at = c.loop-to.placement.at in
    let choice = c.in-Some.source.choice in
    let asc = subst (IsStrictlySortedBy address_cmp) (sym c.loop-to.invariant.1) c.requires.ascending in
    let found = first_source c.args.able.now c.args.targets.now at c.as_slice-at.result.now c.deref.result.now c.deref-in-loop-to.result.now c.in_ok-source.field-0 c.as_slice-at.ensures
    (c.deref.ensures.value ∙ c.loop-to.invariant.2) (c.deref-in-loop-to.ensures.value ∙ c.loop-to.invariant.3) c.in_ok-source.ensures ∙ c.in-Some.is in
    let sent = ap (λ p. p.at) c.in_ok-carry_out.ensures.ok in (
      failback_more c.args.able.now c.args.targets.now c.loop-to.placement c.carry_out.new.self c.in-Some.source asc found c.in_ok-carry_out.ensures.ok ∙ c.loop-to.invariant.0,
      ap addresses sent ∙ addresses_sent choice.address choice.node at ∙ c.loop-to.invariant.1,
      next_tallies at c.as_slice-at.result.now c.carry_out.new.self.at c.args.able.now c.loop-to.from.items _ choice.address choice.node c.loop-to.invariant.2 c.as_slice-at.ensures c.in_ok-from-2.ensures sent,
      next_tallies at c.as_slice-at.result.now c.carry_out.new.self.at c.args.targets.now c.loop-to.to.items _ choice.address choice.node c.loop-to.invariant.3 c.as_slice-at.ensures c.in_ok-to-2.ensures sent,
    )
