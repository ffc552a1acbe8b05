use Rattle.std.proofs.Common.{◌∙◌, sym, ap, subst, ◌<◌}
use Rattle.ct_lcp2.specs.Placing.{addresses, homeless}
use Rattle.ct_lcp2.specs.Tallies.{nodes}
use Rattle.ct_lcp2.proofs.Steps.{place_less, place_more, place_end, place_stands}
use Rattle.ct_lcp2.proofs.Standing.{addresses_sent}
use Rattle.ct_lcp2.proofs.Tallies.{at_none, first_place, next_tallies, true_tallies}
use Rattle.ct_lcp2.proofs.vacant.fill.Goals as goal

pub next_place-requires : goal.next_place-requires
next_place-requires c =
    true_tallies c.loop-choice.placement.at c.as_slice-at.result.now c.args.able.now c.deref.result.now c.as_slice-at.ensures (c.deref.ensures.value ∙ c.loop-choice.invariant.2)

pub returns-in_default-clause-filled : goal.returns-in_default-clause-filled
returns-in_default-clause-filled c =
    let none = first_place c.args.able.now c.loop-choice.placement.at c.as_slice-at.result.now c.deref.result.now c.next_place.result c.as_slice-at.ensures
    (c.deref.ensures.value ∙ c.loop-choice.invariant.2) c.next_place.ensures ∙ c.in_default.is in
    sym (place_end c.args.able.now c.loop-choice.placement none) ∙ c.loop-choice.invariant.0

pub all_after-requires-clause-stands : goal.all_after-requires-clause-stands
all_after-requires-clause-stands c = place_stands (nodes c.deref.result.now) c.as_slice-at.result.now c.in-Some.choice (sym c.next_place.ensures ∙ c.in-Some.is)

pub all_after-requires-clause-apart : goal.all_after-requires-clause-apart
all_after-requires-clause-apart c = at_none c.in-Some.choice.node

pub all_after-requires-clause-now : goal.all_after-requires-clause-now
all_after-requires-clause-now c =
    true_tallies c.loop-choice.placement.at c.as_slice-at.result.now c.args.able.now c.loop-choice.all.items c.as_slice-at.ensures c.loop-choice.invariant.2

pub loop-choice-smaller : goal.loop-choice-smaller
loop-choice-smaller c =
    let found = first_place c.args.able.now c.loop-choice.placement.at c.as_slice-at.result.now c.deref.result.now c.next_place.result c.as_slice-at.ensures
    (c.deref.ensures.value ∙ c.loop-choice.invariant.2) c.next_place.ensures ∙ c.in-Some.is in
    subst (λ p. homeless p.at < homeless c.loop-choice.placement.at) (sym c.in_ok-carry_out.ensures.ok) (place_less c.args.able.now c.loop-choice.placement.at c.in-Some.choice found)

pub loop-choice-preserved : goal.loop-choice-preserved
loop-choice-preserved c =
    let at = c.loop-choice.placement.at in
    let choice = c.in-Some.choice in
    let found = first_place c.args.able.now at c.as_slice-at.result.now c.deref.result.now c.next_place.result c.as_slice-at.ensures
    (c.deref.ensures.value ∙ c.loop-choice.invariant.2) c.next_place.ensures ∙ c.in-Some.is in
    let sent = ap (λ p. p.at) c.in_ok-carry_out.ensures.ok in (
      place_more c.args.able.now c.loop-choice.placement c.carry_out.new.self choice found c.in_ok-carry_out.ensures.ok ∙ c.loop-choice.invariant.0,
      ap addresses sent ∙ addresses_sent choice.address choice.node at ∙ c.loop-choice.invariant.1,
      next_tallies at c.as_slice-at.result.now c.carry_out.new.self.at c.args.able.now c.loop-choice.all.items _ choice.address choice.node c.loop-choice.invariant.2 c.as_slice-at.ensures c.in_ok-all-2.ensures sent,
    )
