use Rattle.std.proofs.Common.{◌-◌, ◌∙◌, ap, get_or, refl}
use Rattle.ct_lcp2.specs.Distance.{squared, sum_to}
use Rattle.ct_lcp2.specs.Leavers.{unplaced}
use Rattle.ct_lcp2.specs.Placing.{held}
use Rattle.ct_lcp2.proofs.Tallies.{changed, unchanged}
use Rattle.ct_lcp2.proofs.tally.take_squares.Goals as goal

pub loop-i-preserved : goal.loop-i-preserved
loop-i-preserved c =
    let here = held c.args.node c.args.at.now in
    let is = unchanged (λ x. sum_to x.address here - squared x.address c.args.address) (λ x. sum_to x.address here) c.args.at.now c.loop-i.i unplaced c.loop-i.sums.items c.index.result.now c.loop-i-test.true c.loop-i.invariant in
    let read = c.index.ensures ∙ is in
    changed (λ x. sum_to x.address here - squared x.address c.args.address) (λ x. sum_to x.address here) c.args.at.now c.loop-i.i unplaced c.loop-i.sums.items _ c.saturating_sub.result c.loop-i-test.true
    (c.saturating_sub.ensures ∙ ap (λ s. s - c.squared.result) read ∙ ap (λ q. sum_to (get_or c.args.at.now c.loop-i.i unplaced).address here - q) c.squared.ensures) refl c.loop-i.invariant
