use Rattle.std.proofs.Common.{◌+◌, ◌∷◌, ◌∙◌, refl}
use Rattle.ct_lcp2.specs.Distance.{sum_to}
use Rattle.ct_lcp2.specs.Placing.{held}
use Rattle.ct_lcp2.proofs.Tallies.{changed, one_more, sum_fits, unchanged}
use Rattle.ct_lcp2.proofs.tally.add_squares.Goals as goal

pub overflow_add-squared : goal.overflow_add-squared
overflow_add-squared c =
    let here = held c.args.node c.args.at.now in
    let is = unchanged (λ x. sum_to x.address (c.args.address ∷ here)) (λ x. sum_to x.address here) c.args.at.now c.loop-i.i _ c.loop-i.sums.items c.index.result.now c.loop-i-test.true c.loop-i.invariant in
    let read = c.index.ensures ∙ is in
    sum_fits c.args.node c.args.at.now c.args.address _ c.index.result.now c.squared.result c.requires.few read c.squared.ensures

pub loop-i-preserved : goal.loop-i-preserved
loop-i-preserved c =
    let here = held c.args.node c.args.at.now in
    let is = unchanged (λ x. sum_to x.address (c.args.address ∷ here)) (λ x. sum_to x.address here) c.args.at.now c.loop-i.i _ c.loop-i.sums.items c.index.result.now c.loop-i-test.true c.loop-i.invariant in
    let read = c.index.ensures ∙ is in
    changed (λ x. sum_to x.address (c.args.address ∷ here)) (λ x. sum_to x.address here) c.args.at.now c.loop-i.i _ c.loop-i.sums.items _ (c.squared.result + c.index.result.now) c.loop-i-test.true
    (one_more here _ c.args.address _ _ c.squared.ensures read) refl c.loop-i.invariant
