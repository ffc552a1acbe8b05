use Rattle.std.proofs.Common.{◌∙◌, ap, true, false, get_or}
use Rattle.std.specs.Prelude.{not}
use Rattle.ct_lcp2.specs.Placing.{held}
use Rattle.ct_lcp2.proofs.Loops.{place_added}
use Rattle.ct_lcp2.proofs.Tallies.{sum_at}
use Rattle.ct_lcp2.specs.Leavers.{unplaced}
use Rattle.ct_lcp2.proofs.vacant.best_place_at.Goals as goal
use Rattle.ct_lcp2.proofs.vacant.best_place_at.Goals.{then-is_none, else-is_none}

pub loop-i-preserved : goal.loop-i-preserved
loop-i-preserved c =
    let node = c.args.one.now.node in
    let xs = c.args.at.now in
    let i = c.loop-i.i in
    let there = held node xs in
    let sum = get_or c.as_slice-sums.result.now i 0 in
    let is = sum_at there xs c.as_slice-sums.result.now i unplaced (c.as_slice-sums.ensures ∙ ap (λ t. t.sums) c.requires) c.loop-i-test.true in
    elim c.if-is_none.branch [
      | then-is_none w ↦
          place_added node there xs i c.loop-i.best c.if-is_none.best _ sum false c.loop-i-test.true (c.is_none.ensures ∙ ap not w.if-is_none.true) is (w.best-is ∙ w.or_better-best.ensures) c.loop-i.invariant
      | else-is_none w ↦ place_added node there xs i c.loop-i.best c.if-is_none.best _ sum true c.loop-i-test.true (c.is_none.ensures ∙ ap not w.if-is_none.false) is w.best-is c.loop-i.invariant
    ]
