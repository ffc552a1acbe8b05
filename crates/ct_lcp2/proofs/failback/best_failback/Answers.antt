use Rattle.std.proofs.Common.{◌≡◌, ◌∙◌, true, false, nat_eq, arith}
use Rattle.ct_lcp2.proofs.Loops.{target_more}
use Rattle.ct_lcp2.proofs.failback.best_failback.Goals as goal
use Rattle.ct_lcp2.proofs.failback.best_failback.Goals.{then-target-source, else-target-source}

pub loop-target-preserved : goal.loop-target-preserved
loop-target-preserved c =
    let one = c.target-item.result in
    elim c.if-target-source.branch [
      | then-target-source w ↦
          let other : nat_eq one.node c.args.source.now.node ≡ false = let h = w.if-target-source.true in grind arith in
          target_more c.args.source.now.node c.args.targets.now c.loop-target.target-index one c.args.at.now c.loop-target.best c.if-target-source.best _ false c.loop-target-test.true c.target-item.is other (w.best-is ∙ w.best_failback_to-best.ensures) c.loop-target.invariant
      | else-target-source w ↦
          let same : nat_eq one.node c.args.source.now.node ≡ true = let h = w.if-target-source.false in grind arith in
          target_more c.args.source.now.node c.args.targets.now c.loop-target.target-index one c.args.at.now c.loop-target.best c.if-target-source.best _ true c.loop-target-test.true c.target-item.is same w.best-is c.loop-target.invariant
    ]
