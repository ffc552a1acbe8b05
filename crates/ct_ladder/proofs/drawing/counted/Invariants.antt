use Rattle.std.proofs.Common.{◌≡◌, ◌≤◌, drop}
use Rattle.ct_ladder.specs.Drawing.{counts_from}
use Rattle.ct_ladder.proofs.drawing.counted.Given as goal

abbrev pub invariant-loop-rung : goal.invariant-loop-rung
invariant-loop-rung l = record {
  lines : l.counts.lines ≤ l.rung-index;
  came : l.counts.came ≤ l.rung-index;
  counts : counts_from l.counts (drop l.rung-index l.rungs) ≡ counts_from (record { lines = 0; came = 0 }) l.rungs;
}
