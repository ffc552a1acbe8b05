use Rattle.std.proofs.Common.{◌≡◌, ◌+◌, drop, map}
use Rattle.ct_picture.specs.Reading.{behind, run_from}
use Rattle.ct_picture.proofs.reading.read_lines.Given as goal

abbrev pub invariant-loop-line : goal.invariant-loop-line
invariant-loop-line l = record {
  number : l.number ≡ l.line-index + 1;
  run : behind l.rows.items (run_from l.number (map (λ w. w.now) (drop l.line-index l.lines)) l.rest) ≡ run_from 1 (map (λ w. w.now) l.lines) l.rest;
}
