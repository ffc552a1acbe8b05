use Rattle.std.proofs.Common.{◌≡◌, drop}
use Rattle.ct_soak.specs.Counts.{last_sent}
use Rattle.ct_soak.proofs.soaking.last_sent.Given as goal

abbrev pub invariant-loop-line : goal.invariant-loop-line
invariant-loop-line l = last_sent l.last (drop l.line-index l.lines) ≡ last_sent l.before l.lines
