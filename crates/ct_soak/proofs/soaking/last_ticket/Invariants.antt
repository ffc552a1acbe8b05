use Rattle.std.proofs.Common.{◌≡◌, drop}
use Rattle.ct_soak.specs.Counts.{last_ticket}
use Rattle.ct_soak.proofs.soaking.last_ticket.Given as goal

abbrev pub invariant-loop-line : goal.invariant-loop-line
invariant-loop-line l = last_ticket l.last (drop l.line-index l.lines) ≡ last_ticket l.before l.lines
