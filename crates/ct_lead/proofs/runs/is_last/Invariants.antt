use Rattle.std.proofs.Common.{◌≡◌, drop}
use Rattle.ct_values.specs.Words.{is_nil, others}
use Rattle.ct_lead.proofs.runs.is_last.Given as goal

-- none before is another
abbrev pub invariant-loop-n : goal.invariant-loop-n
invariant-loop-n l = is_nil (others l.node (drop l.n-index l.missing)) ≡ is_nil (others l.node l.missing)
