use Rattle.std.proofs.Common.{◌≡◌, drop}
use Rattle.ct_rules.specs.Parts.{drain}
use Rattle.ct_record_parts.proofs.draft.Draft.drained.Given as goal

-- what the recalls that are left come to is what all of them come to
abbrev pub invariant-loop-i : goal.invariant-loop-i
invariant-loop-i l = drain l.at (drop l.i l.notes) l.self ≡ drain l.at l.notes l.initial.self
