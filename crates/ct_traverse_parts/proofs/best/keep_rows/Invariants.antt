use Rattle.std.proofs.Common.{◌≡◌, drop}
use Rattle.ct_traverse_parts.specs.Best.{gathered, taken_back}
use Rattle.ct_traverse_parts.proofs.best.keep_rows.Given as goal

-- what the rows that are left make of what is kept now, and that the changes until now are noted
abbrev pub invariant-loop-row : goal.invariant-loop-row
invariant-loop-row l =
    (gathered l.pass l.node (drop l.row-index l.rows) l.kept ≡ gathered l.pass l.node l.rows l.initial.kept) ×
    (taken_back l.changes.items l.kept ≡ taken_back l.initial.changes.items l.initial.kept)
