use Rattle.std.proofs.Common.{◌≡◌, ◌++◌, drop}
use Rattle.ct_traverse_parts.specs.Walk.{end_lines}
use Rattle.ct_traverse.proofs.walker.end_lines.Given as goal

-- the lines before and those of the traverses that are left
abbrev pub invariant-loop-t : goal.invariant-loop-t
invariant-loop-t l = l.lines.items ++ end_lines l.world (drop l.t-index l.running) ≡ end_lines l.world l.running
