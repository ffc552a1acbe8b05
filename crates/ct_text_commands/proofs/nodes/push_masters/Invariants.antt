use Rattle.std.proofs.Common.{◌≡◌, ◌++◌, drop}
use Rattle.ct_text_commands.specs.Status.{master_lines}
use Rattle.ct_text_commands.proofs.nodes.push_masters.Given as goal

-- the text before and the lines of the members that are left
abbrev pub invariant-loop-place : goal.invariant-loop-place
invariant-loop-place l = l.text.items ++ master_lines l.place (drop l.place l.members) ≡ l.fn.text.items ++ master_lines 0 l.members
