use Rattle.std.proofs.Common.{◌≡◌, ◌+◌, ◌++◌, drop}
use Rattle.ct_traverse_parts.specs.Walk.{question_lines}
use Rattle.ct_traverse_parts.proofs.traverse.Traverse.question_lines.Given as goal

-- the lines before and those of the members that are left, under the next numbers
abbrev pub invariant-loop-member : goal.invariant-loop-member
invariant-loop-member l =
    (l.lines.items ++ question_lines l.number l.pass l.self.node l.self.generation l.self.number (drop l.member-index l.self.members) ≡ question_lines l.first l.pass l.self.node l.self.generation l.self.number l.self.members) ×
    (l.number ≡ l.first + l.member-index)
