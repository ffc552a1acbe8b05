use Rattle.std.proofs.Common.{◌≡◌, ◌++◌, drop}
use Rattle.ct_traverse_parts.specs.Walk.{questions}
use Rattle.ct_traverse_parts.proofs.traverse.Traverse.questions.Given as goal

-- the questions before and those to the members that are left
abbrev pub invariant-loop-member : goal.invariant-loop-member
invariant-loop-member l = l.posts.items ++ questions l.pass l.self.node l.self.generation l.self.number l.self.db (drop l.member-index l.self.members) ≡ questions l.pass l.self.node l.self.generation l.self.number l.self.db l.self.members
