use Rattle.std.proofs.Common.{◌≡◌, drop, length}
use Rattle.ct_schedule_text.specs.Telling.{told_from}
use Rattle.ct_schedule_text.proofs.Adding.{text_after}
use Rattle.ct_schedule_text.proofs.telling.Teller.tell_all.Given as goal

-- each journal has its place; the text before, and what is told of the nodes that are left
abbrev pub invariant-loop-node : goal.invariant-loop-node
invariant-loop-node l = (length l.self.front.taken ≡ length l.journals) × (text_after l.config l.text.items (told_from l.journals (drop l.node-index l.order) l.self) ≡ text_after l.config l.initial.text.items (told_from l.journals l.order l.initial.self))
