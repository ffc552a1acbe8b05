use Rattle.std.proofs.Common.{◌≡◌, drop}
use Rattle.ct_schedule_text.specs.Telling.{told_outs}
use Rattle.ct_schedule_text.proofs.Adding.{text_after}
use Rattle.ct_schedule_text.proofs.telling.Teller.tell_outs.Given as goal

-- the text before, and what is told of the rest
abbrev pub invariant-loop-out : goal.invariant-loop-out
invariant-loop-out l = text_after l.config l.text.items (told_outs l.node (drop l.out-index l.outs) l.self) ≡ text_after l.config l.initial.text.items (told_outs l.node l.outs l.initial.self)
