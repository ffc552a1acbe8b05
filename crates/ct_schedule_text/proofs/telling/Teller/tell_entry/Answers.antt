use Rattle.std.proofs.Common.{Bool, subst}
use Rattle.ct_schedule_text.proofs.Growing.{entry_fails}
use Rattle.ct_schedule_text.proofs.telling.Teller.tell_entry.Goals as goal
use Rattle.ct_schedule_text.specs.Telling.{AddsLines, told_event}

pub returns-then-not-branch : goal.returns-then-not-branch
returns-then-not-branch c =
    let config = c.args.config.now in
    entry_fails config c.args.node c.args.entry.now c.args.self.now c.tell_event.new.self c.args.text.now.items c.tell_event.new.text.items
    (subst (λ (b : Bool). AddsLines config b (told_event c.args.node c.args.entry.now.event c.args.self.now) c.tell_event.new.self c.args.text.now.items c.tell_event.new.text.items) c.if-not-branch.true c.in_ok-tell_event.ensures.lines)
