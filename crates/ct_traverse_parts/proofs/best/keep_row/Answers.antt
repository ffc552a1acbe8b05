use Rattle.std.proofs.Common.{◌∙◌, sym}
use Rattle.ct_traverse_parts.proofs.Back.{back_more}
use Rattle.ct_traverse_parts.proofs.best.keep_row.Goals as goal

pub returns-clause-back : goal.returns-clause-back
returns-clause-back c =
    back_more c.args.changes.now.items c.push.new.self.items c.in_ok-again.again c.in_ok-key.key c.in_ok-best.best c.in_ok-before.before c.args.kept.now c.put.new.self
    c.ascends.ensures (c.in_ok-again.ensures ∙ c.key-3.ensures ∙ sym (c.in_ok-key.ensures ∙ c.key-2.ensures)) c.in_ok-before.ensures.before c.in_default.ensures.items c.in_ok-before.ensures.ok
