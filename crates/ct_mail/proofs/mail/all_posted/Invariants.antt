use Rattle.std.proofs.Common.{◌≡◌, ◌++◌, map}
use Rattle.ct_mail.specs.Mail.{posted}
use Rattle.ct_mail.proofs.mail.all_posted.Given as goal

abbrev pub invariant-loop-frame : goal.invariant-loop-frame
invariant-loop-frame l = l.all.items ++ map posted l.frame-iterator.rest.items ≡ map posted l.initial.frame-iterator.rest.items
