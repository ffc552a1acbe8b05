use Rattle.std.proofs.Common.{length, ◌-◌, ◌≤◌}
use Rattle.ct_mail.specs.Mail.{before_waiting}
use Rattle.ct_mail.proofs.mail.first_from.Given as goal

abbrev pub invariant-loop-one : goal.invariant-loop-one
invariant-loop-one l = l.first ≤ before_waiting l.sent

abbrev pub decreases-loop-one : goal.decreases-loop-one
decreases-loop-one l = length l.sent - l.first
