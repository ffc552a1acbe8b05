use Rattle.std.proofs.Common.{◌-◌, ◌≤◌}
use Rattle.ct_call.specs.Shown.{rules_of}
use Rattle.ct_mail.specs.Mail.{next_waiting}
use Rattle.ct_play.specs.Effect.{delivery}
use Rattle.ct_play.proofs.Coming.{Coming}
use Rattle.ct_play.proofs.stepping.settle.Given as goal

abbrev pub invariant-loop-i : goal.invariant-loop-i
invariant-loop-i g l =
    record {
      within : l.i ≤ l.count;
      left : Coming (λ v k. delivery (rules_of l.table) v k (next_waiting v.cluster.sent)) l.count l.initial.world l.initial.walker l.world l.walker (l.count - l.i) l.initial.texts.items l.texts.items;
    }
