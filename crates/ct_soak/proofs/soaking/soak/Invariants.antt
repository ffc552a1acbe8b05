use Rattle.std.proofs.Common.{◌≡◌, ◌-◌, ◌≤◌}
use Rattle.ct_call.specs.Shown.{rules_of}
use Rattle.ct_soak.specs.Soaking.{soaked, words_took}
use Rattle.ct_soak.proofs.soaking.soak.Given as goal

abbrev pub invariant-loop-i : goal.invariant-loop-i
invariant-loop-i g l =
    record {
      within : l.i ≤ l.steps;
      left : words_took (rules_of l.table) (l.steps - l.i) l.words l.soaking ≡ soaked (rules_of l.table) l.seed l.steps;
      skipped : l.soaking.skipped ≤ l.i;
    }
