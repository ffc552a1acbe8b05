use Rattle.std.proofs.Common.{◌≡◌, ◌-◌, ◌≤◌}
use Rattle.ct_call.specs.Shown.{rules_of}
use Rattle.ct_soak.specs.Soaking.{settled}
use Rattle.ct_soak.proofs.soaking.Soaking.settle.Given as goal

abbrev pub invariant-loop-i : goal.invariant-loop-i
invariant-loop-i g l =
    record {
      within : l.i ≤ l.count;
      left : settled (rules_of l.table) (l.count - l.i) l.self ≡ settled (rules_of l.table) l.count l.initial.self;
      unskipped : l.self.skipped ≡ l.initial.self.skipped;
    }
