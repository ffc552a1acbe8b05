use Rattle.std.proofs.Common.{length, ◌≤◌}
use Rattle.ct_call.specs.Shown.{rules_of}
use Rattle.ct_troupe_run.proofs.Telling.{Fronts}
use Rattle.ct_troupe_run.proofs.columns.write_columns.Given as goal

-- the columns before this place are written
abbrev pub invariant-loop-place : goal.invariant-loop-place
invariant-loop-place g l =
    let sink = g.K.Sink in
    record {
      within : l.place ≤ length l.plans;
      fronts : Fronts (rules_of l.table) l.plans (g.T.Columns.told_in l.troupe) l.place l.counts (sink.held l.initial.out) (sink.held l.out);
      later : sink.faults l.initial.out ≤ sink.faults l.out;
    }
