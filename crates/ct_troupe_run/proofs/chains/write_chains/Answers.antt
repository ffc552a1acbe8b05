use Rattle.std.proofs.Common.{◌∙◌}
use Rattle.ct_call.specs.Shown.{rules_of}
use Rattle.ct_troupe_run.proofs.Ending.{columns_failed, line_ends}
use Rattle.ct_troupe_run.proofs.chains.write_chains.Goals as goal

pub returns-in-Err-clause-writes : goal.returns-in-Err-clause-writes
returns-in-Err-clause-writes g c =
    columns_failed (rules_of c.args.table.now) c.args.wanted.now c.args.plans.now (g.T.Columns.told_in c.args.troupe.now) c.in-Err.fault (g.K.Sink.held c.args.out.now) (g.K.Sink.held c.write_columns.new.out)
    c.in-Err.ensures.writes

pub returns-clause-writes : goal.returns-clause-writes
returns-clause-writes g c =
    line_ends (rules_of c.args.table.now) c.args.wanted.now c.args.plans.now (g.T.Columns.told_in c.args.troupe.now) c.in-Ok.counts c.write_all.result c.as_slice.result.now (g.K.Sink.held c.args.out.now)
    (g.K.Sink.held c.write_columns.new.out) (g.K.Sink.held c.write_all.new.out) c.in-Ok.ensures.writes (c.as_slice.ensures.value ∙ c.in-Ok-summary.ensures) c.write_all.ensures.ok c.write_all.ensures.err
