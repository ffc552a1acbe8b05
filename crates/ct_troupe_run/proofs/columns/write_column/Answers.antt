use Rattle.ct_call.specs.Shown.{rules_of}
use Rattle.ct_outside.specs.declared.fault.SinkFault.TheVariants as sink
use Rattle.ct_troupe_run.proofs.Telling.{none_written}
use Rattle.ct_troupe_run.proofs.columns.write_column.Goals as goal

pub returns-in-Err-clause-writes : goal.returns-in-Err-clause-writes
returns-in-Err-clause-writes g c =
    none_written (rules_of c.args.table.now) c.args.plan.now c.args.number c.args.journals.now sink.NoMemory (g.K.Sink.held c.args.out.now) c.requires.sound c.requires.played
