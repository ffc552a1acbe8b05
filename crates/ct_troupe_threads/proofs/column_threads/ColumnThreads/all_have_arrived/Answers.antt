use Rattle.ct_troupe.proofs.Ending.{none_left}
use Rattle.ct_troupe_threads.specs.Sides.{journals_in}
use Rattle.ct_troupe_threads.proofs.Ending.{no_column_past}
use Rattle.ct_troupe_threads.proofs.column_threads.ColumnThreads.all_have_arrived.Goals as goal

pub returns-in_default : goal.returns-in_default
returns-in_default g c =
    none_left (journals_in c.args.self.now.columns.items c.args.self.now.played c.args.number)
    (no_column_past c.args.self.now.columns.items c.deref.result.now c.args.self.now.played c.args.number c.deref.ensures.value c.in_default.ensures.lookup.3)
