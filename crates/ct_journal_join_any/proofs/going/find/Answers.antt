use Rattle.ct_journal_join_any.proofs.Searching.{none_at_all}
use Rattle.ct_journal_join_any.proofs.going.find.Goals as goal

pub returns-in-None-clause-none : goal.returns-in-None-clause-none
returns-in-None-clause-none c = none_at_all c.args.world.now.cluster c.args.frame.now c.find_from-in-None.result c.find_from-in-None.ensures.none
