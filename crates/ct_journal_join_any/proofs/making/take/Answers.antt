use Rattle.ct_call.specs.Shown.{rules_of}
use Rattle.ct_journal_join_any.proofs.Stepping.{is_asked}
use Rattle.ct_journal_join_any.proofs.making.take.Goals as goal

pub apply-requires : goal.apply-requires
apply-requires g c = is_asked c.args.world.now.config (rules_of c.args.table.now) c.args.world.now.cluster c.args.step.now c.requires
