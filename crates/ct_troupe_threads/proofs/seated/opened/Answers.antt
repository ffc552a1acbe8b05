use Rattle.ct_troupe.proofs.Staging.{has_limits}
use Rattle.ct_troupe_threads.proofs.seated.opened.Goals as goal

pub new-requires-clause-limits : goal.new-requires-clause-limits
new-requires-clause-limits c = has_limits c.args.plan.now c.requires.sound
