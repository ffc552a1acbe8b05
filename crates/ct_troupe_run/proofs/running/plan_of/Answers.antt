use Rattle.ct_troupe_run.proofs.Played.{sound_over}
use Rattle.ct_troupe_run.proofs.running.plan_of.Goals as goal

pub returns-clause-sound : goal.returns-clause-sound
returns-clause-sound c = sound_over c.in_ok-plan.plan c.args.wanted.now.net c.in_ok-plan.ensures.sound
