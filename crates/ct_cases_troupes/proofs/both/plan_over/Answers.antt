use Rattle.ct_troupe_run.proofs.Played.{sound_over}
use Rattle.ct_cases_troupes.proofs.both.plan_over.Goals as goal

pub returns : goal.returns
returns c = sound_over c.in_ok-plan.plan c.args.net c.in_ok-plan.ensures.sound
