use Rattle.ct_call.specs.Shown.{rules_of}
use Rattle.ct_troupe.proofs.Ending.{are_played, have_arrived}
use Rattle.ct_troupe.specs.Stages.{seen}
use Rattle.ct_troupe.proofs.turns.play.Goals as goal

pub returns-clause-played : goal.returns-clause-played
returns-clause-played g c = are_played (rules_of c.args.table.now) c.args.plan.now (seen c.play.new.self) c.in_ok-journals.journals.items c.requires.sound c.in_ok-play.ensures c.in_ok-journals.ensures

pub returns-clause-arrived : goal.returns-clause-arrived
returns-clause-arrived g c = have_arrived (rules_of c.args.table.now) c.args.plan.now (seen c.play.new.self) c.in_ok-journals.journals.items c.in_ok-play.ensures c.in_ok-journals.ensures
