use Rattle.std.proofs.Common.{◌≡◌, true, rules}
use Rattle.ct_call.specs.Shown.{rules_of}
use Rattle.ct_troupe.proofs.Staging.{acted}
use Rattle.ct_troupe.specs.Stages.{seen}
use Rattle.ct_troupe.proofs.stage.Stage.act.Goals as goal

pub returns : goal.returns
returns g c =
    let is : c.in_ok-take.field-0 ≡ true = search rules in
    acted (rules_of c.args.table.now) c.args.plan.now c.args.node c.in_ok-take.field-0 (seen c.args.self.now) (seen c.take.new.self) (seen c.note.new.self) c.requires.playing is c.in_ok-take.ensures c.in_ok-note.ensures
