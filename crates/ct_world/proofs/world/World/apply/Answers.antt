use Rattle.std.proofs.Common.{sym}
use Rattle.std.specs.Prelude.{Vec}
use Rattle.std.specs.declared.alloc.Global.{Global}
use Rattle.ct_call.specs.Shown.{rules_of}
use Rattle.ct_rules_cluster.specs.declared.step.Line.{Line}
use Rattle.ct_world.proofs.Kept.{is_refused}
use Rattle.ct_world.proofs.world.World.apply.Goals as goal

pub returns-in-Some : goal.returns-in-Some
returns-in-Some g c = is_refused (λ (v : Vec Line Global). v.items) c.args.self.now.config (rules_of c.args.table.now) c.args.self.now.cluster c.args.step.now c.in-Some.fault c.args.self.now (sym c.in-Some.ensures)
