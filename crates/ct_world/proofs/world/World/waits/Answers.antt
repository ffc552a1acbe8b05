use Rattle.std.proofs.Common.{◌∙◌, ap, sym}
use Rattle.ct_rules_cluster.specs.Cluster.{is_waiting, World}
use Rattle.ct_world.proofs.Numbers.{sent_numbered}
use Rattle.ct_world.proofs.world.World.waits.Goals as goal

pub returns : goal.returns
returns c = c.is_waiting.ensures ∙ ap is_waiting (sent_numbered c.args.number c.args.self.now.cluster c.self.inside.parts.mail (sym (ap (λ (w : World). w.cluster.sent) c.self.view_is)))
