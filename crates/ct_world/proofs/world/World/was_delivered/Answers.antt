use Rattle.std.proofs.Common.{◌∙◌, ap, sym}
use Rattle.ct_rules_cluster.specs.Cluster.{is_delivered, World}
use Rattle.ct_world.proofs.Numbers.{sent_numbered}
use Rattle.ct_world.proofs.world.World.was_delivered.Goals as goal

pub returns : goal.returns
returns c = c.is_delivered.ensures ∙ ap is_delivered (sent_numbered c.args.number c.args.self.now.cluster c.self.inside.parts.mail (sym (ap (λ (w : World). w.cluster.sent) c.self.view_is)))
