use Rattle.std.proofs.Common.{◌≡◌, Option, None, Some, ap, subst, sym}
use Rattle.std.specs.Prelude.{MatchOption}
use Rattle.ct_rules_cluster.specs.Cluster.{Sent, World}
use Rattle.ct_world.proofs.Numbers.{sent_numbered}
use Rattle.ct_world.proofs.world.World.message.Goals as goal

pub returns : goal.returns
returns c = subst (λ (o : Option Sent). MatchOption c.frame.result (o ≡ None) (λ f. (s : Sent) × (o ≡ Some s) × (s.frame ≡ f.now)))
    (sent_numbered c.args.number c.args.self.now.cluster c.self.inside.parts.mail (sym (ap (λ (w : World). w.cluster.sent) c.self.view_is))) c.frame.ensures
