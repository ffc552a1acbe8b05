use Rattle.std.proofs.Common.{◌∙◌, List, Ok, ap, refl, sym}
use Rattle.ct_rules_cluster.specs.Steps.{steps}
use Rattle.ct_rules_cluster.specs.declared.step.Line.{Line}
use Rattle.ct_world.specs.World.{cluster_of}
use Rattle.ct_rules_cluster.specs.Cluster.{is_waiting, sent_at}
use Rattle.ct_world.proofs.Asked.{drop_waits, is_sent}
use Rattle.ct_world.proofs.Messages.{dropped}
use Rattle.ct_world.proofs.Numbers.{numbered_so}
use Rattle.ct_world.proofs.parts.Parts.drop.Goals as goal

pub drop-requires : goal.drop-requires
drop-requires c = ap is_waiting (numbered_so c.args.number (cluster_of c.args.self.now)) ∙ drop_waits c.args.self.now c.args.number c.requires

pub returns-clause-step : goal.returns-clause-step
unfolding steps
returns-clause-step c = λ rules.
    let at = is_sent c.args.number (sent_at c.args.number (cluster_of c.args.self.now)) (drop_waits c.args.self.now c.args.number c.requires) in
    let new = record c.args.self.now { mail = c.drop.new.self } in
    let there = numbered_so c.args.number (cluster_of c.args.self.now) ∙ at.1 in
    let is = dropped rules c.args.number at.0 at.0.frame c.args.self.now at.1 refl new (ap (λ m. record c.args.self.now { mail = m }) (c.drop.ensures at.0 there)) in
    (is.0 ∙ ap (λ (ls : List Line). Ok (record { cluster = cluster_of new; lines = ls })) (sym c.new.ensures.items), is.1)
