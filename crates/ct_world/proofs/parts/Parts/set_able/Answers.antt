use Rattle.std.proofs.Common.{Ok, refl, sym}
use Rattle.ct_rules_cluster.specs.Steps.{done, steps}
use Rattle.ct_world.specs.World.{cluster_of}
use Rattle.ct_world.proofs.Asked.{able_node}
use Rattle.ct_world.proofs.parts.Parts.set_able.Goals as goal

pub mark-requires : goal.mark-requires
mark-requires c = able_node c.args.self.now c.args.node c.args.able c.requires

pub returns-clause-step : goal.returns-clause-step
unfolding steps done
returns-clause-step c = λ rules.
    ((λ i. Ok (record { cluster = record (cluster_of c.args.self.now) { able = sym c.mark.ensures i }; lines = sym c.new.ensures.items i })), refl)

pub returns-clause-seats : goal.returns-clause-seats
returns-clause-seats c = c.requires.form.seats
