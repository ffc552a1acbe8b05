use Rattle.std.proofs.Common.{Ok, refl, sym}
use Rattle.std.specs.Prelude.{Vec}
use Rattle.std.specs.declared.alloc.Global.{Global}
use Rattle.ct_rules_cluster.specs.Steps.{done, steps}
use Rattle.ct_rules_cluster.specs.declared.step.Line.{Line}
use Rattle.ct_world.specs.World.{cluster_of}
use Rattle.ct_world.proofs.Asked.{start_node}
use Rattle.ct_world.proofs.Given.{no_memory}
use Rattle.ct_world.proofs.parts.Parts.start.Goals as goal

pub returns-in_err-lines-clause-step : goal.returns-in_err-lines-clause-step
returns-in_err-lines-clause-step c = λ rules. no_memory (λ (v : Vec Line Global). v.items) c.from_residual.result _ _ c.from_residual.ensures.1

pub returns-in_err-lines-clause-seats : goal.returns-in_err-lines-clause-seats
returns-in_err-lines-clause-seats c = c.requires.form.seats

pub mark-requires : goal.mark-requires
mark-requires c = start_node c.args.self.now c.args.node c.requires

pub returns-clause-step : goal.returns-clause-step
unfolding steps done
returns-clause-step c = λ rules.
    ((λ i. Ok (record { cluster = record (cluster_of c.args.self.now) { running = sym c.mark.ensures i }; lines = sym c.in_ok-lines.ensures i })), refl)

pub returns-clause-seats : goal.returns-clause-seats
returns-clause-seats c = c.requires.form.seats
