use Rattle.std.proofs.Common.{◌≡◌, ◌∙◌, List, ℕ, Ok, ap, refl, subst, sym, false}
use Rattle.std.specs.Prelude.{Vec}
use Rattle.std.specs.declared.alloc.Global.{Global}
use Rattle.ct_rules_cluster.specs.Steps.{steps}
use Rattle.ct_rules_cluster.specs.declared.step.Line.{Line}
use Rattle.ct_world.specs.World.{cluster_of}
use Rattle.ct_rules_cluster.specs.Cluster.{is_up, is_waiting}
use Rattle.ct_world.proofs.Asked.{deliver_waits}
use Rattle.ct_world.proofs.Messages.{lost}
use Rattle.ct_world.proofs.Numbers.{numbered_so}
use Rattle.ct_world.proofs.Given.{no_memory}
use Rattle.ct_world.proofs.parts.Parts.lose.Goals as goal

pub drop-requires : goal.drop-requires
drop-requires c = ap is_waiting (numbered_so c.args.number (cluster_of c.args.self.now)) ∙ deliver_waits c.args.self.now c.args.number c.requires.may

pub returns-clause-step : goal.returns-clause-step
unfolding steps
returns-clause-step c = λ rules.
    let s = c.requires.at.0 in
    let down = subst (λ (n : ℕ). is_up n (cluster_of c.args.self.now) ≡ false) (sym c.requires.at.2) c.requires.down in
    let new = record c.args.self.now { mail = c.drop.new.self } in
    let there = numbered_so c.args.number (cluster_of c.args.self.now) ∙ c.requires.at.1 in
    let is = lost rules c.args.number s s.frame c.args.self.now c.requires.at.1 refl down new (ap (λ m. record c.args.self.now { mail = m }) (c.drop.ensures s there)) in
    (is.0 ∙ ap (λ (ls : List Line). Ok (record { cluster = cluster_of new; lines = ls })) (sym c.in_ok-lines.ensures), is.1)

pub returns-in_err-lines-clause-step : goal.returns-in_err-lines-clause-step
returns-in_err-lines-clause-step c = λ rules. no_memory (λ (v : Vec Line Global). v.items) c.from_residual.result _ _ c.from_residual.ensures.1
