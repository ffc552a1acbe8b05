use Rattle.std.proofs.Common.{◌∙◌, [], ap, refl, sym}
use Rattle.std.specs.Prelude.{Vec}
use Rattle.std.specs.declared.alloc.Global.{Global}
use Rattle.ct_call.specs.Shown.{rules_of}
use Rattle.ct_rules_cluster.specs.Steps.{steps}
use Rattle.ct_rules_cluster.specs.declared.step.Line.{Line}
use Rattle.ct_frame.specs.declared.event.Event.TheVariants as event
use Rattle.ct_world.specs.World.{cluster_of}
use Rattle.ct_rules_cluster.specs.Cluster.{is_waiting}
use Rattle.ct_world.proofs.Asked.{deliver_waits}
use Rattle.ct_world.proofs.Messages.{delivered, fed_keeps, undelivered}
use Rattle.ct_world.proofs.Numbers.{numbered_so}
use Rattle.ct_world.proofs.Given.{handed_on}
use Rattle.ct_world.proofs.parts.Parts.hand_over.Goals as goal

pub returns-in_err-lines-clause-step : goal.returns-in_err-lines-clause-step
unfolding steps
returns-in_err-lines-clause-step g c =
    let s = c.requires.at.0 in
    handed_on (λ (v : Vec Line Global). v.items) c.from_residual.result c.in_err-lines.field-0.0 _ _ _ c.from_residual.ensures.1
    (undelivered (rules_of c.args.table.now) c.args.number s s.frame c.args.self.now c.requires.at.1 refl (λ (v : Vec Line Global). v.items) c.in_err-lines.field-0.0 c.arrive.new.self c.requires.at.2 (c.in_err-lines.ensures.step s c.requires.at.1))

pub deliver-requires : goal.deliver-requires
deliver-requires g c =
    let s = c.requires.at.0 in
    let old = cluster_of c.args.self.now in
    let fed = c.in_ok-lines.ensures.step s c.requires.at.1 in
    let kept = fed_keeps c.args.self.now.config (rules_of c.args.table.now) s.frame.receiver (event.Arrive s.frame) [] old (record { cluster = cluster_of c.arrive.new.self; lines = c.in_ok-lines.lines.items }) c.args.number s fed.0 c.requires.at.1 in
    ap is_waiting (numbered_so c.args.number (cluster_of c.arrive.new.self) ∙ kept ∙ sym c.requires.at.1) ∙ deliver_waits c.args.self.now c.args.number c.requires.may

pub returns-clause-step : goal.returns-clause-step
unfolding steps
returns-clause-step g c =
    let s = c.requires.at.0 in
    let old = cluster_of c.args.self.now in
    let fed = c.in_ok-lines.ensures.step s c.requires.at.1 in
    let kept = fed_keeps c.args.self.now.config (rules_of c.args.table.now) s.frame.receiver (event.Arrive s.frame) [] old (record { cluster = cluster_of c.arrive.new.self; lines = c.in_ok-lines.lines.items }) c.args.number s fed.0 c.requires.at.1 in
    let there = numbered_so c.args.number (cluster_of c.arrive.new.self) ∙ kept in
    delivered (rules_of c.args.table.now) c.args.number s s.frame c.args.self.now c.requires.at.1 refl c.arrive.new.self (record c.arrive.new.self { mail = c.deliver.new.self }) c.in_ok-lines.lines.items c.requires.at.2 fed.0 fed.1
    (ap (λ m. record c.arrive.new.self { mail = m }) (c.deliver.ensures s there))
