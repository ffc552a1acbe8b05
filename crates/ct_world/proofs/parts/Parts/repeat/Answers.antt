use Rattle.std.proofs.Common.{◌≡◌, ◌∙◌, [], List, Ok, ap, refl, subst, sym, true}
use Rattle.std.specs.Prelude.{Vec}
use Rattle.std.specs.declared.alloc.Global.{Global}
use Rattle.ct_call.specs.Shown.{rules_of}
use Rattle.ct_rules_cluster.specs.Steps.{fed, steps}
use Rattle.ct_rules_cluster.specs.declared.step.Line.{Line}
use Rattle.ct_frame.specs.declared.event.Event.TheVariants as event
use Rattle.ct_world.specs.World.{cluster_of, world_of}
use Rattle.ct_rules_cluster.specs.Cluster.{is_up, sent_at}
use Rattle.ct_frame.specs.declared.frame.Frame.{Frame}
use Rattle.ct_rules_cluster.specs.Steps.{repeat}
use Rattle.ct_world.proofs.Asked.{repeat_delivered}
use Rattle.ct_world.proofs.Given.{at_frame, no_frame, no_memory, none_delivered, rule_as, up_as}
use Rattle.ct_world.proofs.Messages.{again, again_lost}
use Rattle.ct_world.proofs.parts.Parts.repeat.Goals as goal

pub returns-in_default-clause-step : goal.returns-in_default-clause-step
returns-in_default-clause-step g c =
    let w = cluster_of c.args.self.now in
    absurd (none_delivered (sent_at c.args.number w) (no_frame c.args.number w c.frame.result c.frame.ensures c.in_default.not-Some) (repeat_delivered c.args.self.now c.args.number c.requires))

pub returns-then-is_marked-clause-step : goal.returns-then-is_marked-clause-step
unfolding steps
returns-then-is_marked-clause-step g c =
    let w = cluster_of c.args.self.now in
    let s = at_frame c.args.number w c.frame.result c.in-Some.frame c.frame.ensures c.in-Some.is in
    let up = up_as c.as_slice.result.now c.args.self.now.running c.in-Some.frame.now.receiver _ w c.as_slice.ensures refl c.if-is_marked.ensures in
    rule_as (λ (v : Vec Line Global). v.items) c.arrive.result (fed c.args.self.now.config (rules_of c.args.table.now) s.0.frame.receiver (event.Arrive s.0.frame) [] w) (repeat c.args.self.now.config (rules_of c.args.table.now) c.args.number w (sent_at c.args.number w)) (world_of c.args.self.now) (world_of c.arrive.new.self)
    (again (rules_of c.args.table.now) c.args.number s.0 s.0.frame c.args.self.now s.1 refl (subst (λ (f : Frame). is_up f.receiver w ≡ true) (sym s.2) up)) (c.arrive.ensures.step s.0 s.1)

pub returns-clause-step : goal.returns-clause-step
unfolding steps
returns-clause-step g c =
    let w = cluster_of c.args.self.now in
    let s = at_frame c.args.number w c.frame.result c.in-Some.frame c.frame.ensures c.in-Some.is in
    let down = up_as c.as_slice.result.now c.args.self.now.running c.in-Some.frame.now.receiver _ w c.as_slice.ensures refl c.if-is_marked.ensures in
    (again_lost (rules_of c.args.table.now) c.args.number s.0 c.in-Some.frame.now c.args.self.now s.1 s.2 down ∙ ap (λ (ls : List Line). Ok (record { cluster = w; lines = ls })) (sym c.in_ok-one.ensures), refl)

pub returns-in_err-one-clause-step : goal.returns-in_err-one-clause-step
returns-in_err-one-clause-step g c = no_memory (λ (v : Vec Line Global). v.items) c.from_residual.result _ _ c.from_residual.ensures.1
