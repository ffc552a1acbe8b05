use Rattle.std.proofs.Common.{◌≡◌, ◌<◌, [], List, Some, length, refl, subst, sym}
use Rattle.std.specs.Prelude.{Vec, slice_get}
use Rattle.std.specs.declared.alloc.Global.{Global}
use Rattle.ct_call.specs.Shown.{rules_of}
use Rattle.ct_core.specs.Core.{Core}
use Rattle.ct_frame.specs.declared.event.Event.TheVariants as event
use Rattle.ct_rules_cluster.specs.Cluster.{sent_at}
use Rattle.ct_rules_cluster.specs.declared.step.Line.{Line}
use Rattle.ct_world.specs.World.{cluster_of, world_of}
use Rattle.ct_world.proofs.Asked.{few_sent, message_comes, message_node}
use Rattle.ct_world.proofs.Fed.{comes_there, has_item, is_there, plan_refused}
use Rattle.ct_world.proofs.Given.{arrived_as, at_frame, fed_as, handed_on, no_frame, not_both}
use Rattle.ct_world.proofs.parts.Parts.arrive.Goals as goal

pub returns-in_default-clause-step : goal.returns-in_default-clause-step
returns-in_default-clause-step g c = λ s at.
    absurd (not_both _ s (no_frame c.args.number (cluster_of c.args.self.now) c.frame.result c.frame.ensures c.in_default.not-Some) at)

pub arrival_at-requires-clause-there : goal.arrival_at-requires-clause-there
arrival_at-requires-clause-there g c =
    let f = c.in-Some.frame.now in
    let s = at_frame c.args.number (cluster_of c.args.self.now) c.frame.result c.in-Some.frame c.frame.ensures c.in-Some.is in
    subst (λ (xs : List Core). f.receiver < length xs) (sym c.as_slice.ensures)
    (is_there c.args.self.now f.receiver c.requires (message_node c.args.self.now c.args.number s.0 f c.requires s.1 s.2))

pub arrival_at-requires-clause-coming : goal.arrival_at-requires-clause-coming
arrival_at-requires-clause-coming g c = λ x at.
    let f = c.in-Some.frame.now in
    let s = at_frame c.args.number (cluster_of c.args.self.now) c.frame.result c.in-Some.frame c.frame.ensures c.in-Some.is in
    comes_there c.args.self.now f.receiver (event.Arrive f) c.requires.seats (message_comes c.args.self.now c.args.number s.0 f c.requires s.1 s.2) x
    (subst (λ (xs : List Core). slice_get xs f.receiver ≡ Some x) c.as_slice.ensures at)

pub returns-in_err-planned-clause-step : goal.returns-in_err-planned-clause-step
returns-in_err-planned-clause-step g c = λ t there.
    let f = c.in-Some.frame.now in
    let w = cluster_of c.args.self.now in
    let s = at_frame c.args.number w c.frame.result c.in-Some.frame c.frame.ensures c.in-Some.is in
    let i = has_item c.args.self.now.cores f.receiver (is_there c.args.self.now f.receiver c.requires (message_node c.args.self.now c.args.number s.0 f c.requires s.1 s.2)) in
    let p = c.in_err-planned.ensures i.0 (subst (λ (xs : List Core). slice_get xs f.receiver ≡ Some i.0) (sym c.as_slice.ensures) i.1) in
    arrived_as (λ (v : Vec Line Global). v.items) c.from_residual.result c.args.self.now.config (rules_of c.args.table.now) w (world_of c.args.self.now) (world_of c.args.self.now) (sent_at c.args.number w) s.0 t f s.1 s.2 there
    (handed_on (λ (v : Vec Line Global). v.items) c.from_residual.result c.in_err-planned.field-0.0 _ _ _ c.from_residual.ensures.1 (plan_refused c.args.self.now (rules_of c.args.table.now) f.receiver (event.Arrive f) [] c.args.self.now.books i.0 i.1 c.requires.seats (λ (v : Vec Line Global). v.items) c.in_err-planned.field-0.0 p))

pub carry_out-requires-clause-sent : goal.carry_out-requires-clause-sent
carry_out-requires-clause-sent g c = few_sent c.args.self.now c.requires

pub carry_out-requires-clause-there : goal.carry_out-requires-clause-there
carry_out-requires-clause-there g c =
    let f = c.in-Some.frame.now in
    let s = at_frame c.args.number (cluster_of c.args.self.now) c.frame.result c.in-Some.frame c.frame.ensures c.in-Some.is in
    is_there c.args.self.now f.receiver c.requires (message_node c.args.self.now c.args.number s.0 f c.requires s.1 s.2)

pub returns-clause-step : goal.returns-clause-step
returns-clause-step g c = λ t there.
    let f = c.in-Some.frame.now in
    let w = cluster_of c.args.self.now in
    let s = at_frame c.args.number w c.frame.result c.in-Some.frame c.frame.ensures c.in-Some.is in
    arrived_as (λ (v : Vec Line Global). v.items) c.carry_out.result c.args.self.now.config (rules_of c.args.table.now) w (world_of c.args.self.now) (world_of c.carry_out.new.self) (sent_at c.args.number w) s.0 t f s.1 s.2 there
    (fed_as (λ (v : Vec Line Global). v.items) c.carry_out.result c.args.self.now.config (rules_of c.args.table.now) f.receiver (event.Arrive f) (event.Arrive f) c.new-own.result.items [] w (world_of c.args.self.now) (world_of c.carry_out.new.self) c.new-own.ensures.items refl
    (c.carry_out.ensures.step (rules_of c.args.table.now) (event.Arrive f) (λ x at. (c.in_ok-planned.ensures x (subst (λ (xs : List Core). slice_get xs f.receiver ≡ Some x) (sym c.as_slice.ensures) at)).0)))
