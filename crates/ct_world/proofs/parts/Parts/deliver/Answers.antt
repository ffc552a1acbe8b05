use Rattle.std.proofs.Common.{◌≡◌, ℕ, ap, refl, subst, sym, true}
use Rattle.ct_rules_cluster.specs.Cluster.{is_up, sent_at}
use Rattle.ct_frame.specs.declared.frame.Frame.{Frame}
use Rattle.ct_world.specs.World.{cluster_of}
use Rattle.ct_world.proofs.Asked.{deliver_waits}
use Rattle.ct_world.proofs.Given.{at_frame, no_frame, none_waits, up_as}
use Rattle.ct_world.proofs.parts.Parts.deliver.Goals as goal

pub returns-in_default-clause-step : goal.returns-in_default-clause-step
returns-in_default-clause-step g c =
    let w = cluster_of c.args.self.now in
    absurd (none_waits (sent_at c.args.number w) (no_frame c.args.number w c.frame.result c.frame.ensures c.in_default.not-Some) (deliver_waits c.args.self.now c.args.number c.requires))

pub hand_over-requires-clause-at : goal.hand_over-requires-clause-at
hand_over-requires-clause-at g c =
    let w = cluster_of c.args.self.now in
    let s = at_frame c.args.number w c.frame.result c.in-Some.frame c.frame.ensures c.in-Some.is in
    let up = up_as c.as_slice.result.now c.args.self.now.running c.in-Some.frame.now.receiver _ w c.as_slice.ensures refl c.if-is_marked.ensures in
    (s.0, s.1, subst (λ (f : Frame). is_up f.receiver w ≡ true) (sym s.2) up)

pub lose-requires-clause-at : goal.lose-requires-clause-at
lose-requires-clause-at g c =
    let s = at_frame c.args.number (cluster_of c.args.self.now) c.frame.result c.in-Some.frame c.frame.ensures c.in-Some.is in
    (s.0, s.1, ap (λ (f : Frame). f.receiver) s.2)

pub lose-requires-clause-down : goal.lose-requires-clause-down
lose-requires-clause-down g c =
    up_as c.as_slice.result.now c.args.self.now.running c.in-Some.frame.now.receiver _ (cluster_of c.args.self.now) c.as_slice.ensures refl c.if-is_marked.ensures
