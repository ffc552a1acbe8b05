use Rattle.std.proofs.Common.{◌≡◌, ◌∙◌, ◌∷◌, ◌+◌, drop, arith}
use Rattle.ct_wire_link.specs.Parcels.{frames_sent}
use Rattle.ct_wire_link.proofs.Frames.{Stands, next_answers, next_notes, next_sends, stands_next, stands_still, stands_stopped}
use Rattle.ct_wire_link.proofs.send.send_all.Goals as goal
use Rattle.ct_wire_link.proofs.send.send_all.Goals.{in-Send+in-Ok, in-Answer, in-Note}

pub returns-in-Err-clause-pieces : goal.returns-in-Err-clause-pieces
returns-in-Err-clause-pieces g c =
    let fs = frames_sent c.args.outs.now in
    let left = frames_sent (drop (c.outs.out-index + 1) c.args.outs.now) in
    let next : frames_sent (drop c.outs.out-index c.args.outs.now) ≡ c.in-Send.frame ∷ left = next_sends c.args.outs.now c.outs.out-index c.out-item.result c.in-Send.frame c.outs-test.true c.out-item.is c.in-Send.is in
    stands_stopped c.in-Err.fault fs left c.in-Send.frame _ _ _ (stands_still fs _ _ _ _ next c.outs.invariant.sent) c.in-Err.ensures.pieces c.in-Err.ensures.size

pub outs-preserved : goal.outs-preserved
outs-preserved g c =
    let fs = frames_sent c.args.outs.now in
    let left = frames_sent (drop (c.outs.out-index + 1) c.args.outs.now) in
    elim c.match-out.branch [
      | in-Send+in-Ok w ↦
          let next : frames_sent (drop c.outs.out-index c.args.outs.now) ≡ w.in-Send.frame ∷ left = next_sends c.args.outs.now c.outs.out-index c.out-item.result w.in-Send.frame c.outs-test.true c.out-item.is w.in-Send.is in
          let sent : Stands fs left (g.L.Link.pieces c.args.link.now) (g.L.Link.pieces w.send_frame.new.link) = stands_next fs left w.in-Send.frame _ _ _ (stands_still fs _ _ _ _ next c.outs.invariant.sent) w.in-Ok.ensures.pieces w.in-Ok.ensures.size in
          rw w.link-is (record {
            sent = sent;
            faults = omega (arith, c.outs.invariant.faults, w.send_frame.ensures.cause.later);
            endings = omega (arith, c.outs.invariant.endings, w.send_frame.ensures.endings);
            looks = w.send_frame.ensures.looks ∙ c.outs.invariant.looks;
            permissions = w.send_frame.ensures.permissions ∙ c.outs.invariant.permissions;
          })
      | in-Answer w ↦
          let next = next_answers c.args.outs.now c.outs.out-index c.out-item.result w.in-Answer.call w.in-Answer.answer c.outs-test.true c.out-item.is w.in-Answer.is in
          rw w.link-is (record {
            sent = stands_still fs _ _ _ _ next c.outs.invariant.sent;
            faults = c.outs.invariant.faults;
            endings = c.outs.invariant.endings;
            looks = c.outs.invariant.looks;
            permissions = c.outs.invariant.permissions;
          })
      | in-Note w ↦
          let next = next_notes c.args.outs.now c.outs.out-index c.out-item.result w.in-Note.field-0 c.outs-test.true c.out-item.is w.in-Note.is in
          rw w.link-is (record {
            sent = stands_still fs _ _ _ _ next c.outs.invariant.sent;
            faults = c.outs.invariant.faults;
            endings = c.outs.invariant.endings;
            looks = c.outs.invariant.looks;
            permissions = c.outs.invariant.permissions;
          })
    ]
