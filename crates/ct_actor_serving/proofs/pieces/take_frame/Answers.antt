use Rattle.std.proofs.Common.{◌≡◌, Ok, refl}
use Rattle.ct_call.specs.Shown.{rules_of}
use Rattle.ct_actor.specs.Journalled.{last_outs}
use Rattle.ct_actor_serving.specs.Serving.{of_link}
use Rattle.ct_actor_serving.proofs.Taking.{arrival_goes, cause_of, sendable}
use Rattle.std.specs.Result.{result_err}
use Rattle.ct_actor_serving.proofs.Noting.{frame_refused, frame_served, step_item, step_ours}
use Rattle.ct_actor_serving.proofs.Telling.{unforeign}
use Rattle.ct_actor_serving.specs.declared.fault.AtLimit.TheVariants as limit
use Rattle.ct_actor_serving.proofs.pieces.take_frame.Goals as goal

pub send_last-requires : goal.send_last-requires
send_last-requires g c = sendable c.args.node.now.core.config c.args.node.now.core.pnn (last_outs c.arrive.new.node.entries) c.in-Ok.ensures.sound

pub returns-in-Ok-clause-goes_on : goal.returns-in-Ok-clause-goes_on
returns-in-Ok-clause-goes_on g c = λ script.
    arrival_goes (rules_of c.args.table.now) script (Ok c.in-Ok.field-0) c.args.frame c.args.node.now c.arrive.new.node c.args.cue.now c.arrive.new.cue c.in-Ok.ensures.fed c.arrive.ensures.acting

pub returns-in-Err-clause-cause : goal.returns-in-Err-clause-cause
returns-in-Err-clause-cause g c =
    let k = of_link g.L.Link.faults g.L.Link.endings g.L.Link.looks c.args.link.now in
    cause_of (limit.Message c.args.frame.sender) c.fault_of.result c.in-Err.fault k k c.fault_of.ensures tt

pub returns-in-Ok-clause-outside : goal.returns-in-Ok-clause-outside
returns-in-Ok-clause-outside g c =
    frame_served (rules_of c.args.table.now) (result_err c.send_last.result) c.in-Ok.field-0 c.args.frame c.args.node.now c.arrive.new.node (g.L.Link.pieces c.args.link.now) (g.L.Link.pieces c.send_last.new.link)
    c.in-Ok.ensures.fed c.send_last.ensures.sent (λ lock. c.send_last.ensures.free lock) c.send_last.ensures.long c.send_last.ensures.piece

pub returns-in-Err-clause-outside : goal.returns-in-Err-clause-outside
returns-in-Err-clause-outside g c =
    frame_refused (rules_of c.args.table.now) c.in-Err.fault c.fault_of.result c.args.frame.sender c.args.frame c.args.node.now c.arrive.new.node (g.L.Link.pieces c.args.link.now)
    c.fault_of.ensures refl c.requires.sound c.requires.ours c.in-Err.ensures.fed

pub returns-in-Err-clause-ours : goal.returns-in-Err-clause-ours
returns-in-Err-clause-ours g c = λ me taken. step_ours (limit.Message c.args.frame.sender) c.in-Err.fault c.fault_of.result me taken c.fault_of.ensures

pub returns-in-Ok-clause-ours : goal.returns-in-Ok-clause-ours
returns-in-Ok-clause-ours g c = λ me taken. unforeign (result_err c.send_last.result) me taken c.send_last.ensures.piece

pub returns-in-Err-clause-item : goal.returns-in-Err-clause-item
returns-in-Err-clause-item g c = step_item c.args.frame.sender c.in-Err.fault c.fault_of.result c.fault_of.ensures
