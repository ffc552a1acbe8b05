use Rattle.std.proofs.Common.{◌≡◌, ◌∙◌, List, Err, ap, subst, sym, Some}
use Rattle.ct_frame.specs.declared.event.Out.{Out}
use Rattle.ct_wire_link.specs.Parcels.{frames_sent}
use Rattle.ct_wire_link.specs.Sending.{FindsLong, first_long}
use Rattle.ct_wire_link.specs.declared.fault.SendFault.{SendFault}
use Rattle.ct_outside.specs.Told.{Told}
use Rattle.ct_actor_serving.specs.Outside.{SendsOnly}
use Rattle.ct_actor_serving.specs.declared.fault.ServeFault.TheVariants as fault
use Rattle.ct_actor_serving.proofs.Noting.{some_sent}
use Rattle.ct_actor_serving.proofs.items.send_last.Goals as goal

pub returns-in-Err-TooLong-clause-long : goal.returns-in-Err-TooLong-clause-long
returns-in-Err-TooLong-clause-long g c = ap (λ (os : List Out). first_long (frames_sent os)) (sym c.last_outs.ensures) ∙ subst (λ (f : SendFault). FindsLong (Err f) (frames_sent c.last_outs.result.now)) c.in-Err-TooLong.field-0-is c.in-Err-TooLong.ensures.size

pub returns-in-Err-TooLong-clause-sent : goal.returns-in-Err-TooLong-clause-sent
returns-in-Err-TooLong-clause-sent g c =
    let p = g.L.Link.pieces c.args.link.now in
    let q = g.L.Link.pieces c.send_all.new.link in
    subst (λ (os : List Out). Told p q (SendsOnly (Some (fault.TooLong c.in-Err-TooLong.size)) (frames_sent os))) c.last_outs.ensures
    (some_sent c.in-Err-TooLong.field-0 (fault.TooLong c.in-Err-TooLong.size) (frames_sent c.last_outs.result.now) p q c.in-Err-TooLong.ensures.pieces)
