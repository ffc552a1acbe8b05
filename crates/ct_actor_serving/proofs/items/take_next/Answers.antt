use Rattle.std.proofs.Common.{◌≡◌, refl, [], None, Some}
use Rattle.ct_call.specs.Shown.{rules_of}
use Rattle.ct_actor_serving.specs.Serving.{both, of_link, of_lock}
use Rattle.ct_actor_serving.proofs.Going.{cause_late, link_cause, lock_cause, wide_lock}
use Rattle.ct_actor_serving.proofs.Taking.{acts_may_ask}
use Rattle.ct_actor_serving.proofs.Noting.{no_item}
use Rattle.ct_actor_serving.proofs.Telling.{notes_sent, serves_same}
use Rattle.ct_actor_serving.proofs.items.take_next.Goals as goal

pub take-requires-clause-may : goal.take-requires-clause-may
take-requires-clause-may g c = acts_may_ask (rules_of c.args.part.now.table.now) c.args.part.now.script.now c.args.node.now c.args.cue.now c.requires.acts c.in-Some.ensures.2

pub returns-in-Err-clause-cause : goal.returns-in-Err-clause-cause
returns-in-Err-clause-cause g c =
    let link = of_link g.L.Link.faults g.L.Link.endings g.L.Link.looks in
    let lock = of_lock g.R.RecLock.faults g.R.RecLock.refusals in
    lock_cause c.in-Err.fault (link c.args.link.now) (lock c.args.lock.now) (lock c.take.new.lock) refl refl c.in-Err.ensures.cause

pub returns-in-Err-send_last-clause-cause : goal.returns-in-Err-send_last-clause-cause
returns-in-Err-send_last-clause-cause g c =
    let link = of_link g.L.Link.faults g.L.Link.endings g.L.Link.looks in
    let lock = of_lock g.R.RecLock.faults g.R.RecLock.refusals in
    cause_late c.in-Err-send_last.fault (both (link c.args.link.now) (lock c.args.lock.now)) (both (link c.args.link.now) (lock c.take.new.lock))
    (both (link c.send_last.new.link) (lock c.take.new.lock)) (wide_lock (link c.args.link.now) (lock c.args.lock.now) (lock c.take.new.lock) c.take.ensures.counts)
    (link_cause c.in-Err-send_last.fault (link c.args.link.now) (link c.send_last.new.link) (lock c.take.new.lock) refl refl refl refl c.in-Err-send_last.ensures.cause)

pub returns-in_default-clause-outside : goal.returns-in_default-clause-outside
returns-in_default-clause-outside g c = serves_same (rules_of c.args.part.now.table.now) None c.args.node.now (g.L.Link.pieces c.args.link.now) (g.R.RecLock.state c.args.lock.now) (λ t. tt) tt tt

pub returns-in-Err-clause-outside : goal.returns-in-Err-clause-outside
returns-in-Err-clause-outside g c = c.in-Err.ensures.stopped (g.L.Link.pieces c.args.link.now)

pub returns-in-Ok-send_last-clause-outside : goal.returns-in-Ok-send_last-clause-outside
returns-in-Ok-send_last-clause-outside g c =
    notes_sent (rules_of c.args.part.now.table.now) None [] c.args.node.now c.take.new.node (g.L.Link.pieces c.args.link.now) (g.L.Link.pieces c.send_last.new.link) (g.R.RecLock.state c.args.lock.now) (g.R.RecLock.state c.take.new.lock)
    c.in-Ok.ensures.noted c.in-Ok-send_last.ensures.sent (λ u. tt) tt tt

pub returns-in-Err-send_last-clause-outside : goal.returns-in-Err-send_last-clause-outside
returns-in-Err-send_last-clause-outside g c =
    notes_sent (rules_of c.args.part.now.table.now) (Some c.in-Err-send_last.fault) [] c.args.node.now c.take.new.node (g.L.Link.pieces c.args.link.now) (g.L.Link.pieces c.send_last.new.link) (g.R.RecLock.state c.args.lock.now)
    (g.R.RecLock.state c.take.new.lock) c.in-Ok.ensures.noted c.in-Err-send_last.ensures.sent (λ u. c.in-Err-send_last.ensures.free u) c.in-Err-send_last.ensures.long c.in-Err-send_last.ensures.piece

pub returns-in-Err-clause-next : goal.returns-in-Err-clause-next
returns-in-Err-clause-next g c = c.in-Err.ensures.next c.args.part.now.script.now c.in-Some.ensures.0

pub returns-in-Err-send_last-clause-next : goal.returns-in-Err-send_last-clause-next
returns-in-Err-send_last-clause-next g c =
    no_item (rules_of c.args.part.now.table.now) c.args.part.now.script.now (Some c.in-Err-send_last.fault) c.take.new.node c.take.new.cue c.in-Err-send_last.ensures.item
