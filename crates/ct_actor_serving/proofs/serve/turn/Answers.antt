use Rattle.std.proofs.Common.{refl, ◌≡◌, ℕ, List, None, Some, subst, Ok}
use Rattle.ct_call.specs.Shown.{rules_of}
use Rattle.ct_actor_serving.specs.Serving.{both, of_link, of_lock}
use Rattle.ct_actor_serving.proofs.Going.{cause_late, link_cause, wide_link}
use Rattle.ct_actor_serving.proofs.Noting.{no_item}
use Rattle.ct_outside.specs.Links.{parcel}
use Rattle.ct_actor_serving.specs.Hearing.{ServesPiece}
use Rattle.ct_actor_serving.proofs.Turning.{turn_ends, turn_item, turn_piece}
use Rattle.ct_outside.specs.Told.{Told}
use Rattle.ct_outside.specs.declared.link.Received.{Received}
use Rattle.ct_actor_serving.specs.Outside.{TakesOnly, taken_in}
use Rattle.ct_actor_serving.specs.Turns.{may_wait_at}
use Rattle.ct_actor_serving.proofs.Turns.{asked}
use Rattle.ct_actor_serving.proofs.serve.turn.Goals as goal

pub returns-in-Ok-clause-goes_on : goal.returns-in-Ok-clause-goes_on
returns-in-Ok-clause-goes_on g c = c.in-Ok.ensures.goes_on c.args.part.now.script.now

pub returns-in-Ok-Piece-clause-goes_on : goal.returns-in-Ok-Piece-clause-goes_on
returns-in-Ok-Piece-clause-goes_on g c = c.in-Err-take_piece.ensures.goes_on c.args.part.now.script.now

pub returns-in-Ok-Piece-clause-cause : goal.returns-in-Ok-Piece-clause-cause
returns-in-Ok-Piece-clause-cause g c =
    let link = of_link g.L.Link.faults g.L.Link.endings g.L.Link.looks in
    let lock = of_lock g.R.RecLock.faults g.R.RecLock.refusals c.args.lock.now in
    cause_late c.in-Err-take_piece.fault (both (link c.args.link.now) lock) (both (link c.look.new.link) lock) (both (link c.take_piece.new.link) lock)
    (wide_link (link c.args.link.now) (link c.look.new.link) lock c.look.ensures.counts)
    (link_cause c.in-Err-take_piece.fault (link c.look.new.link) (link c.take_piece.new.link) lock refl refl refl refl c.in-Err-take_piece.ensures.cause)

pub returns-in-Ok-Nothing-clause-cause : goal.returns-in-Ok-Nothing-clause-cause
returns-in-Ok-Nothing-clause-cause g c =
    let link = of_link g.L.Link.faults g.L.Link.endings g.L.Link.looks in
    let lock = of_lock g.R.RecLock.faults g.R.RecLock.refusals in
    cause_late c.in-Err-take_next.fault (both (link c.args.link.now) (lock c.args.lock.now)) (both (link c.look.new.link) (lock c.args.lock.now)) (both (link c.take_next.new.link) (lock c.take_next.new.lock))
    (wide_link (link c.args.link.now) (link c.look.new.link) (lock c.args.lock.now) c.look.ensures.counts) c.in-Err-take_next.ensures.cause

pub returns-clause-cause : goal.returns-clause-cause
returns-clause-cause g c =
    let link = of_link g.L.Link.faults g.L.Link.endings g.L.Link.looks in
    let lock = of_lock g.R.RecLock.faults g.R.RecLock.refusals c.args.lock.now in
    link_cause c.in-Err.fault (link c.args.link.now) (link c.look.new.link) lock refl refl refl refl c.in-Err.ensures.cause

pub returns-in-Ok-clause-outside : goal.returns-in-Ok-clause-outside
returns-in-Ok-clause-outside g c =
    let rules = rules_of c.args.part.now.table.now in
    let p = g.L.Link.pieces c.args.link.now in
    let q = g.L.Link.pieces c.look.new.link in
    let r = g.L.Link.pieces c.take_piece.new.link in
    turn_piece rules None (parcel c.in-Ok-Piece.sender c.in-Ok-Piece.bytes.items) c.args.node.now c.take_piece.new.node p q r (g.R.RecLock.state c.args.lock.now) c.args.readers.now c.take_piece.new.readers
    (subst (λ (r : Received). Told (g.L.Link.pieces c.args.link.now) (g.L.Link.pieces c.look.new.link) (TakesOnly (taken_in (Ok r)))) c.in-Ok-Piece.field-0-is c.in-Ok-Piece.ensures.pieces)
    (subst (λ (bs : List ℕ). ServesPiece rules None (parcel c.in-Ok-Piece.sender bs) c.args.node.now c.take_piece.new.node q r c.args.readers.now c.take_piece.new.readers) c.as_slice.ensures.value c.in-Ok.ensures.outside)

pub returns-in-Ok-Piece-clause-outside : goal.returns-in-Ok-Piece-clause-outside
returns-in-Ok-Piece-clause-outside g c =
    let rules = rules_of c.args.part.now.table.now in
    let p = g.L.Link.pieces c.args.link.now in
    let q = g.L.Link.pieces c.look.new.link in
    let r = g.L.Link.pieces c.take_piece.new.link in
    turn_piece rules (Some c.in-Err-take_piece.fault) (parcel c.in-Ok-Piece.sender c.in-Ok-Piece.bytes.items) c.args.node.now c.take_piece.new.node p q r (g.R.RecLock.state c.args.lock.now) c.args.readers.now c.take_piece.new.readers
    (subst (λ (r : Received). Told (g.L.Link.pieces c.args.link.now) (g.L.Link.pieces c.look.new.link) (TakesOnly (taken_in (Ok r)))) c.in-Ok-Piece.field-0-is c.in-Ok-Piece.ensures.pieces)
    (subst (λ (bs : List ℕ). ServesPiece rules (Some c.in-Err-take_piece.fault) (parcel c.in-Ok-Piece.sender bs) c.args.node.now c.take_piece.new.node q r c.args.readers.now c.take_piece.new.readers) c.as_slice.ensures.value
    c.in-Err-take_piece.ensures.outside)

pub returns-in-Ok-Nothing-clause-outside : goal.returns-in-Ok-Nothing-clause-outside
returns-in-Ok-Nothing-clause-outside g c =
    turn_item (rules_of c.args.part.now.table.now) (Some c.in-Err-take_next.fault) c.args.node.now c.take_next.new.node (g.L.Link.pieces c.args.link.now) (g.L.Link.pieces c.look.new.link) (g.L.Link.pieces c.take_next.new.link)
    (g.R.RecLock.state c.args.lock.now) (g.R.RecLock.state c.take_next.new.lock) c.args.readers.now (subst (λ (r : Received). Told (g.L.Link.pieces c.args.link.now) (g.L.Link.pieces c.look.new.link) (TakesOnly (taken_in (Ok r)))) c.in-Ok-Nothing.field-0-is c.in-Ok-Nothing.ensures.pieces) c.in-Err-take_next.ensures.outside c.in-Err-take_next.ensures.piece

pub returns-in-Ok-take_next-clause-outside : goal.returns-in-Ok-take_next-clause-outside
returns-in-Ok-take_next-clause-outside g c =
    turn_item (rules_of c.args.part.now.table.now) None c.args.node.now c.take_next.new.node (g.L.Link.pieces c.args.link.now) (g.L.Link.pieces c.look.new.link) (g.L.Link.pieces c.take_next.new.link)
    (g.R.RecLock.state c.args.lock.now) (g.R.RecLock.state c.take_next.new.lock) c.args.readers.now (subst (λ (r : Received). Told (g.L.Link.pieces c.args.link.now) (g.L.Link.pieces c.look.new.link) (TakesOnly (taken_in (Ok r)))) c.in-Ok-Nothing.field-0-is c.in-Ok-Nothing.ensures.pieces) c.in-Ok-take_next.ensures.outside c.in-Ok-take_next.ensures.piece

pub returns-in-Ok-Closed-clause-outside : goal.returns-in-Ok-Closed-clause-outside
returns-in-Ok-Closed-clause-outside g c =
    turn_ends (rules_of c.args.part.now.table.now) None c.args.node.now (g.L.Link.pieces c.args.link.now) (g.L.Link.pieces c.look.new.link) (g.R.RecLock.state c.args.lock.now) c.args.readers.now (subst (λ (r : Received). Told (g.L.Link.pieces c.args.link.now) (g.L.Link.pieces c.look.new.link) (TakesOnly (taken_in (Ok r)))) c.in-Ok-Closed.field-0-is c.in-Ok-Closed.ensures.pieces) (λ lock. tt) tt tt

pub returns-clause-outside : goal.returns-clause-outside
returns-clause-outside g c =
    turn_ends (rules_of c.args.part.now.table.now) (Some c.in-Err.fault) c.args.node.now (g.L.Link.pieces c.args.link.now) (g.L.Link.pieces c.look.new.link) (g.R.RecLock.state c.args.lock.now) c.args.readers.now c.in-Err.ensures.pieces
    (λ lock. c.in-Err.ensures.free c.args.node.now lock) c.in-Err.ensures.send c.in-Err.ensures.piece

pub returns-in-Ok-Piece-clause-next : goal.returns-in-Ok-Piece-clause-next
returns-in-Ok-Piece-clause-next g c =
    no_item (rules_of c.args.part.now.table.now) c.args.part.now.script.now (Some c.in-Err-take_piece.fault) c.take_piece.new.node c.take_piece.new.cue c.in-Err-take_piece.ensures.item

pub returns-clause-next : goal.returns-clause-next
returns-clause-next g c = no_item (rules_of c.args.part.now.table.now) c.args.part.now.script.now (Some c.in-Err.fault) c.args.node.now c.args.cue.now c.in-Err.ensures.item

pub returns-in-Ok-clause-permissions : goal.returns-in-Ok-clause-permissions
returns-in-Ok-clause-permissions g c =
    let perm = g.L.Link.permissions in
    asked c.may_wait-waits.result (may_wait_at c.args.part.now.script.now c.args.cue.now) (perm c.args.link.now) (perm c.look.new.link) (perm c.take_piece.new.link) c.may_wait-waits.ensures.may c.look.ensures.permissions c.take_piece.ensures.permissions

pub returns-in-Ok-Piece-clause-permissions : goal.returns-in-Ok-Piece-clause-permissions
returns-in-Ok-Piece-clause-permissions g c =
    let perm = g.L.Link.permissions in
    asked c.may_wait-waits.result (may_wait_at c.args.part.now.script.now c.args.cue.now) (perm c.args.link.now) (perm c.look.new.link) (perm c.take_piece.new.link) c.may_wait-waits.ensures.may c.look.ensures.permissions c.take_piece.ensures.permissions

pub returns-in-Ok-take_next-clause-permissions : goal.returns-in-Ok-take_next-clause-permissions
returns-in-Ok-take_next-clause-permissions g c =
    let perm = g.L.Link.permissions in
    asked c.may_wait-waits.result (may_wait_at c.args.part.now.script.now c.args.cue.now) (perm c.args.link.now) (perm c.look.new.link) (perm c.take_next.new.link) c.may_wait-waits.ensures.may c.look.ensures.permissions c.take_next.ensures.permissions

pub returns-in-Ok-Nothing-clause-permissions : goal.returns-in-Ok-Nothing-clause-permissions
returns-in-Ok-Nothing-clause-permissions g c =
    let perm = g.L.Link.permissions in
    asked c.may_wait-waits.result (may_wait_at c.args.part.now.script.now c.args.cue.now) (perm c.args.link.now) (perm c.look.new.link) (perm c.take_next.new.link) c.may_wait-waits.ensures.may c.look.ensures.permissions c.take_next.ensures.permissions

pub returns-in-Ok-Closed-clause-permissions : goal.returns-in-Ok-Closed-clause-permissions
returns-in-Ok-Closed-clause-permissions g c =
    let perm = g.L.Link.permissions in
    asked c.may_wait-waits.result (may_wait_at c.args.part.now.script.now c.args.cue.now) (perm c.args.link.now) (perm c.look.new.link) (perm c.look.new.link) c.may_wait-waits.ensures.may c.look.ensures.permissions refl

pub returns-clause-permissions : goal.returns-clause-permissions
returns-clause-permissions g c =
    let perm = g.L.Link.permissions in
    asked c.may_wait-waits.result (may_wait_at c.args.part.now.script.now c.args.cue.now) (perm c.args.link.now) (perm c.look.new.link) (perm c.look.new.link) c.may_wait-waits.ensures.may c.look.ensures.permissions refl
