use Rattle.std.proofs.Common.{◌≡◌, ◌+◌, Ok, ◌∙◌, None, Some, ap, sym}
use Rattle.ct_call.specs.Shown.{rules_of}
use Rattle.ct_frame.specs.declared.event.Event.TheVariants as event
use Rattle.ct_script.specs.declared.plan.PlanItem.{PlanItem}
use Rattle.ct_actor.specs.Journalled.{last_outs}
use Rattle.ct_actor.proofs.Stepping.{asks, leads}
use Rattle.ct_actor_serving.specs.declared.fault.AtLimit.TheVariants as limit
use Rattle.ct_actor_serving.specs.Serving.{HasCause, of_lock}
use Rattle.ct_actor_serving.proofs.Taking.{call_allowed, call_goes, call_taken, cause_of, round_goes, round_taken, round_told, sendable}
use Rattle.ct_actor.specs.Handed.{Core}
use Rattle.ct_actor_serving.specs.declared.fault.ServeFault.TheVariants as fault
use Rattle.ct_actor_serving.proofs.Noting.{call_at_limit, call_noted, lock_same, no_ticket, round_at_limit, round_noted, step_piece, step_refused, ticket_lost}
use Rattle.ct_actor_serving.proofs.Telling.{serves_same}
use Rattle.ct_actor_serving.proofs.items.take.Goals as goal

pub take_call-requires-clause-allowed : goal.take_call-requires-clause-allowed
take_call-requires-clause-allowed g c = call_allowed c.args.node.now.core.config c.args.node.now.core.pnn c.in-Ok.op c.in-Call.op c.args.item.now c.in-Ok.ensures c.in-Call.is c.requires.told

pub returns-in-Ok-take_call-clause-goes_on : goal.returns-in-Ok-take_call-clause-goes_on
returns-in-Ok-take_call-clause-goes_on g c = λ script next.
    call_goes (rules_of c.args.table.now) script (Ok c.in-Ok-take_call.field-0) c.in-Ok.op c.in-Call.op c.args.item.now c.args.node.now c.take_call.new.node c.args.cue.now c.take_call.new.cue
    c.in-Ok.ensures c.in-Call.is next c.in-Ok-take_call.ensures.fed c.take_call.ensures.acting

pub returns-in-Ok-take_call-clause-taken : goal.returns-in-Ok-take_call-clause-taken
returns-in-Ok-take_call-clause-taken g c =
    call_taken (c.args.cue.now.calls + 1) c.in-Ok.op (last_outs c.take_call.new.node.entries) c.args.cue.now c.take_call.new.cue c.in-Ok-take_call.ensures.cue

pub returns-in-Ok-take_call-clause-sendable : goal.returns-in-Ok-take_call-clause-sendable
returns-in-Ok-take_call-clause-sendable g c = sendable c.args.node.now.core.config c.args.node.now.core.pnn (last_outs c.take_call.new.node.entries) c.in-Ok-take_call.ensures.sound

pub returns-in-Err-take_call-clause-cause : goal.returns-in-Err-take_call-clause-cause
returns-in-Err-take_call-clause-cause g c =
    let k = of_lock g.R.RecLock.faults g.R.RecLock.refusals c.args.lock.now in
    cause_of limit.Call c.fault_of.result c.in-Err-take_call.fault k k c.fault_of.ensures tt

pub returns-in-Err-clause-cause : goal.returns-in-Err-clause-cause
unfolding HasCause
returns-in-Err-clause-cause g c = tt

pub returns-in-Ok-take_round-clause-goes_on : goal.returns-in-Ok-take_round-clause-goes_on
returns-in-Ok-take_round-clause-goes_on g c = λ script next.
    round_goes (rules_of c.args.table.now) script (Ok c.in-Ok-take_round.field-0) c.in-Ok-next_ticket.ticket c.in-Ok-duplicate.members c.in-Round.members c.args.item.now c.args.node.now c.take_round.new.node
    c.args.cue.now c.take_round.new.cue c.in-Ok-duplicate.ensures c.in-Round.is next c.in-Ok-take_round.ensures.fed c.take_round.ensures.acting

pub returns-in-Ok-take_round-clause-taken : goal.returns-in-Ok-take_round-clause-taken
returns-in-Ok-take_round-clause-taken g c =
    round_taken c.in-Ok-next_ticket.ticket c.in-Ok-duplicate.members (last_outs c.take_round.new.node.entries) c.args.cue.now c.take_round.new.cue c.in-Ok-take_round.ensures.cue

pub returns-in-Ok-take_round-clause-sendable : goal.returns-in-Ok-take_round-clause-sendable
returns-in-Ok-take_round-clause-sendable g c = sendable c.args.node.now.core.config c.args.node.now.core.pnn (last_outs c.take_round.new.node.entries) c.in-Ok-take_round.ensures.sound

pub returns-in-Err-take_round-clause-cause : goal.returns-in-Err-take_round-clause-cause
returns-in-Err-take_round-clause-cause g c =
    let faults = g.R.RecLock.faults in
    let refusals = g.R.RecLock.refusals in
    cause_of (limit.Round c.in-Ok-next_ticket.ticket) c.fault_of-in-Err-take_round.result c.in-Err-take_round.fault
    (of_lock faults refusals c.args.lock.now) (of_lock faults refusals c.next_ticket.new.lock) c.fault_of-in-Err-take_round.ensures tt

pub returns-in-Err-duplicate-clause-cause : goal.returns-in-Err-duplicate-clause-cause
unfolding HasCause
returns-in-Err-duplicate-clause-cause g c = tt

pub returns-in-Ok-take_call-clause-noted : goal.returns-in-Ok-take_call-clause-noted
returns-in-Ok-take_call-clause-noted g c =
    call_noted (rules_of c.args.table.now) c.in-Ok-take_call.field-0 (c.args.cue.now.calls + 1) c.in-Ok.op c.args.node.now c.take_call.new.node (g.R.RecLock.state c.args.lock.now) c.in-Ok-take_call.ensures.fed

pub returns-in-Err-take_call-clause-stopped : goal.returns-in-Err-take_call-clause-stopped
returns-in-Err-take_call-clause-stopped g c = λ pieces.
    let s = g.R.RecLock.state c.args.lock.now in
    step_refused (rules_of c.args.table.now) limit.Call c.in-Err-take_call.fault c.fault_of.result (event.Client (c.args.cue.now.calls + 1) c.in-Ok.op) c.args.node.now c.take_call.new.node pieces s s
    c.fault_of.ensures tt c.in-Err-take_call.ensures.fed (lock_same c.fault_of.result s)

pub returns-in-Err-take_call-clause-piece : goal.returns-in-Err-take_call-clause-piece
returns-in-Err-take_call-clause-piece g c = step_piece limit.Call c.in-Err-take_call.fault c.fault_of.result c.fault_of.ensures tt

pub returns-in-Err-take_call-clause-next : goal.returns-in-Err-take_call-clause-next
returns-in-Err-take_call-clause-next g c = λ script next.
    let rules = rules_of c.args.table.now in
    let x = c.args.node.now in
    let allowed = call_allowed x.core.config x.core.pnn c.in-Ok.op c.in-Call.op c.args.item.now c.in-Ok.ensures c.in-Call.is c.requires.told in
    call_at_limit rules script c.in-Err-take_call.fault c.fault_of.result c.in-Ok.op c.in-Call.op c.args.item.now x c.take_call.new.node c.args.cue.now c.take_call.new.cue
    c.in-Ok.ensures c.in-Call.is next c.fault_of.ensures (asks rules x c.args.cue.now c.in-Ok.op allowed c.requires.may) c.in-Err-take_call.ensures.fed c.in-Err-take_call.ensures.err

pub returns-in-Err-clause-stopped : goal.returns-in-Err-clause-stopped
returns-in-Err-clause-stopped g c = λ pieces. serves_same (rules_of c.args.table.now) (Some fault.NoMemory) c.args.node.now pieces (g.R.RecLock.state c.args.lock.now) (λ t. tt) tt tt

pub returns-in-Ok-take_round-clause-noted : goal.returns-in-Ok-take_round-clause-noted
returns-in-Ok-take_round-clause-noted g c =
    round_noted (rules_of c.args.table.now) c.in-Ok-take_round.field-0 c.in-Ok-next_ticket.ticket c.pnn.result c.in-Ok-duplicate.members c.args.node.now c.take_round.new.node
    (g.R.RecLock.state c.args.lock.now) (g.R.RecLock.state c.next_ticket.new.lock) c.in-Ok-take_round.ensures.fed c.in-Ok-next_ticket.ensures.told

pub returns-in-Err-take_round-clause-stopped : goal.returns-in-Err-take_round-clause-stopped
returns-in-Err-take_round-clause-stopped g c = λ pieces.
    let s = g.R.RecLock.state c.args.lock.now in
    let t = g.R.RecLock.state c.next_ticket.new.lock in
    step_refused (rules_of c.args.table.now) (limit.Round c.in-Ok-next_ticket.ticket) c.in-Err-take_round.fault c.fault_of-in-Err-take_round.result (event.BeginRound c.in-Ok-next_ticket.ticket c.in-Ok-duplicate.members) c.args.node.now c.take_round.new.node
    pieces s t c.fault_of-in-Err-take_round.ensures tt c.in-Err-take_round.ensures.fed
    (ticket_lost c.fault_of-in-Err-take_round.result c.in-Ok-next_ticket.ticket c.pnn.result s t c.in-Ok-next_ticket.ensures.told)

pub returns-in-Err-take_round-clause-piece : goal.returns-in-Err-take_round-clause-piece
returns-in-Err-take_round-clause-piece g c = step_piece (limit.Round c.in-Ok-next_ticket.ticket) c.in-Err-take_round.fault c.fault_of-in-Err-take_round.result c.fault_of-in-Err-take_round.ensures tt

pub returns-in-Err-take_round-clause-next : goal.returns-in-Err-take_round-clause-next
returns-in-Err-take_round-clause-next g c = λ script next.
    let rules = rules_of c.args.table.now in
    let x = c.args.node.now in
    let told = round_told x.core.config x.core.pnn c.in-Ok-duplicate.members c.in-Round.members c.args.item.now c.in-Ok-duplicate.ensures c.in-Round.is c.requires.told in
    round_at_limit rules script c.in-Err-take_round.fault c.fault_of-in-Err-take_round.result c.in-Ok-next_ticket.ticket c.in-Ok-duplicate.members c.in-Round.members c.args.item.now x c.take_round.new.node
    c.args.cue.now c.take_round.new.cue c.in-Ok-duplicate.ensures c.in-Round.is next c.fault_of-in-Err-take_round.ensures
    (leads x.core.config x.core.pnn x.core.node c.in-Ok-next_ticket.ticket c.in-Ok-duplicate.members told) c.in-Err-take_round.ensures.fed c.in-Err-take_round.ensures.err

pub returns-in-Err-next_ticket-clause-next : goal.returns-in-Err-next_ticket-clause-next
returns-in-Err-next_ticket-clause-next g c = λ script next.
    c.in-Err-next_ticket.ensures.item (rules_of c.args.table.now) script c.in-Round.members c.args.node.now c.args.cue.now (next ∙ ap (λ (i : PlanItem). Some i) c.in-Round.is)

pub returns-in-Err-next_ticket-clause-stopped : goal.returns-in-Err-next_ticket-clause-stopped
returns-in-Err-next_ticket-clause-stopped g c = λ pieces.
    no_ticket (rules_of c.args.table.now) c.in-Err-next_ticket.fault c.pnn.result c.args.node.now pieces (g.R.RecLock.state c.args.lock.now) (g.R.RecLock.state c.next_ticket.new.lock)
    (sym (c.pnn.ensures ∙ ap (λ (k : Core). k.pnn) c.core.ensures)) c.in-Err-next_ticket.ensures.told c.in-Err-next_ticket.ensures.send c.in-Err-next_ticket.ensures.piece

pub returns-in-Err-duplicate-clause-stopped : goal.returns-in-Err-duplicate-clause-stopped
returns-in-Err-duplicate-clause-stopped g c = λ pieces. serves_same (rules_of c.args.table.now) (Some fault.NoMemory) c.args.node.now pieces (g.R.RecLock.state c.args.lock.now) (λ t. tt) tt tt
