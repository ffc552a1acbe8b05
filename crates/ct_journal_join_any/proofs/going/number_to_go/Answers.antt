use Rattle.std.proofs.Common.{Some, refl}
use Rattle.ct_frame.specs.declared.event.Event.TheVariants as event
use Rattle.ct_journal_join_any.specs.Going.{number_if}
use Rattle.ct_journal_join_any.proofs.Deciding.{call_goes, goes_as, message_as, retry_goes, round_goes, takeover_goes, vacuum_goes}
use Rattle.ct_journal_join_any.proofs.going.number_to_go.Goals as goal

pub returns-in-Client : goal.returns-in-Client
returns-in-Client c = λ js ts cut.
    let w = c.args.world.now in
    goes_as w.config js w.cluster ts c.args.node c.args.event.now (event.Client c.in-Client.call c.in-Client.op) c.number_if.result (number_if c.all_below.result) c.in-Client.is c.number_if.ensures
    (call_goes w.config js w.cluster ts c.args.node c.in-Client.call c.in-Client.op c.args.past.now c.all_below.result c.all_below.ensures cut)

pub returns-in-Arrive : goal.returns-in-Arrive
returns-in-Arrive c = λ js ts cut.
    let w = c.args.world.now in
    goes_as w.config js w.cluster ts c.args.node c.args.event.now (event.Arrive c.in-Arrive.frame) c.find.result c.find.result c.in-Arrive.is refl
    (message_as w.config js w.cluster ts c.args.node c.in-Arrive.frame c.find.result c.requires.kept c.find.ensures.found c.find.ensures.none)

pub returns-in-Retry : goal.returns-in-Retry
returns-in-Retry c = λ js ts cut.
    let w = c.args.world.now in
    goes_as w.config js w.cluster ts c.args.node c.args.event.now event.Retry (Some 0) (Some 0) c.in-Retry.is refl (retry_goes w.config js w.cluster ts c.args.node 0)

pub returns-in-Vacuum : goal.returns-in-Vacuum
returns-in-Vacuum c = λ js ts cut.
    let w = c.args.world.now in
    goes_as w.config js w.cluster ts c.args.node c.args.event.now (event.Vacuum c.in-Vacuum.db) c.number_if-in-Vacuum.result (number_if c.is_free.result) c.in-Vacuum.is c.number_if-in-Vacuum.ensures
    (vacuum_goes w.config js w.cluster ts c.args.node c.in-Vacuum.db c.is_free.result c.is_free.ensures)

pub returns-in-BeginRound : goal.returns-in-BeginRound
returns-in-BeginRound c = λ js ts cut.
    let w = c.args.world.now in
    goes_as w.config js w.cluster ts c.args.node c.args.event.now (event.BeginRound c.in-BeginRound.ticket c.in-BeginRound.members) c.number_if-in-BeginRound.result (number_if c.is_next_ticket.result) c.in-BeginRound.is c.number_if-in-BeginRound.ensures
    (round_goes w.config js w.cluster ts c.args.node c.in-BeginRound.ticket c.in-BeginRound.members c.is_next_ticket.result c.is_next_ticket.ensures)

pub returns-in-BeginTakeover : goal.returns-in-BeginTakeover
returns-in-BeginTakeover c = λ js ts cut.
    let w = c.args.world.now in
    goes_as w.config js w.cluster ts c.args.node c.args.event.now (event.BeginTakeover c.in-BeginTakeover.able) c.number_if-in-BeginTakeover.result (number_if c.may_take_over.result) c.in-BeginTakeover.is c.number_if-in-BeginTakeover.ensures
    (takeover_goes w.config js w.cluster ts c.args.node c.in-BeginTakeover.able c.as_slice.result.now c.may_take_over.result c.as_slice.ensures c.may_take_over.ensures)
