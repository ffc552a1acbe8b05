use Rattle.std.proofs.Common.{◌≡◌, ◌∙◌, List, [], ◌∷◌, ◌++◌, ap, sym}
use Rattle.std.proofs.lemmas.List.{set-get_or}
use Rattle.ct_bus.specs.Relay.{message}
use Rattle.ct_bus.specs.Seats.{posted_at, posted_by}
use Rattle.ct_bus.specs.declared.message.Message.{Message}
use Rattle.ct_bus_threads.specs.Works.{left_of}
use Rattle.ct_bus_threads.proofs.Planning.{held_planned, posted_planned}
use Rattle.ct_bus_threads.proofs.turns.post_next.Goals as goal

pub returns-in-Ok-clause-plan : goal.returns-in-Ok-clause-plan
returns-in-Ok-clause-plan g c =
    let posted : List Message = posted_at c.args.receiver c.args.send.now in
    let m : Message = c.in-Some.field-0 in (
      posted ++ message m.srvid c.in-Ok.field-0 m.body ∷ [],
      c.in-Ok.ensures.posted.1,
      posted_planned posted (left_of c.next_of.new.todo) (left_of c.args.todo.now) m.srvid m.place c.in-Ok.field-0 m.body c.in-Some.ensures.next c.requires.counted c.in-Ok.ensures.posted.0,
    )

pub returns-in-Err-clause-plan : goal.returns-in-Err-clause-plan
returns-in-Err-clause-plan g c =
    let posted : List Message = posted_at c.args.receiver c.args.send.now in
    let m : Message = c.in-Some.field-0 in (
      posted,
      c.in-Err.ensures.posted.1 ∙ sym (set-get_or (posted_by c.args.send.now) c.args.receiver []),
      ap (λ (ms : List Message). posted ++ ms) (held_planned c.next_of.new.todo (left_of c.args.todo.now) m.srvid m.place m.body c.in-Err.body c.in-Err.ensures.posted.0 c.next_of.ensures.held c.in-Some.ensures.next),
    )
