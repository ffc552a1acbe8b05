use Rattle.std.proofs.Common.{length, refl}
use Rattle.std.proofs.lemmas.Option.{slice_get_read}
use Rattle.ct_actor.proofs.Waiting.{takes_next}
use Rattle.ct_actor.proofs.queue.next_of.Goals as goal

pub returns : goal.returns
returns c =
    let queues = c.args.queues.now.items in
    takes_next c.args.node c.index_mut.result.now c.next.result queues c.next.new.self (slice_get_read queues (length queues) c.args.node c.index_mut.result.now refl c.requires c.index_mut.ensures.value) c.next.ensures.first c.next.ensures.rest
