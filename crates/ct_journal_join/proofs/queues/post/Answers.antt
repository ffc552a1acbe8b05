use Rattle.std.proofs.Common.{◌+◌}
use Rattle.std.proofs.lemmas.Result.{on_ok_weaker}
use Rattle.ct_journal.specs.Order.{frames_in}
use Rattle.ct_journal_join.proofs.Carrying.{carried_more}
use Rattle.ct_journal_join.proofs.queues.post.Goals as goal

pub returns-clause-carried : goal.returns-clause-carried
returns-clause-carried c =
    on_ok_weaker c.post.result
    (λ put nodes ms h. carried_more nodes c.args.sender (c.args.sent + 1) (frames_in c.args.outs.now) c.args.senders.now.items c.index_mut.result.now c.post.new.self ms c.requires.there c.index_mut.ensures.value put h)
    c.post.ensures.queued
