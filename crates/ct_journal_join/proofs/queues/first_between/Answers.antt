use Rattle.ct_journal_join.proofs.Carrying.{first_carried, first_of_nobody}
use Rattle.ct_journal_join.proofs.queues.first_between.Goals as goal

pub returns-then-sender-senders : goal.returns-then-sender-senders
returns-then-sender-senders c nodes ms h l =
    first_carried nodes c.args.sender c.args.receiver c.first.result c.args.senders.now c.index-senders-sender.result ms c.if-sender-senders.true c.index-senders-sender.is c.first.ensures h l

pub returns-else-sender-senders : goal.returns-else-sender-senders
returns-else-sender-senders c nodes ms h l = first_of_nobody nodes c.args.sender c.args.receiver c.args.senders.now ms c.if-sender-senders.false h l
