use Rattle.std.proofs.Common.{◌<◌, ◌≤◌, length, arith}
use Rattle.ct_journal_join.proofs.Carrying.{carried_without, nobody_carried}
use Rattle.ct_journal_join.proofs.queues.drop_first.Goals as goal

pub returns-then-sender-len-clause-carried : goal.returns-then-sender-len-clause-carried
returns-then-sender-len-clause-carried c nodes ms h =
    let senders = c.args.senders.now.items in
    let inside : c.args.sender < length senders = omega (arith, c.if-sender-len.true, c.len.ensures, c.args.senders.now.ok.0) in
    carried_without nodes c.args.sender c.args.receiver senders c.index_mut.result.now c.drop_first.new.self ms inside c.index_mut.ensures.value c.drop_first.ensures h

pub returns-else-sender-len-clause-carried : goal.returns-else-sender-len-clause-carried
returns-else-sender-len-clause-carried c nodes ms h =
    let past : length c.args.senders.now.items ≤ c.args.sender = omega (arith, c.if-sender-len.false, c.len.ensures, c.args.senders.now.ok.0) in
    nobody_carried nodes c.args.sender c.args.receiver c.args.senders.now.items ms past h
